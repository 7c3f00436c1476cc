-- The first and the last of the indices of a box that are wanted.
use Rattle.std.proofs.Common.{◌≡◌, ℕ, zero, suc, ◌+◌, ◌-◌, ◌<◌, ◌≤◌, Bool, true, false, cond, [], ◌∷◌, ◌++◌, reverse, Some, None, ◌⊎◌, inl, inr, arith, refl, ap, sym, subst, ⊎_elim, ◌∙◌}
use Rattle.std.specs.List.{find, range_with_len}
use Rattle.std.proofs.lemmas.Bool.{cases_Bool, cases_eq, cases_lt}
use Rattle.std.proofs.lemmas.List.{reverse-append}
use Rattle.cert_lines.specs.declared.cell.CertCell.{CertCell}
use Rattle.cert_boxes.specs.Making.{first_to_last, cut_down}

-- the index is wanted, and none of those of the box before it is; and none after it
pub record IsFirstWanted (wanted : ℕ → Bool) (a b l : ℕ) : Type 0 where
  pub after : a ≤ l
  pub within : l < b
  pub there : wanted l ≡ true
  pub before : (k : ℕ) → a ≤ k → k < l → wanted k ≡ false

pub record IsLastWanted (wanted : ℕ → Bool) (a b l : ℕ) : Type 0 where
  pub after : a ≤ l
  pub within : l < b
  pub there : wanted l ≡ true
  pub beyond : (k : ℕ) → l < k → k < b → wanted k ≡ false

abbrev pub NoneWanted : (ℕ → Bool) → ℕ → ℕ → Type 0
NoneWanted wanted a b = (k : ℕ) → a ≤ k → k < b → wanted k ≡ false

-- a search that answers one way or the other
abbrev here : (wanted : ℕ → Bool) (l k : ℕ) → wanted l ≡ false → l ≡ k → wanted k ≡ false
here wanted l k h e = subst (λ i. wanted i ≡ false) e h

first_of_some : (wanted : ℕ → Bool) (a n : ℕ) → ((l : ℕ) × IsFirstWanted wanted a (a + n) l) ⊎ NoneWanted wanted a (a + n)
first_of_some wanted a zero = inr (λ k after before. absurd (omega arith))
first_of_some wanted a (suc n) =
    ⊎_elim
    (λ is. inl (a, record { after = omega arith; within = omega arith; there = is; before = λ k after before. absurd (omega arith) }))
    (λ not_it.
    ⊎_elim
    (λ found. let l = found.0 in let f = found.1 in
    inl (
      l,
      record {
        after = (let h = f.after in omega arith);
        within = (let h = f.within in omega arith);
        there = f.there;
        before = λ k after before. ⊎_elim (λ same. here wanted a k not_it same) (λ other. f.before k (omega arith) before) (cases_eq a k);
      },
    ))
    (λ none. inr (λ k after before. ⊎_elim (λ same. here wanted a k not_it same) (λ other. none k (omega arith) (omega arith)) (cases_eq a k)))
    (first_of_some wanted (a + 1) n))
    (cases_Bool (wanted a))

last_of_some : (wanted : ℕ → Bool) (a n : ℕ) → ((l : ℕ) × IsLastWanted wanted a (a + n) l) ⊎ NoneWanted wanted a (a + n)
last_of_some wanted a zero = inr (λ k after before. absurd (omega arith))
last_of_some wanted a (suc n) =
    ⊎_elim
    (λ is. inl (a + n, record { after = omega arith; within = omega arith; there = is; beyond = λ k after before. absurd (omega arith) }))
    (λ not_it.
    ⊎_elim
    (λ found. let l = found.0 in let f = found.1 in
    inl (
      l,
      record {
        after = f.after;
        within = (let h = f.within in omega arith);
        there = f.there;
        beyond = λ k after before. ⊎_elim (λ same. here wanted (a + n) k not_it same) (λ other. f.beyond k after (omega arith)) (cases_eq (a + n) k);
      },
    ))
    (λ none. inr (λ k after before. ⊎_elim (λ same. here wanted (a + n) k not_it same) (λ other. none k after (omega arith)) (cases_eq (a + n) k)))
    (last_of_some wanted a n))
    (cases_Bool (wanted (a + n)))

-- what is found in a range and in a range backwards
found_first : (wanted : ℕ → Bool) (a n l : ℕ) → IsFirstWanted wanted a (a + n) l → find wanted (range_with_len a n) ≡ Some l
found_first wanted a zero l is = let h = is.after in let g = is.within in absurd (omega arith)
found_first wanted a (suc n) l is =
    let rest = find wanted (range_with_len (a + 1) n) in
    ⊎_elim
    (λ same. ap (λ b. cond b (Some a) rest) (subst (λ i. wanted i ≡ true) (sym same) is.there) ∙ ap (λ i. Some i) same)
    (λ other.
    let h = is.after in let g = is.within in
    let later : IsFirstWanted wanted (a + 1) ((a + 1) + n) l = record { after = omega arith; within = omega arith; there = is.there; before = λ k after before. is.before k (omega arith) before } in
    ap (λ b. cond b (Some a) rest) (is.before a (omega arith) (omega arith)) ∙ found_first wanted (a + 1) n l later)
    (cases_eq a l)

found_none : (wanted : ℕ → Bool) (a n : ℕ) → NoneWanted wanted a (a + n) → find wanted (range_with_len a n) ≡ None
found_none wanted a zero none = refl
found_none wanted a (suc n) none =
    ap (λ b. cond b (Some a) (find wanted (range_with_len (a + 1) n))) (none a (omega arith) (omega arith))
    ∙ found_none wanted (a + 1) n (λ k after before. none k (omega arith) (omega arith))

range_more : (a n : ℕ) → range_with_len a (suc n) ≡ range_with_len a n ++ (a + n) ∷ []
range_more a zero = ap (λ x. x ∷ []) (omega arith)
range_more a (suc n) = ap (λ xs. a ∷ xs) (range_more (a + 1) n ∙ ap (λ x. range_with_len (a + 1) n ++ x ∷ []) (omega arith))

backwards : (a n : ℕ) → reverse (range_with_len a (suc n)) ≡ (a + n) ∷ reverse (range_with_len a n)
backwards a n = ap reverse (range_more a n) ∙ reverse-append (range_with_len a n) ((a + n) ∷ [])

found_last : (wanted : ℕ → Bool) (a n l : ℕ) → IsLastWanted wanted a (a + n) l → find wanted (reverse (range_with_len a n)) ≡ Some l
found_last wanted a zero l is = let h = is.after in let g = is.within in absurd (omega arith)
found_last wanted a (suc n) l is =
    let rest = find wanted (reverse (range_with_len a n)) in
    ap (find wanted) (backwards a n)
    ∙ ⊎_elim
    (λ same. ap (λ b. cond b (Some (a + n)) rest) (subst (λ i. wanted i ≡ true) (sym same) is.there) ∙ ap (λ i. Some i) same)
    (λ other.
    let h = is.after in let g = is.within in
    let earlier : IsLastWanted wanted a (a + n) l = record { after = is.after; within = omega arith; there = is.there; beyond = λ k after before. is.beyond k after (omega arith) } in
    ap (λ b. cond b (Some (a + n)) rest) (is.beyond (a + n) (omega arith) (omega arith)) ∙ found_last wanted a n l earlier)
    (cases_eq (a + n) l)

-- a box cut down to the indices from the first to the last that is wanted
pub record IsCut (wanted : ℕ → Bool) (box : CertCell) (first end : ℕ) : Type 0 where
  pub after : box.a ≤ first
  pub some : first < end
  pub within : end ≤ box.b
  pub first_there : wanted first ≡ true
  pub last_there : wanted (end - 1) ≡ true
  pub before : (k : ℕ) → box.a ≤ k → k < first → wanted k ≡ false
  pub beyond : (k : ℕ) → end ≤ k → k < box.b → wanted k ≡ false

pub cut_none : (wanted : ℕ → Bool) (box : CertCell) → NoneWanted wanted box.a box.b → cut_down wanted box ≡ None
cut_none wanted box none =
    let indices = range_with_len box.a (box.b - box.a) in
    ap (λ f. first_to_last box f (find wanted (reverse indices)))
    (found_none wanted box.a (box.b - box.a) (λ k after before. none k after (omega arith)))

pub cut_is : (wanted : ℕ → Bool) (box : CertCell) (first end : ℕ) → IsCut wanted box first end → cut_down wanted box ≡ Some (record box { a = first; b = end })
cut_is wanted box first end cut =
    let n = box.b - box.a in let indices = range_with_len box.a n in
    let h = cut.after in let g = cut.some in let w = cut.within in
    let whole : box.a + n ≡ box.b = omega arith in
    let one : IsFirstWanted wanted box.a (box.a + n) first = record { after = cut.after; within = omega arith; there = cut.first_there; before = cut.before } in
    let other : IsLastWanted wanted box.a (box.a + n) (end - 1) = record { after = omega arith; within = omega arith; there = cut.last_there; beyond = λ k after before. cut.beyond k (omega arith) (omega arith) } in
    ap (λ f. first_to_last box f (find wanted (reverse indices))) (found_first wanted box.a n first one)
    ∙ ap (first_to_last box (Some first)) (found_last wanted box.a n (end - 1) other)
    ∙ ap (λ (e : ℕ). Some (record box { a = first; b = e })) (omega arith)

-- one of both is so
apart : (wanted : ℕ → Bool) (l : ℕ) → wanted l ≡ false → wanted l ≡ true → ⊥
apart wanted l h k = cc

pub cases_cut : (wanted : ℕ → Bool) (box : CertCell) → ((first : ℕ) × (end : ℕ) × IsCut wanted box first end) ⊎ NoneWanted wanted box.a box.b
cases_cut wanted box =
    let n = box.b - box.a in
    ⊎_elim
    (λ one. ⊎_elim
    (λ other.
    let f = one.1 in let l = other.1 in let first = one.0 in let last = other.0 in
    let h = f.after in let g = f.within in let i = l.after in let j = l.within in
    let order : first ≤ last = ⊎_elim (λ less. absurd (apart wanted first (l.beyond first less (omega arith)) f.there)) (λ fine. fine) (cases_lt last first) in
    let back : (last + 1) - 1 ≡ last = omega arith in
    inl (
      first,
      last + 1,
      record {
        after = f.after;
        some = omega arith;
        within = omega arith;
        first_there = f.there;
        last_there = subst (λ k. wanted k ≡ true) (sym back) l.there;
        before = f.before;
        beyond = λ k after before. l.beyond k (omega arith) (omega arith);
      },
    ))
    (λ none. let h = one.1 in let g = h.after in let i = h.within in absurd (apart wanted one.0 (none one.0 g i) h.there))
    (last_of_some wanted box.a n))
    (λ none. inr (λ k after before. none k after (omega arith)))
    (first_of_some wanted box.a n)
