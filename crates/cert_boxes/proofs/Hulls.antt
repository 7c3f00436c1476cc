-- The first and the last index of a set in a box, range by range.
use Rattle.std.proofs.Common.{◌≡◌, ℕ, ◌+◌, ◌-◌, ◌<◌, ◌≤◌, min, max, Bool, true, leb, ltb, List, length, get_or, take, Some, None, ◌⊎◌, inl, inr, arith, refl, ap, sym, subst, ⊎_elim, ◌∙◌}
use Rattle.std.specs.List.{list_any}
use Rattle.std.proofs.lemmas.Bool.{and_from, and_parts, cases_lt, false_from_ne_true, le-leb, leb-true, lt-ltb, ltb-true, or_cases}
use Rattle.std.proofs.lemmas.List.{take_all}
use Rattle.std.proofs.lemmas.List.Folds.{list_any_at, list_any_more}
use Rattle.vf_spans.specs.Members.{has, in_range, ranges_of}
use Rattle.cert_lines.specs.declared.cell.CertCell.{CertCell}
use Rattle.cert_boxes.specs.Making.{cut_down}
use Rattle.cert_boxes.proofs.Ends.{cut_is, cut_none}

-- the ends, by so many of the ranges, of the indices of a box from a on and below b: none yet where they are b and a
pub record IsHull (set : List Bool) (n a b first end : ℕ) : Type 0 where
  pub after : first < end → a ≤ first
  pub within : first < end → end ≤ b
  pub there : first < end → has set first ≡ true
  pub last : first < end → has set (end - 1) ≡ true
  pub first_none : end ≤ first → first ≡ b
  pub end_none : end ≤ first → end ≡ a
  pub among : (l : ℕ) → a ≤ l → l < b → list_any (in_range l) (take n (ranges_of set)) ≡ true → (first ≤ l) × (l < end)

pub hull_start : (set : List Bool) (a b : ℕ) → a ≤ b → IsHull set 0 a b b a
hull_start set a b order = record {
  after = λ less. absurd (omega arith);
  within = λ less. absurd (omega arith);
  there = λ less. absurd (omega arith);
  last = λ less. absurd (omega arith);
  first_none = λ h. refl;
  end_none = λ h. refl;
  among = λ l after before any. cc;
}

-- a range of the set
in_list : (set : List Bool) (n l : ℕ) (range : ℕ × ℕ) → ((i : ℕ) → has set i ≡ list_any (in_range i) (ranges_of set)) → n < length (ranges_of set) → get_or (ranges_of set) n range ≡ range
    → range.0 ≤ l → l < range.1 → has set l ≡ true
in_list set n l range members low there after before =
    members l
    ∙ list_any_at (in_range l) (ranges_of set) n range low
    (ap (in_range l) there ∙ and_from (leb range.0 l) (ltb l range.1) (le-leb range.0 l after) (lt-ltb l range.1 before))

one_more : (set : List Bool) (n l : ℕ) (range : ℕ × ℕ) → n < length (ranges_of set) → get_or (ranges_of set) n range ≡ range → list_any (in_range l) (take (n + 1) (ranges_of set)) ≡ true
    → (list_any (in_range l) (take n (ranges_of set)) ≡ true) ⊎ ((range.0 ≤ l) × (l < range.1))
one_more set n l range low there any =
    ⊎_elim (λ before. inl before)
    (λ here. let both = and_parts (leb range.0 l) (ltb l range.1) (sym (ap (in_range l) there) ∙ here) in inr (leb-true range.0 l both.0, ltb-true l range.1 both.1))
    (or_cases (list_any (in_range l) (take n (ranges_of set))) (in_range l (get_or (ranges_of set) n range)) (sym (list_any_more (in_range l) (ranges_of set) n range low) ∙ any))

-- a range that has no index of the box
pub hull_kept : (set : List Bool) (n a b first end : ℕ) (range : ℕ × ℕ) → n < length (ranges_of set) → get_or (ranges_of set) n range ≡ range
    → min range.1 b ≤ max range.0 a → IsHull set n a b first end → IsHull set (n + 1) a b first end
hull_kept set n a b first end range low there apart h = record {
  after = h.after;
  within = h.within;
  there = h.there;
  last = h.last;
  first_none = h.first_none;
  end_none = h.end_none;
  among = λ l after before any. ⊎_elim (λ old. h.among l after before old) (λ here. absurd (let f = here.0 in let s = here.1 in omega arith)) (one_more set n l range low there any);
}

-- one that has some
pub hull_more : (set : List Bool) (n a b first end lo hi new later : ℕ) (range : ℕ × ℕ) → ((i : ℕ) → has set i ≡ list_any (in_range i) (ranges_of set))
    → n < length (ranges_of set) → get_or (ranges_of set) n range ≡ range → lo ≡ max range.0 a → hi ≡ min range.1 b → lo < hi → new ≡ min first lo → later ≡ max end hi
    → IsHull set n a b first end → IsHull set (n + 1) a b new later
hull_more set n a b first end lo hi new later range members low there el eh some en ea h =
    let at_lo : has set lo ≡ true = in_list set n lo range members low there (omega arith) (omega arith) in
    let at_hi : has set (hi - 1) ≡ true = in_list set n (hi - 1) range members low there (omega arith) (omega arith) in
    let less : new < later = omega arith in
    let among : (l : ℕ) → a ≤ l → l < b → list_any (in_range l) (take (n + 1) (ranges_of set)) ≡ true → (new ≤ l) × (l < later) =
    λ l after before any.
    ⊎_elim
    (λ old. let is = h.among l after before old in let f = is.0 in let s = is.1 in (omega arith, omega arith))
    (λ here. let f = here.0 in let s = here.1 in (omega arith, omega arith))
    (one_more set n l range low there any) in
    ⊎_elim
    (λ some_yet.
    let f = h.after some_yet in let s = h.within some_yet in
    record {
      after = λ u. omega arith;
      within = λ u. omega arith;
      there = λ u. ⊎_elim
          (λ lower. let e : first ≡ new = omega arith in subst (λ i. has set i ≡ true) e (h.there some_yet))
          (λ higher. let e : lo ≡ new = omega arith in subst (λ i. has set i ≡ true) e at_lo)
          (cases_lt first lo);
      last = λ u. ⊎_elim
          (λ higher. let e : hi - 1 ≡ later - 1 = omega arith in subst (λ i. has set i ≡ true) e at_hi)
          (λ lower. let e : end - 1 ≡ later - 1 = omega arith in subst (λ i. has set i ≡ true) e (h.last some_yet))
          (cases_lt end hi);
      first_none = λ u. absurd (omega arith);
      end_none = λ u. absurd (omega arith);
      among = among;
    })
    (λ none_yet.
    let f = h.first_none none_yet in let s = h.end_none none_yet in
    let en' : lo ≡ new = omega arith in let ea' : hi - 1 ≡ later - 1 = omega arith in
    record {
      after = λ u. omega arith;
      within = λ u. omega arith;
      there = λ u. subst (λ i. has set i ≡ true) en' at_lo;
      last = λ u. subst (λ i. has set i ≡ true) ea' at_hi;
      first_none = λ u. absurd (omega arith);
      end_none = λ u. absurd (omega arith);
      among = among;
    })
    (cases_lt first end)

-- all ranges
abbrev all_among : (set : List Bool) (n a b first end : ℕ) → length (ranges_of set) ≤ n → ((i : ℕ) → has set i ≡ list_any (in_range i) (ranges_of set)) → IsHull set n a b first end
    → (l : ℕ) → a ≤ l → l < b → has set l ≡ true → (first ≤ l) × (l < end)
all_among set n a b first end all members h l after before is =
    h.among l after before (ap (list_any (in_range l)) (take_all n (ranges_of set) all) ∙ sym (members l) ∙ is)

pub hull_cut : (set : List Bool) (box : CertCell) (n first end : ℕ) → length (ranges_of set) ≤ n → ((i : ℕ) → has set i ≡ list_any (in_range i) (ranges_of set))
    → IsHull set n box.a box.b first end → first < end → Some (record box { a = first; b = end }) ≡ cut_down (has set) box
hull_cut set box n first end all members h some =
    let w = h.within some in let f = h.after some in
    sym (cut_is (has set) box first end record {
      after = f;
      some = some;
      within = w;
      first_there = h.there some;
      last_there = h.last some;
      before = λ k after less. false_from_ne_true (has set k) (λ is. let low : k < box.b = omega arith in let m = all_among set n box.a box.b first end all members h k after low is in let one = m.0 in omega arith);
      beyond = λ k more before. false_from_ne_true (has set k) (λ is. let high : box.a ≤ k = omega arith in let m = all_among set n box.a box.b first end all members h k high before is in let other = m.1 in omega arith);
    })

pub hull_none : (set : List Bool) (box : CertCell) (n first end : ℕ) → length (ranges_of set) ≤ n → ((i : ℕ) → has set i ≡ list_any (in_range i) (ranges_of set))
    → IsHull set n box.a box.b first end → end ≤ first → None ≡ cut_down (has set) box
hull_none set box n first end all members h none =
    sym (cut_none (has set) box (λ k after before.
    false_from_ne_true (has set k) (λ is. let m = all_among set n box.a box.b first end all members h k after before is in let one = m.0 in let other = m.1 in omega arith)))
