-- What is found over ranges of indices, part by part, and sums of counts.
use Rattle.std.proofs.Common.{◌≡◌, ℕ, zero, suc, ◌+◌, ◌-◌, ◌<◌, ◌≤◌, Bool, false, cond, List, [], ◌∷◌, ◌++◌, map, length, arith, refl, sym, ap, ap₂, ◌∙◌, ◌⊎◌, inl, inr, ⊎_elim, zero-add, add-zero, add_assoc}
use Rattle.std.specs.List.{count_by, range_with_len}
use Rattle.std.proofs.lemmas.Bool.{cases_lt}
use Rattle.std.proofs.lemmas.List.FromFn.{length-range_with_len}
use Rattle.std.proofs.lemmas.List.Sums.{sum_by-append, sum_by-cons}
use Rattle.job_counts.specs.declared.counts.Counts.{Counts}
use Rattle.job_counts.specs.Counts.{AreWithin, no_counts, plus}
use Rattle.dexel_rays.specs.Findings.{Seen, findings, met, none_met, is_fixture_possible, is_fixture_sure, is_new_possible, is_part_possible, is_part_sure, is_rapid_possible, is_rapid_sure, is_removed}
use Rattle.dexel_rays.proofs.Found.{findings_within}
use Rattle.job_model.specs.Sums.{sum_counts}

-- the counts of nothing add nothing, and it doesn't matter which are added first
pub plus_none : (c : Counts) → plus c no_counts ≡ c
plus_none c = λ i. record {
  removed = add-zero c.removed i;
  possible = add-zero c.possible i;
  part_sure = add-zero c.part_sure i;
  part_possible = add-zero c.part_possible i;
  fix_sure = add-zero c.fix_sure i;
  fix_possible = add-zero c.fix_possible i;
  rapid_sure = add-zero c.rapid_sure i;
  rapid_possible = add-zero c.rapid_possible i;
}

pub none_plus : (c : Counts) → plus no_counts c ≡ c
none_plus c = λ i. record {
  removed = zero-add c.removed i;
  possible = zero-add c.possible i;
  part_sure = zero-add c.part_sure i;
  part_possible = zero-add c.part_possible i;
  fix_sure = zero-add c.fix_sure i;
  fix_possible = zero-add c.fix_possible i;
  rapid_sure = zero-add c.rapid_sure i;
  rapid_possible = zero-add c.rapid_possible i;
}

pub plus_apart : (a b c : Counts) → plus (plus a b) c ≡ plus a (plus b c)
plus_apart a b c = λ i. record {
  removed = add_assoc a.removed b.removed c.removed i;
  possible = add_assoc a.possible b.possible c.possible i;
  part_sure = add_assoc a.part_sure b.part_sure c.part_sure i;
  part_possible = add_assoc a.part_possible b.part_possible c.part_possible i;
  fix_sure = add_assoc a.fix_sure b.fix_sure c.fix_sure i;
  fix_possible = add_assoc a.fix_possible b.fix_possible c.fix_possible i;
  rapid_sure = add_assoc a.rapid_sure b.rapid_sure c.rapid_sure i;
  rapid_possible = add_assoc a.rapid_possible b.rapid_possible c.rapid_possible i;
}

-- a number is one from the one on and below the other, or outside these
pub inside_or : (lo hi n : ℕ) (P : Type 0) → (lo ≤ n → n < hi → P) → ((n < lo) ⊎ (hi ≤ n) → P) → P
inside_or lo hi n P inside out =
    ⊎_elim (λ (low : n < lo). out (inl low))
    (λ (ge : lo ≤ n). ⊎_elim (λ (less : n < hi). inside ge less) (λ (high : hi ≤ n). out (inr high)) (cases_lt n hi))
    (cases_lt n lo)

-- a range is its first part and the rest
pub range_parts : (a m n b : ℕ) → a + m ≡ b → range_with_len a (m + n) ≡ range_with_len a m ++ range_with_len b n
range_parts a zero n b e = ap₂ range_with_len (let q : a ≡ b = omega arith in q) (zero-add n)
range_parts a (suc m) n b e =
    ap (range_with_len a) (let q : suc m + n ≡ suc (m + n) = omega arith in q) ∙ ap (λ l. a ∷ l) (range_parts (a + 1) m n b (omega arith))

count_parts : (p : ℕ → Bool) (xs ys : List ℕ) → count_by p (xs ++ ys) ≡ count_by p xs + count_by p ys
count_parts p xs ys = sum_by-append (λ x. cond (p x) 1 0) xs ys

-- what is found at some points and at others
pub found_parts : (see : ℕ → Seen) (xs ys : List ℕ) → findings see (xs ++ ys) ≡ plus (findings see xs) (findings see ys)
found_parts see xs ys = λ i. record {
  removed = count_parts (λ p. is_removed (see p)) xs ys i;
  possible = count_parts (λ p. is_new_possible (see p)) xs ys i;
  part_sure = count_parts (λ p. is_part_sure (see p)) xs ys i;
  part_possible = count_parts (λ p. is_part_possible (see p)) xs ys i;
  fix_sure = count_parts (λ p. is_fixture_sure (see p)) xs ys i;
  fix_possible = count_parts (λ p. is_fixture_possible (see p)) xs ys i;
  rapid_sure = count_parts (λ p. is_rapid_sure (see p)) xs ys i;
  rapid_possible = count_parts (λ p. is_rapid_possible (see p)) xs ys i;
}

-- what is found in a range is what is found in its first part and in the rest
pub found_split : (see : ℕ → Seen) (a m n b : ℕ) → a + m ≡ b
    → findings see (range_with_len a (m + n)) ≡ plus (findings see (range_with_len a m)) (findings see (range_with_len b n))
found_split see a m n b e = ap (findings see) (range_parts a m n b e) ∙ found_parts see (range_with_len a m) (range_with_len b n)

-- tests that say the same in two ranges, one index after the other, give one count
count_as : (p q : ℕ → Bool) (a c n : ℕ) → ((b : ℕ) → b < n → p (a + b) ≡ q (c + b))
    → count_by p (range_with_len a n) ≡ count_by q (range_with_len c n)
count_as p q a c zero same = refl
count_as p q a c (suc n) same =
    let here : p a ≡ q c = ap p (sym (add-zero a)) ∙ same 0 (omega arith) ∙ ap q (add-zero c) in
    let rest = count_as p q (a + 1) (c + 1) n
    (λ b lt. ap p (let e : a + 1 + b ≡ a + (b + 1) = omega arith in e) ∙ same (b + 1) (omega arith) ∙ ap q
    (let e : c + (b + 1) ≡ c + 1 + b = omega arith in e)) in
    sum_by-cons (λ k. cond (p k) 1 0) a (range_with_len (a + 1) n)
    ∙ ap₂ (λ x y. x + y) (ap (λ t. cond t 1 0) here) rest
    ∙ sym (sum_by-cons (λ k. cond (q k) 1 0) c (range_with_len (c + 1) n))

-- points that meet the same rules in two ranges give the same counts
pub found_as : (see see' : ℕ → Seen) (a c n : ℕ) → ((b : ℕ) → b < n → met (see (a + b)) ≡ met (see' (c + b)))
    → findings see (range_with_len a n) ≡ findings see' (range_with_len c n)
found_as see see' a c n same = λ i. record {
  removed = count_as (λ p. is_removed (see p)) (λ p. is_removed (see' p)) a c n (λ b lt. ap (λ m. m.removed) (same b lt)) i;
  possible = count_as (λ p. is_new_possible (see p)) (λ p. is_new_possible (see' p)) a c n (λ b lt. ap (λ m. m.possible) (same b lt)) i;
  part_sure = count_as (λ p. is_part_sure (see p)) (λ p. is_part_sure (see' p)) a c n (λ b lt. ap (λ m. m.part_sure) (same b lt)) i;
  part_possible = count_as (λ p. is_part_possible (see p)) (λ p. is_part_possible (see' p)) a c n
      (λ b lt. ap (λ m. m.part_possible) (same b lt)) i;
  fix_sure = count_as (λ p. is_fixture_sure (see p)) (λ p. is_fixture_sure (see' p)) a c n (λ b lt. ap (λ m. m.fix_sure) (same b lt)) i;
  fix_possible = count_as (λ p. is_fixture_possible (see p)) (λ p. is_fixture_possible (see' p)) a c n
      (λ b lt. ap (λ m. m.fix_possible) (same b lt)) i;
  rapid_sure = count_as (λ p. is_rapid_sure (see p)) (λ p. is_rapid_sure (see' p)) a c n (λ b lt. ap (λ m. m.rapid_sure) (same b lt)) i;
  rapid_possible = count_as (λ p. is_rapid_possible (see p)) (λ p. is_rapid_possible (see' p)) a c n
      (λ b lt. ap (λ m. m.rapid_possible) (same b lt)) i;
}

count_none : (p : ℕ → Bool) (a n : ℕ) → ((k : ℕ) → a ≤ k → k < a + n → p k ≡ false) → count_by p (range_with_len a n) ≡ 0
count_none p a zero none = refl
count_none p a (suc n) none =
    sum_by-cons (λ k. cond (p k) 1 0) a (range_with_len (a + 1) n)
    ∙ ap₂ (λ x y. x + y) (ap (λ t. cond t 1 0) (none a (omega arith) (omega arith)))
    (count_none p (a + 1) n (λ k le lt. none k (omega arith) (omega arith)))

-- points of which each meets none of the rules give no counts
pub found_none : (see : ℕ → Seen) (a n : ℕ) → ((k : ℕ) → a ≤ k → k < a + n → met (see k) ≡ none_met)
    → findings see (range_with_len a n) ≡ no_counts
found_none see a n none = λ i. record {
  removed = count_none (λ p. is_removed (see p)) a n (λ k le lt. ap (λ m. m.removed) (none k le lt)) i;
  possible = count_none (λ p. is_new_possible (see p)) a n (λ k le lt. ap (λ m. m.possible) (none k le lt)) i;
  part_sure = count_none (λ p. is_part_sure (see p)) a n (λ k le lt. ap (λ m. m.part_sure) (none k le lt)) i;
  part_possible = count_none (λ p. is_part_possible (see p)) a n (λ k le lt. ap (λ m. m.part_possible) (none k le lt)) i;
  fix_sure = count_none (λ p. is_fixture_sure (see p)) a n (λ k le lt. ap (λ m. m.fix_sure) (none k le lt)) i;
  fix_possible = count_none (λ p. is_fixture_possible (see p)) a n (λ k le lt. ap (λ m. m.fix_possible) (none k le lt)) i;
  rapid_sure = count_none (λ p. is_rapid_sure (see p)) a n (λ k le lt. ap (λ m. m.rapid_sure) (none k le lt)) i;
  rapid_possible = count_none (λ p. is_rapid_possible (see p)) a n (λ k le lt. ap (λ m. m.rapid_possible) (none k le lt)) i;
}

-- what is found up to an index is what is found in a range below it, where the other points meet none of the rules
pub found_window : (see : ℕ → Seen) (lo n all : ℕ) → lo + n ≤ all → ((k : ℕ) → k < lo → met (see k) ≡ none_met)
    → ((k : ℕ) → lo + n ≤ k → k < all → met (see k) ≡ none_met) → findings see (range_with_len 0 all) ≡ findings see (range_with_len lo n)
found_window see lo n all le before after =
    let rest = all - (lo + n) in
    ap (λ k. findings see (range_with_len 0 k)) (let q : all ≡ lo + (n + rest) = omega arith in q)
    ∙ found_split see 0 lo (n + rest) lo (zero-add lo)
    ∙ ap₂ plus (found_none see 0 lo (λ k ge lt. before k (omega arith))) (found_split see lo n rest (lo + n) refl)
    ∙ none_plus (plus (findings see (range_with_len lo n)) (findings see (range_with_len (lo + n) rest)))
    ∙ ap (plus (findings see (range_with_len lo n))) (found_none see (lo + n) rest (λ k ge lt. after k ge (omega arith)))
    ∙ plus_none (findings see (range_with_len lo n))

-- counts within a number are within a greater one, and counts together within both numbers together
pub within_more : (m m' : ℕ) (c : Counts) → m ≤ m' → AreWithin m c → AreWithin m' c
within_more m m' c le h = record {
  removed = omega (arith, h.removed);
  possible = omega (arith, h.possible);
  part_sure = omega (arith, h.part_sure);
  part_possible = omega (arith, h.part_possible);
  fix_sure = omega (arith, h.fix_sure);
  fix_possible = omega (arith, h.fix_possible);
  rapid_sure = omega (arith, h.rapid_sure);
  rapid_possible = omega (arith, h.rapid_possible);
}

pub within_both : (m n : ℕ) (c d : Counts) → AreWithin m c → AreWithin n d → AreWithin (m + n) (plus c d)
within_both m n c d h k = record {
  removed = omega (arith, h.removed, k.removed);
  possible = omega (arith, h.possible, k.possible);
  part_sure = omega (arith, h.part_sure, k.part_sure);
  part_possible = omega (arith, h.part_possible, k.part_possible);
  fix_sure = omega (arith, h.fix_sure, k.fix_sure);
  fix_possible = omega (arith, h.fix_possible, k.fix_possible);
  rapid_sure = omega (arith, h.rapid_sure, k.rapid_sure);
  rapid_possible = omega (arith, h.rapid_possible, k.rapid_possible);
}

-- what is found in a range is within the number of its indices
pub found_within : (see : ℕ → Seen) (a n most : ℕ) → n ≤ most → AreWithin most (findings see (range_with_len a n))
found_within see a n most le =
    within_more (length (range_with_len a n)) most (findings see (range_with_len a n)) (omega (arith, length-range_with_len a n))
    (findings_within see (range_with_len a n))

-- a sum of counts is that of its first part and of the rest
pub sum_parts : (xs ys : List Counts) → sum_counts (xs ++ ys) ≡ plus (sum_counts xs) (sum_counts ys)
sum_parts [] ys = sym (none_plus (sum_counts ys))
sum_parts (x ∷ xs) ys = ap (plus x) (sum_parts xs ys) ∙ sym (plus_apart x (sum_counts xs) (sum_counts ys))

-- the counts of n numbers from one on
abbrev pub sum_over : (ℕ → Counts) → ℕ → ℕ → Counts
sum_over f a n = sum_counts (map f (range_with_len a n))

pub sum_split : (f : ℕ → Counts) (a m n b : ℕ) → a + m ≡ b → sum_over f a (m + n) ≡ plus (sum_over f a m) (sum_over f b n)
sum_split f a zero n b e =
    ap₂ (sum_over f) (let q : a ≡ b = omega arith in q) (zero-add n) ∙ sym (none_plus (sum_over f b n))
sum_split f a (suc m) n b e =
    ap (sum_over f a) (let q : suc m + n ≡ suc (m + n) = omega arith in q)
    ∙ ap (plus (f a)) (sum_split f (a + 1) m n b (omega arith))
    ∙ sym (plus_apart (f a) (sum_over f (a + 1) m) (sum_over f b n))

-- one number more
pub sum_more : (f : ℕ → Counts) (a n j : ℕ) → a + n ≡ j → sum_over f a (n + 1) ≡ plus (sum_over f a n) (f j)
sum_more f a n j e = sum_split f a n 1 j e ∙ ap (plus (sum_over f a n)) (plus_none (f j))

pub sum_none : (f : ℕ → Counts) (a n : ℕ) → ((k : ℕ) → a ≤ k → k < a + n → f k ≡ no_counts) → sum_over f a n ≡ no_counts
sum_none f a zero none = refl
sum_none f a (suc n) none =
    ap₂ plus (none a (omega arith) (omega arith)) (sum_none f (a + 1) n (λ k le lt. none k (omega arith) (omega arith)))
    ∙ plus_none no_counts

-- a sum over all numbers is that over a window, where the others give no counts
pub sum_window : (f : ℕ → Counts) (lo n all : ℕ) → lo + n ≤ all → ((k : ℕ) → k < lo → f k ≡ no_counts)
    → ((k : ℕ) → lo + n ≤ k → k < all → f k ≡ no_counts) → sum_over f 0 all ≡ sum_over f lo n
sum_window f lo n all le before after =
    let rest = all - (lo + n) in
    ap (sum_over f 0) (let q : all ≡ lo + (n + rest) = omega arith in q)
    ∙ sum_split f 0 lo (n + rest) lo (zero-add lo)
    ∙ ap₂ plus (sum_none f 0 lo (λ k ge lt. before k (omega arith))) (sum_split f lo n rest (lo + n) refl)
    ∙ none_plus (plus (sum_over f lo n) (sum_over f (lo + n) rest))
    ∙ ap (plus (sum_over f lo n)) (sum_none f (lo + n) rest (λ k ge lt. after k ge (omega arith)))
    ∙ plus_none (sum_over f lo n)

-- counts that are the same at each of the numbers have the same sum
pub sum_as : (f g : ℕ → Counts) (a n : ℕ) → ((k : ℕ) → a ≤ k → k < a + n → f k ≡ g k) → sum_over f a n ≡ sum_over g a n
sum_as f g a zero same = refl
sum_as f g a (suc n) same =
    ap₂ plus (same a (omega arith) (omega arith)) (sum_as f g (a + 1) n (λ k le lt. same k (omega arith) (omega arith)))
