-- The ranges of a set ascend.
use Rattle.std.proofs.Common.{◌≡◌, ℕ, suc, zero, ◌+◌, ◌<◌, ◌≤◌, Bool, true, false, ◌||◌, leb, ltb, List, [], ◌∷◌, length, get_or, slice_get, take, drop, Some, None, arith, sym, ap, ◌∙◌, subst, ⊎_elim}
use Rattle.std.specs.List.{list_any}
use Rattle.std.proofs.lemmas.Bool.{and_from, and_parts, le-leb, leb-true, lt-ltb, ltb-true, or_cases}
use Rattle.std.proofs.lemmas.List.Folds.{list_any-append, list_any_at, list_any_more}
use Rattle.std.proofs.lemmas.List.{take-append-drop}
use Rattle.std.proofs.lemmas.Option.{get_or_from_slice_get, slice_get_within}
use Rattle.std.proofs.Math.Seq.{drop-cons}
use Rattle.vf_spans.specs.Members.{has, in_range, ranges_from, ranges_of}
use Rattle.vf_spans.proofs.InRanges.{members}

-- ranges one after the other, from an index on
abbrev pub AreAfter : ℕ → List (ℕ × ℕ) → Type 0
AreAfter from [] = Unit {0}
AreAfter from (r ∷ rs) = (from ≤ r.0) × (r.0 < r.1) × AreAfter r.1 rs

record Ascends (flags : List Bool) : Type 0 where
  outside : (at from : ℕ) → from ≤ at → AreAfter from (ranges_from at None flags)
  inside : (at from first : ℕ) → from ≤ first → first < at → AreAfter from (ranges_from at (Some first) flags)

ascends : (flags : List Bool) → Ascends flags
ascends [] = record { outside = λ at from le. tt; inside = λ at from first le lt. (le, lt, tt) }
ascends (true ∷ flags) =
    let rest = ascends flags in record {
      outside = λ at from le. rest.inside (at + 1) from at le (omega arith);
      inside = λ at from first le lt. rest.inside (at + 1) from first le (omega arith);
    }
ascends (false ∷ flags) =
    let rest = ascends flags in record {
      outside = λ at from le. rest.outside (at + 1) from (omega arith);
      inside = λ at from first le lt. (le, lt, rest.outside (at + 1) at (omega arith));
    }

pub ascend : (set : List Bool) → AreAfter 0 (ranges_of set)
ascend set = (ascends set).outside 0 0 (omega arith)

-- an index of some range
within : (i : ℕ) (r : ℕ × ℕ) → in_range i r ≡ true → (r.0 ≤ i) × (i < r.1)
within i r test = let parts = and_parts (leb r.0 i) (ltb i r.1) test in (leb-true r.0 i parts.0, ltb-true i r.1 parts.1)

from_low : (from i : ℕ) (rs : List (ℕ × ℕ)) → AreAfter from rs → list_any (in_range i) rs ≡ true → from ≤ i
from_low from i [] after any = absurd (cc)
from_low from i (r ∷ rs) after any =
    ⊎_elim (λ here. let w = within i r here in omega (arith, after.0, w.0))
    (λ later. let rest = from_low r.1 i rs after.2 later in omega (arith, after.0, after.1, rest))
    (or_cases (in_range i r) (list_any (in_range i) rs) any)

range_from : (from n : ℕ) (rs : List (ℕ × ℕ)) (d : ℕ × ℕ) → AreAfter from rs → n < length rs → from ≤ (get_or rs n d).0
range_from from n [] d after low = absurd (omega arith)
range_from from zero (r ∷ rs) d after low = after.0
range_from from (suc n) (r ∷ rs) d after low = let rest = range_from r.1 n rs d after.2 (omega arith) in omega (arith, after.0, after.1, rest)

-- the ranges before one end before it, and those after it begin after it
earlier_in : (from n i : ℕ) (rs : List (ℕ × ℕ)) (d : ℕ × ℕ) → AreAfter from rs → n < length rs → list_any (in_range i) (take n rs) ≡ true → i < (get_or rs n d).0
earlier_in from n i [] d after low any = absurd (omega arith)
earlier_in from zero i (r ∷ rs) d after low any = absurd (cc)
earlier_in from (suc n) i (r ∷ rs) d after low any =
    ⊎_elim (λ here. let w = within i r here in let rest = range_from r.1 n rs d after.2 (omega arith) in omega (arith, w.1, rest))
    (λ later. earlier_in r.1 n i rs d after.2 (omega arith) later)
    (or_cases (in_range i r) (list_any (in_range i) (take n rs)) any)

later_in : (from n i : ℕ) (rs : List (ℕ × ℕ)) (d : ℕ × ℕ) → AreAfter from rs → n < length rs → list_any (in_range i) (drop (suc n) rs) ≡ true → (get_or rs n d).1 ≤ i
later_in from n i [] d after low any = absurd (omega arith)
later_in from zero i (r ∷ rs) d after low any = from_low r.1 i rs after.2 any
later_in from (suc n) i (r ∷ rs) d after low any = later_in r.1 n i rs d after.2 (omega arith) any

-- a range of a set, by its number
pub record IsRangeOf (set : List Bool) (n : ℕ) (r : ℕ × ℕ) : Type 0 where
  pub low : n < length (ranges_of set)
  pub is : (d : ℕ × ℕ) → get_or (ranges_of set) n d ≡ r
  pub inside : (i : ℕ) → r.0 ≤ i → i < r.1 → has set i ≡ true
  pub earlier : (i : ℕ) → list_any (in_range i) (take n (ranges_of set)) ≡ true → i < r.0
  pub later : (i : ℕ) → list_any (in_range i) (drop (n + 1) (ranges_of set)) ≡ true → r.1 ≤ i

pub range_is : (set : List Bool) (n : ℕ) (r : ℕ × ℕ) → slice_get (ranges_of set) n ≡ Some r → IsRangeOf set n r
range_is set n r there =
    let rs = ranges_of set in
    let low = slice_get_within rs n r there in
    let at : get_or rs n r ≡ r = get_or_from_slice_get rs n r r there in record {
      low = low;
      is = λ d. get_or_from_slice_get rs n r d there;
      inside = λ i from before.
          members set i
          ∙ list_any_at (in_range i) rs n r low (ap (in_range i) at ∙ and_from (leb r.0 i) (ltb i r.1) (le-leb r.0 i from) (lt-ltb i r.1 before));
      earlier = λ i any. subst (λ (s : ℕ × ℕ). i < s.0) at (earlier_in 0 n i rs r (ascend set) low any);
      later = λ i any.
          subst (λ (s : ℕ × ℕ). s.1 ≤ i) at
          (later_in 0 n i rs r (ascend set) low (subst (λ k. list_any (in_range i) (drop k rs) ≡ true) (let q : n + 1 ≡ suc n = omega arith in q) any));
    }

-- one range more from the first, and from the last
pub one_more : (set : List Bool) (n i : ℕ) (r : ℕ × ℕ) → IsRangeOf set n r
    → list_any (in_range i) (take (n + 1) (ranges_of set)) ≡ (list_any (in_range i) (take n (ranges_of set)) || in_range i r)
one_more set n i r is =
    list_any_more (in_range i) (ranges_of set) n r is.low ∙ ap (λ s. list_any (in_range i) (take n (ranges_of set)) || in_range i s) (is.is r)

pub one_before : (set : List Bool) (n i : ℕ) (r : ℕ × ℕ) → IsRangeOf set n r
    → list_any (in_range i) (drop n (ranges_of set)) ≡ (in_range i r || list_any (in_range i) (drop (n + 1) (ranges_of set)))
one_before set n i r is =
    ap (list_any (in_range i)) (drop-cons (ranges_of set) n r is.low)
    ∙ ap (λ s. in_range i s || list_any (in_range i) (drop (suc n) (ranges_of set))) (is.is r)
    ∙ ap (λ k. in_range i r || list_any (in_range i) (drop k (ranges_of set))) (let q : suc n ≡ n + 1 = omega arith in q)

-- an index is in one of the first ranges, or in a later one
pub split_at : (set : List Bool) (n i : ℕ) → has set i ≡ (list_any (in_range i) (take n (ranges_of set)) || list_any (in_range i) (drop n (ranges_of set)))
split_at set n i =
    members set i ∙ ap (list_any (in_range i)) (sym (take-append-drop n (ranges_of set)))
    ∙ list_any-append (in_range i) (take n (ranges_of set)) (drop n (ranges_of set))
