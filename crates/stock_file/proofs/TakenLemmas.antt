-- The bounds of a ray line, taken two by two, make the set that the line stands for.
use Rattle.std.proofs.Common.{◌≡◌, ℕ, ◌+◌, ◌<◌, ◌≤◌, ◌==◌, ◌&&◌, ◌||◌, Bool, true, false, not, IsTrue, List, [], ◌∷◌, length, cond, Option, Some, None, Result, Ok, Err, leb, ltb, nat_le, nat_lt, arith, refl, sym, ap, ap₂, ◌∙◌}
use Rattle.std.proofs.Math.Bool.{and-true}
use Rattle.std.proofs.lemmas.Bool.{and_parts, leb-true, ltb-true, ne_eqb}
use Rattle.vf_spans.specs.Edges.{flags_of}
use Rattle.vf_spans.specs.Members.{has}
use Rattle.stock_file.specs.Numbers.{plain_number}
use Rattle.stock_file.specs.RayLines.{are_ranges, are_ranges_from, bounds_in, bounds_with, set_judged}
use Rattle.stock_file.specs.Taken.{follows, with_pair, with_range}
use Rattle.stock_file.specs.declared.fault.StockWhy.{StockWhy}
use Rattle.stock_file.specs.declared.fault.StockWhy.TheVariants.{StockSyntax, StockOrder}
use Rattle.stock_file.specs.declared.line.Ranges.{Ranges}
use Rattle.stock_file.proofs.BoundLemmas.{from_none, with_ranges}
use Rattle.stock_file.proofs.SetLemmas.{empty_is, length-with, no_flags_of, with_is}

-- a range was read, or a bound is left
abbrev pub has_bounds : ℕ → List ℕ → Bool
has_bounds least [] = not (least == 0)
has_bounds least (bound ∷ bounds) = true

-- what the bounds that are left make of the ranges that were read
abbrev pub ranges_judged : Ranges → Option (List ℕ) → Result (List Bool) StockWhy
ranges_judged ranges None = Err StockSyntax
ranges_judged ranges (Some bounds) =
    cond (ranges.are_ok && (are_ranges_from (length ranges.set) ranges.least bounds && has_bounds ranges.least bounds)) (Ok (with_ranges ranges.set bounds)) (Err StockOrder)

-- no range was read
first_test : (points : ℕ) (bounds : List ℕ) → (are_ranges_from points 0 bounds && has_bounds 0 bounds) ≡ are_ranges points bounds
first_test points [] = refl
first_test points (bound ∷ bounds) = and-true (are_ranges_from points 0 (bound ∷ bounds))

from_ranges : (points : ℕ) (bounds : List ℕ) → are_ranges points bounds ≡ true → are_ranges_from points 0 bounds ≡ true
from_ranges points [] are = refl
from_ranges points (bound ∷ bounds) are = are

pub none_read : (is_due : Bool) (points : ℕ) (set : List Bool) (words : Option (List ℕ)) → length set ≡ points → ((i : ℕ) → has set i ≡ false)
    → ranges_judged (record { set = set; least = 0; are_ok = is_due }) words ≡ set_judged is_due points words
none_read is_due points set None size empty = refl
none_read is_due points set (Some bounds) size empty =
    ap (λ (n : ℕ). cond (is_due && (are_ranges_from n 0 bounds && has_bounds 0 bounds)) (Ok (with_ranges set bounds)) (Err StockOrder)) size
    ∙ ap (λ (t : Bool). cond (is_due && t) (Ok (with_ranges set bounds)) (Err StockOrder)) (first_test points bounds)
    ∙ by_test (is_due && are_ranges points bounds) refl
  where
    by_test : (t : Bool) → (is_due && are_ranges points bounds) ≡ t
        → ◌≡◌ {A = Result (List Bool) StockWhy} (cond t (Ok (with_ranges set bounds)) (Err StockOrder)) (cond t (Ok (flags_of points bounds)) (Err StockOrder))
    by_test true is =
        let (due, are) = and_parts is_due (are_ranges points bounds) is in
        let none : flags_of points [] ≡ set = sym (empty_is set points size empty ∙ no_flags_of points) in
        ap (λ (flags : List Bool). made flags) (from_none points set bounds none (from_ranges points bounds are)).0
      where
        made : List Bool → Result (List Bool) StockWhy
        made flags = Ok flags
    by_test false is = refl

-- a range was read
some_read : (hi : ℕ) (bounds : List ℕ) → has_bounds (hi + 1) bounds ≡ true
some_read hi [] = ap not (ne_eqb (hi + 1) 0 (λ same. omega (arith, same)))
some_read hi (bound ∷ bounds) = refl

pair_test : (a b c d e : Bool) → (a && ((b && (c && (d && e))) && true)) ≡ ((a && (b && (c && d))) && e)
pair_test false b c d e = refl
pair_test true false c d e = refl
pair_test true true false d e = refl
pair_test true true true false e = refl
pair_test true true true true e = and-true e

-- two bounds more make the ranges with a range more
pub pair_read : (ranges : Ranges) (lo hi : ℕ) (words : Option (List ℕ))
    → ranges_judged (with_pair ranges lo hi) words ≡ ranges_judged ranges (bounds_with (Some lo) (bounds_with (Some hi) words))
pair_read ranges lo hi None = refl
pair_read ranges lo hi (Some bounds) =
    by_test (follows ranges lo hi) refl
    ∙ sym (ap (λ (t : Bool). cond t (Ok (with_ranges (with_range set lo hi) bounds)) (Err StockOrder))
    (pair_test ranges.are_ok (nat_le ranges.least lo) (nat_lt lo hi) (nat_le hi (length set)) (are_ranges_from (length set) (hi + 1) bounds)))
  where
    set : List Bool
    set = ranges.set

    more : Ranges
    more = record { set = with_range set lo hi; least = hi + 1; are_ok = true }

    missed : Ranges
    missed = record { set = set; least = ranges.least; are_ok = false }

    later : (true && (are_ranges_from (length (with_range set lo hi)) (hi + 1) bounds && has_bounds (hi + 1) bounds)) ≡ are_ranges_from (length set) (hi + 1) bounds
    later =
        ap (λ (t : Bool). are_ranges_from (length (with_range set lo hi)) (hi + 1) bounds && t) (some_read hi bounds)
        ∙ and-true (are_ranges_from (length (with_range set lo hi)) (hi + 1) bounds)
        ∙ ap (λ (n : ℕ). are_ranges_from n (hi + 1) bounds) (length-with set lo hi)

    by_test : (t : Bool) → follows ranges lo hi ≡ t
        → ranges_judged (cond t more missed) (Some bounds)
        ≡ cond (follows ranges lo hi && are_ranges_from (length set) (hi + 1) bounds) (Ok (with_ranges (with_range set lo hi) bounds)) (Err StockOrder)
    by_test true is =
        ap (λ (t : Bool). cond t (Ok (with_ranges (with_range set lo hi) bounds)) (Err StockOrder))
        (later ∙ sym (ap (λ (t : Bool). t && are_ranges_from (length set) (hi + 1) bounds) is))
    by_test false is =
        sym (ap (λ (t : Bool). cond (t && are_ranges_from (length set) (hi + 1) bounds) (Ok (with_ranges (with_range set lo hi) bounds)) (Err StockOrder)) is)

-- one bound alone is no range
pub odd_read : (ranges : Ranges) (lo : ℕ) → ranges_judged ranges (Some (lo ∷ [])) ≡ Err StockOrder
odd_read ranges lo = by_test ranges.are_ok
  where
    by_test : (t : Bool) → cond (t && (false && true)) (Ok ranges.set) (Err StockOrder) ≡ Err StockOrder
    by_test true = refl
    by_test false = refl

-- nothing is left
pub all_taken : (ranges : Ranges) → ranges.are_ok ≡ true → (ranges.least ≡ 0 → ⊥) → ranges_judged ranges (Some []) ≡ Ok ranges.set
all_taken ranges ok some =
    ap (λ (t : Bool). cond (t && (true && not (ranges.least == 0))) (Ok ranges.set) (Err StockOrder)) ok
    ∙ ap (λ (t : Bool). cond (true && (true && not t)) (Ok ranges.set) (Err StockOrder)) (ne_eqb ranges.least 0 some)

pub not_taken : (ranges : Ranges) → ranges.are_ok ≡ false → ranges_judged ranges (Some []) ≡ Err StockOrder
not_taken ranges wrong = ap (λ (t : Bool). cond (t && (true && not (ranges.least == 0))) (Ok ranges.set) (Err StockOrder)) wrong

pub none_taken : (ranges : Ranges) → ranges.least ≡ 0 → ranges_judged ranges (Some []) ≡ Err StockOrder
none_taken ranges none = ap (λ (n : ℕ). cond (ranges.are_ok && (true && not (n == 0))) (Ok ranges.set) (Err StockOrder)) none ∙ by_test ranges.are_ok
  where
    by_test : (t : Bool) → cond (t && (true && not (0 == 0))) (Ok ranges.set) (Err StockOrder) ≡ Err StockOrder
    by_test true = refl
    by_test false = refl

-- below the next bound lies what a set with a range has
pub still_below : (set new : List Bool) (least lo hi : ℕ) → ((i : ℕ) → IsTrue (has set i) → i + 1 < least) → least ≤ lo → lo < hi
    → ((i : ℕ) → has new i ≡ (has set i || (leb lo i && ltb i hi))) → (i : ℕ) → IsTrue (has new i) → i + 1 < hi + 1
still_below set new least lo hi below from order added i is = by_test (has set i) refl (sym (added i) ∙ is)
  where
    by_test : (t : Bool) → has set i ≡ t → (t || (leb lo i && ltb i hi)) ≡ true → i + 1 < hi + 1
    by_test true member inside = omega (arith, below i member)
    by_test false member inside =
        let (low, high) = and_parts (leb lo i) (ltb i hi) inside in
        omega (arith, ltb-true i hi high)

-- a range that follows is added
pub taken : (ranges : Ranges) (lo hi : ℕ) (new : List Bool) → follows ranges lo hi ≡ true → length new ≡ length ranges.set
    → ((i : ℕ) → has new i ≡ (has ranges.set i || (leb lo i && ltb i hi))) → record { set = new; least = hi + 1; are_ok = ranges.are_ok } ≡ with_pair ranges lo hi
taken ranges lo hi new test size added =
    let (ok, more) = and_parts ranges.are_ok (nat_le ranges.least lo && (nat_lt lo hi && nat_le hi (length ranges.set))) test in
    let (from, rest) = and_parts (nat_le ranges.least lo) (nat_lt lo hi && nat_le hi (length ranges.set)) more in
    let (order, end) = and_parts (nat_lt lo hi) (nat_le hi (length ranges.set)) rest in
    let within : hi ≤ length ranges.set = leb-true hi (length ranges.set) end in
    ap₂ made (with_is ranges.set new lo hi within size added) ok
    ∙ ap (λ (t : Bool). cond t (made (with_range ranges.set lo hi) true) missed) (sym test)
  where
    made : List Bool → Bool → Ranges
    made flags are = record { set = flags; least = hi + 1; are_ok = are }

    missed : Ranges
    missed = record { set = ranges.set; least = ranges.least; are_ok = false }

-- a set without indices lies below any bound
pub none_below : (set : List Bool) (least i : ℕ) → has set i ≡ false → IsTrue (has set i) → i + 1 < least
none_below set least i empty is = let both : false ≡ true = sym empty ∙ is in absurd (cc)

-- the next two words are a range's bounds
pub two_bounds : (rest middle after : List (List ℕ)) (u v : List ℕ) (lo hi : ℕ) → rest ≡ u ∷ middle → middle ≡ v ∷ after → Some lo ≡ plain_number u → Some hi ≡ plain_number v
    → bounds_with (Some lo) (bounds_with (Some hi) (bounds_in after)) ≡ bounds_in rest
two_bounds rest middle after u v lo hi one two low high =
    ap₂ (λ (a b : Option ℕ). bounds_with a (bounds_with b (bounds_in after))) low high
    ∙ sym (ap bounds_in (one ∙ ap (λ (words : List (List ℕ)). u ∷ words) two))
