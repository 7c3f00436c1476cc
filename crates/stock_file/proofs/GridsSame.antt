-- Grids whose numbers are the same are one.
use Rattle.std.proofs.Common.{◌≡◌, ℕ, zero, suc, ◌<◌, ℤ, pos, true, ◌&&◌, List, length, get_or, arith, sym, ap, ◌∙◌}
use Rattle.std.specs.Ordering.{int_eq}
use Rattle.std.proofs.lemmas.Bool.{and_parts, eqb-true}
use Rattle.std.proofs.lemmas.Bool.Decides.{Decides-int_eq}
use Rattle.std.proofs.lemmas.List.{ext_get_or}
use Rattle.ray_grid.specs.Grids.{GridSize}
use Rattle.stock_file.specs.SameGrids.{has_same_counts, has_same_origin, has_same_steps, is_same_grid}

pub same_number : (x y : ℤ) → int_eq x y ≡ true → x ≡ y
same_number x y test = (Decides-int_eq x y).0 test

pub same_steps : (a b : GridSize) → has_same_steps a b ≡ true → (a.pitch ≡ b.pitch) × (a.step ≡ b.step)
same_steps a b test =
    let both = and_parts (int_eq a.pitch b.pitch) (int_eq a.step b.step) test in
    (same_number a.pitch b.pitch both.0, same_number a.step b.step both.1)

-- lists of three items that are the same at each place are the same
same_three : {X : Type 0} (d : X) (xs ys : List X) → length xs ≡ 3 → length ys ≡ 3 → get_or xs 0 d ≡ get_or ys 0 d → get_or xs 1 d ≡ get_or ys 1 d
    → get_or xs 2 d ≡ get_or ys 2 d → xs ≡ ys
same_three {X} d xs ys long as_long first second third = ext_get_or d xs ys (long ∙ sym as_long) each
  where
    each : (k : ℕ) → k < length xs → get_or xs k d ≡ get_or ys k d
    each zero low = first
    each (suc zero) low = second
    each (suc (suc zero)) low = third
    each (suc (suc (suc k))) low = absurd (omega (arith, low, long))

pub same_origin : (a b : GridSize) → length a.origin ≡ 3 → length b.origin ≡ 3 → has_same_origin a b ≡ true → a.origin ≡ b.origin
same_origin a b long as_long test =
    let x = and_parts _ _ test in
    let yz = and_parts _ _ x.1 in
    same_three (pos 0) a.origin b.origin long as_long (same_number _ _ x.0) (same_number _ _ yz.0) (same_number _ _ yz.1)

pub same_counts : (a b : GridSize) → length a.counts ≡ 3 → length b.counts ≡ 3 → has_same_counts a b ≡ true → a.counts ≡ b.counts
same_counts a b long as_long test =
    let x = and_parts _ _ test in
    let yz = and_parts _ _ x.1 in
    same_three 0 a.counts b.counts long as_long (eqb-true _ _ x.0) (eqb-true _ _ yz.0) (eqb-true _ _ yz.1)

pub same_grid : (a b : GridSize) → length a.origin ≡ 3 → length a.counts ≡ 3 → length b.origin ≡ 3 → length b.counts ≡ 3
    → is_same_grid a b ≡ true → a ≡ b
same_grid a b origin counts other_origin other_counts test =
    let first = and_parts (has_same_steps a b) (has_same_origin a b && has_same_counts a b) test in
    let rest = and_parts (has_same_origin a b) (has_same_counts a b) first.1 in
    let steps = same_steps a b first.0 in
    let at = same_origin a b origin other_origin rest.0 in
    let many = same_counts a b counts other_counts rest.1 in
    λ i. record { origin = at i; pitch = steps.0 i; step = steps.1 i; counts = many i }
