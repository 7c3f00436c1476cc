-- A point that meets a slab's bounds is held by it.
use Rattle.std.proofs.Common.{◌≡◌, Bool, true, false, ℕ, ◌<◌, ◌&&◌, List, length, get_or, ℤ, pos, ◌*ℤ◌, ◌≤ℤ◌, int_le, arith}
use Rattle.std.proofs.lemmas.Bool.{and_parts}
use Rattle.std.proofs.lemmas.Int.{ints}
use Rattle.std.proofs.lemmas.List.Folds.{list_any_at}
use Rattle.space.proofs.Tests.{decides_le}
use Rattle.bern_form.specs.Cells.{scaled_square}
use Rattle.bern_form.specs.Slab.{SlabSize, covers}
use Rattle.box_bisect.specs.SlabTests.{no_slab}
use Rattle.width_bisect.specs.Bounds.{HoldsBy, bounds_of, is_between, meets, no_bounds}

-- no number is at least 1 and at most 0
no_number : (x : ℤ) → pos 1 ≤ℤ x → x ≤ℤ pos 0 → ⊥
no_number x low high = omega (arith, ints)

nowhere : (u width : ℤ) → meets no_bounds u width ≡ true → ⊥
nowhere u width met =
    let x = u *ℤ u in let both = and_parts (int_le (pos 1) x) (int_le x (pos 0)) (and_parts (is_between no_bounds u) (int_le width (pos 0)) met).0 in
    no_number x ((decides_le (pos 1) x).0 both.0) ((decides_le x (pos 0)).0 both.1)

pub none_meets : (S : ℕ) (n : ℤ) (slabs : List SlabSize) → HoldsBy no_bounds S n slabs
none_meets S n slabs = record { held = λ u w ahead met. absurd (nowhere u (pos 4 *ℤ w) met) }

regrouped : (a b c d : Bool) → a ≡ true → ((b && c) && d) ≡ true → (a && (b && (c && d))) ≡ true
regrouped true true true d e met = met
regrouped true true false d e met = cc
regrouped true false c d e met = cc
regrouped false b c d e met = cc

covers_met : (S : ℕ) (n : ℤ) (s : SlabSize) (u w : ℤ) → pos 0 ≤ℤ u → meets (bounds_of S n s) u (pos 4 *ℤ w) ≡ true → covers s (pos S) u n w ≡ true
covers_met S n s u w ahead met =
    regrouped (int_le (pos 0) u) (int_le (scaled_square S s.lo *ℤ n) (u *ℤ u)) (int_le (u *ℤ u) (scaled_square S s.hi *ℤ n)) (int_le (pos 4 *ℤ w) (scaled_square S s.dia *ℤ n))
    ((decides_le (pos 0) u).1 ahead) met

pub slab_holds : (S : ℕ) (n : ℤ) (slabs : List SlabSize) (i : ℕ) → i < length slabs → HoldsBy (bounds_of S n (get_or slabs i no_slab)) S n slabs
slab_holds S n slabs i within =
    record { held = λ u w ahead met. list_any_at (λ s. covers s (pos S) u n w) slabs i no_slab within (covers_met S n (get_or slabs i no_slab) u w ahead met) }
