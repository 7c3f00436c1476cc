-- The first number whose multiple of a spacing comes up to a place, and how far past the place it is.
use Rattle.std.proofs.Common.{◌≡◌, ℕ, ◌+◌, ◌-◌, ◌*◌, ◌/◌, ◌<◌, ◌≤◌, ℤ, pos, negsuc, ◌+ℤ◌, ◌-ℤ◌, ◌*ℤ◌, ◌≤ℤ◌, unsigned_abs, arith, refl, ⊎_elim}
use Rattle.std.proofs.Math.Nat.{mul-le-mul_right}
use Rattle.std.proofs.lemmas.Bool.{cases_lt}
use Rattle.std.proofs.lemmas.Int.{ints}
use Rattle.ray_grid.proofs.Distances.{within_is}
use Rattle.ray_grid.proofs.Sizes.{abs_is, times_is}
use Rattle.laws.specs.SeenGouge.{IsFirstAbove, IsOnSide, first_above}

-- the distance and the spacing as natural numbers
record Measured (k s n : ℕ) : Type 0 where
  above : k ≤ n * s
  near : n * s < k + s
  least : (m : ℕ) → k ≤ m * s → n ≤ m

measured : (k s : ℕ) → 1 ≤ s → Measured k s ((k + (s - 1)) / s)
measured k s some =
    let n = (k + (s - 1)) / s in
    let low = (within_is (k + (s - 1)) s n some).0 (omega arith) in
    let high : k + (s - 1) < (n + 1) * s = ⊎_elim (λ l. l) (λ g. absurd (let more = (within_is (k + (s - 1)) s (n + 1) some).1 g in omega arith)) (cases_lt (k + (s - 1)) ((n + 1) * s)) in
    record {
      above = omega arith;
      near = omega arith;
      least = λ m far. ⊎_elim (λ l. let times = mul-le-mul_right s (let q : m + 1 ≤ n = omega arith in q) in absurd (omega arith)) (λ g. g) (cases_lt m n);
    }

natural_is : (z : ℤ) → pos 0 ≤ℤ z → z ≡ pos (unsigned_abs z)
natural_is (pos n) h = refl
natural_is (negsuc n) h = absurd (omega (arith, ints))

distance_is : (origin place : ℤ) → origin ≤ℤ place → (place -ℤ origin) ≡ pos (unsigned_abs (place -ℤ origin))
distance_is origin place from = natural_is (place -ℤ origin) (omega (arith, ints))

pub is_first : (origin spacing place : ℤ) → pos 1 ≤ℤ spacing → origin ≤ℤ place → IsFirstAbove origin spacing place (first_above origin spacing place)
is_first origin spacing place some from =
    let size = abs_is spacing some in
    let far = distance_is origin place from in
    let k = unsigned_abs (place -ℤ origin) in
    let s = unsigned_abs spacing in
    let n = first_above origin spacing place in
    let by_naturals = measured k s (omega (arith, ints)) in
    let times = times_is n spacing some in
    let above = by_naturals.above in
    record {
      above = omega (arith, ints);
      least = λ m reaches. let more = times_is m spacing some in by_naturals.least m (omega (arith, ints));
    }

-- and it lies less than a spacing past the place
pub is_on_side : (origin spacing place : ℤ) → pos 1 ≤ℤ spacing → origin ≤ℤ place → IsOnSide place spacing (origin +ℤ (pos (first_above origin spacing place) *ℤ spacing))
is_on_side origin spacing place some from =
    let size = abs_is spacing some in
    let far = distance_is origin place from in
    let k = unsigned_abs (place -ℤ origin) in
    let s = unsigned_abs spacing in
    let n = first_above origin spacing place in
    let by_naturals = measured k s (omega (arith, ints)) in
    let times = times_is n spacing some in
    let above = by_naturals.above in
    let near = by_naturals.near in
    record { from_lower = omega (arith, ints); before_upper = omega (arith, ints) }
