-- What holds of a number holds of what its word reads as.
use Rattle.std.proofs.Common.{◌≡◌, false, ◌≤◌, ◌<◌, ◌^◌, ◌+◌, ◌*◌, ◌≤ℤ◌, ◌+ℤ◌, [], ◌∷◌, List, ℕ, ℤ, pos, to_z, of_z, unsigned_abs, FitsSigned, arith, refl, ◌∙◌}
use Rattle.std.specs.Int.Signed.{lt_z}
use Rattle.std.proofs.lemmas.Int.{ints, to_z-of_z}
use borrow.Author.Differences.{abs_is}
use borrow.Author.Rules.{sfits_of}
use lib.Signed.{mag}
use mir.Syntax.{w32, w64, w128}
use Rattle.space.specs.Ranges.{IsWithin, vector_limit}
use Rattle.space.specs.Vectors.{at}
use Rattle.space.proofs.Facts.{fits128}
use Rattle.sweep_boxes.specs.Limits.{place_limit, side_component_limit}
use Rattle.space.proofs.Words.{fits_of, kept_in, small_in, kept_small, small32_in}

pub place_fits : (z : ℤ) → unsigned_abs z ≤ place_limit → FitsSigned w32 z
place_fits z small = omega (arith, ints, small, abs_is z)

pub kept_place : (z : ℤ) → unsigned_abs z ≤ place_limit → unsigned_abs (to_z w32 (of_z w32 z)) ≤ place_limit
kept_place z small = small32_in z place_limit (place_fits z small) small

pub same64 : (x z : ℤ) → mag x < 2 ^ 63 → mag z < 2 ^ 127 → x ≡ to_z w128 (of_z w128 z) → to_z w64 (of_z w64 x) ≡ z
same64 x z short fits is = to_z-of_z w64 x (sfits_of {w = w64} {z = x} short) ∙ is ∙ to_z-of_z w128 z (fits_of z fits)

-- what a comparison says
pub not_below : (z n : ℤ) → lt_z z n ≡ false → n ≤ℤ z
not_below z n h = omega (arith, ints, h)

pub small_up_to : (z : ℤ) (n : ℕ) → pos 0 ≤ℤ z → lt_z (pos n) z ≡ false → unsigned_abs z ≤ n
small_up_to z n some h = omega (arith, ints, some, h, abs_is z)

-- lengths that are added
pub summand : (z : ℤ) → mag z < 2 ^ 127 → unsigned_abs z ≤ 10 ^ 18 → unsigned_abs (to_z w128 (of_z w128 z)) ≤ 10 ^ 37
summand z fits small = kept_small z (10 ^ 37) fits (wider (unsigned_abs z) small) where
  wider : (n : ℕ) → n ≤ 10 ^ 18 → n ≤ 10 ^ 37
  wider n h = omega (arith, h)

twice_small : (s a : ℤ) → unsigned_abs s ≤ unsigned_abs a + unsigned_abs a → unsigned_abs a ≤ 10 ^ 18 → unsigned_abs s ≤ 10 ^ 37
twice_small s a h k = omega (arith, h, k)

pub twice : (s z : ℤ) → mag s < 2 ^ 127 → mag z < 2 ^ 127
    → unsigned_abs s ≤ unsigned_abs (to_z w128 (of_z w128 z)) + unsigned_abs (to_z w128 (of_z w128 z)) → unsigned_abs z ≤ 10 ^ 18
    → unsigned_abs (to_z w128 (of_z w128 s)) ≤ 10 ^ 37
twice s z fits f h k = kept_small s (10 ^ 37) fits (twice_small s (to_z w128 (of_z w128 z)) h (kept_small z (10 ^ 18) f k))

-- numbers that are known to be small
kept_below : (z : ℤ) (n : ℕ) → unsigned_abs z ≤ n → n < 2 ^ 127 → unsigned_abs (to_z w128 (of_z w128 z)) ≤ n
kept_below z n small few = small_in z n (fits128 z n small few) small

pub kept_axis : (z : ℤ) → unsigned_abs z ≤ vector_limit → unsigned_abs (to_z w128 (of_z w128 z)) ≤ vector_limit
kept_axis z small = kept_below z vector_limit small (omega arith)

pub kept_height : (z : ℤ) → unsigned_abs z ≤ 4 * 10 ^ 18 → unsigned_abs (to_z w128 (of_z w128 z)) ≤ 4 * 10 ^ 18
kept_height z small = kept_below z (4 * 10 ^ 18) small (omega arith)

pub kept_moment : (z : ℤ) → unsigned_abs z ≤ 3 * 10 ^ 18 → unsigned_abs (to_z w128 (of_z w128 z)) ≤ 3 * 10 ^ 18
kept_moment z small = kept_below z (3 * 10 ^ 18) small (omega arith)

pub kept_square : (z : ℤ) → unsigned_abs z ≤ 3 * (vector_limit * vector_limit)
    → unsigned_abs (to_z w128 (of_z w128 z)) ≤ 3 * (vector_limit * vector_limit)
kept_square z small = kept_below z (3 * (vector_limit * vector_limit)) small (omega arith)

pub kept_tip : (z : ℤ) → unsigned_abs z ≤ 128 * place_limit → unsigned_abs (to_z w128 (of_z w128 z)) ≤ 128 * place_limit
kept_tip z small = kept_below z (128 * place_limit) small (omega arith)

-- how far from zero products of two vectors are
pub product_small : (n : ℕ) → n ≤ 3 * (vector_limit * vector_limit) → n ≤ 48 * (vector_limit * vector_limit)
product_small n h = omega (arith, h)

distance_small : (z : ℤ) (d : ℕ) → z ≡ pos d → d ≤ 48 * (vector_limit * vector_limit) → unsigned_abs z ≤ 10 ^ 37
distance_small z d is h = omega (arith, ints, is, h, abs_is z)

distance_few : (z : ℤ) (d : ℕ) → z ≡ pos d → d ≤ 48 * (vector_limit * vector_limit) → unsigned_abs z ≤ 48 * (vector_limit * vector_limit)
distance_few z d is h = omega (arith, ints, is, h, abs_is z)

pub distance_below : (z d : ℤ) → mag z < 2 ^ 127 → mag d < 2 ^ 127 → z ≡ pos (unsigned_abs (to_z w128 (of_z w128 d)))
    → unsigned_abs d ≤ 48 * (vector_limit * vector_limit)
    → unsigned_abs (to_z w128 (of_z w128 z)) ≤ 48 * (vector_limit * vector_limit)
distance_below z d fits f is h =
    kept_small z (48 * (vector_limit * vector_limit)) fits (distance_few z (unsigned_abs (to_z w128 (of_z w128 d))) is (kept_small d (48 * (vector_limit * vector_limit)) f h))

pub distance_in : (z d : ℤ) → mag z < 2 ^ 127 → mag d < 2 ^ 127 → z ≡ pos (unsigned_abs (to_z w128 (of_z w128 d)))
    → unsigned_abs d ≤ 48 * (vector_limit * vector_limit)
    → unsigned_abs (to_z w128 (of_z w128 z)) ≤ 10 ^ 37
distance_in z d fits f is h = kept_small z (10 ^ 37) fits (distance_small z (unsigned_abs (to_z w128 (of_z w128 d))) is (kept_small d (48 * (vector_limit * vector_limit)) f h))

length_small : (z : ℤ) (d : ℕ) → z ≡ pos d → d ≤ 3 * (vector_limit * vector_limit) → unsigned_abs z ≤ 10 ^ 18
length_small z d is h = omega (arith, ints, is, h, abs_is z)

pub length_in : (z d : ℤ) → mag z < 2 ^ 127 → mag d < 2 ^ 127 → z ≡ pos (unsigned_abs (to_z w128 (of_z w128 d)))
    → unsigned_abs d ≤ 3 * (vector_limit * vector_limit)
    → unsigned_abs (to_z w128 (of_z w128 z)) ≤ 10 ^ 18
length_in z d fits f is h = kept_small z (10 ^ 18) fits (length_small z (unsigned_abs (to_z w128 (of_z w128 d))) is (kept_small d (3 * (vector_limit * vector_limit)) f h))

-- the square of an axis
pub long_fits : (z : ℤ) → pos 0 ≤ℤ z → z ≤ℤ pos (3 * (vector_limit * vector_limit)) → FitsSigned w128 z
long_fits z some few = omega (arith, ints, some, few)

long_small : (z : ℤ) → pos 0 ≤ℤ z → z ≤ℤ pos (3 * (vector_limit * vector_limit)) → unsigned_abs z ≤ 10 ^ 36
long_small z some few = omega (arith, ints, some, few, abs_is z)

pub long_some : (z : ℤ) → (pos 0 ≤ℤ z) × (z ≤ℤ pos (3 * (vector_limit * vector_limit))) → pos 0 ≤ℤ to_z w128 (of_z w128 z)
long_some z h = kept_in (λ (y : ℤ). pos 0 ≤ℤ y) z (long_fits z h.0 h.1) h.0

pub long_few : (z : ℤ) → (pos 0 ≤ℤ z) × (z ≤ℤ pos (3 * (vector_limit * vector_limit)))
    → to_z w128 (of_z w128 z) ≤ℤ pos (3 * (vector_limit * vector_limit))
long_few z h = kept_in (λ (y : ℤ). y ≤ℤ pos (3 * (vector_limit * vector_limit))) z (long_fits z h.0 h.1) h.1

pub long_in : (z : ℤ) → (pos 0 ≤ℤ z) × (z ≤ℤ pos (3 * (vector_limit * vector_limit))) → unsigned_abs (to_z w128 (of_z w128 z)) ≤ 10 ^ 36
long_in z h = small_in z (10 ^ 36) (long_fits z h.0 h.1) (long_small z h.0 h.1)

pub scale_few : (scale : ℕ) → scale ≤ 128 → scale ≤ 256
scale_few scale h = omega (arith, h)

pub side_within : (v : List ℤ) → IsWithin side_component_limit v → IsWithin vector_limit v
side_within v h = (component (at v 0) h.0, component (at v 1) h.1, component (at v 2) h.2) where
  component : (z : ℤ) → unsigned_abs z ≤ side_component_limit → unsigned_abs z ≤ vector_limit
  component z h = omega (arith, h)

pub tip_within : (v : List ℤ) → IsWithin (128 * place_limit) v → IsWithin vector_limit v
tip_within v h = (component (at v 0) h.0, component (at v 1) h.1, component (at v 2) h.2) where
  component : (z : ℤ) → unsigned_abs z ≤ 128 * place_limit → unsigned_abs z ≤ vector_limit
  component z h = omega (arith, h)
