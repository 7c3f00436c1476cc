-- The numbers of a grid, cast to the bits that they are kept in.
use Rattle.std.proofs.Common.{◌≡◌, true, ℤ, pos, neg_ℤ, ◌≤ℤ◌, unsigned_abs, to_z, of_z, w32, w64, Fits, FitsSigned, List, ap, arith}
use lib.Dec.{T}
use lib.Signed.{non_neg}
use borrow.Author.Differences.{abs_is as size_is}
use Rattle.std.specs.Prelude.{int_le}
use Rattle.std.proofs.lemmas.Bool.{and_parts}
use Rattle.std.proofs.lemmas.Int.{ints}
use Rattle.space.specs.Ranges.{IsBetween, metre}
use Rattle.space.specs.Vectors.{at}
use Rattle.ray_grid.specs.Ranges.{most_nodes}
use Rattle.setup_file.specs.Grids.{AreCoordinates, CountsFit, is_count, last_point}
use Rattle.setup_file.specs.Reads.{is_between}
use Rattle.setup_file.proofs.Casts.{cast_back, narrowed, passed}
use Rattle.setup_file.proofs.GridShown.{is_between-true}

-- each number as it was
pub record AreCast (origin : List ℤ) (pitch step : ℤ) (counts : List ℤ) : Type 0 where
  pub x : to_z w32 (of_z w32 (to_z w64 (of_z w64 (at origin 0)))) ≡ at origin 0
  pub y : to_z w32 (of_z w32 (to_z w64 (of_z w64 (at origin 1)))) ≡ at origin 1
  pub z : to_z w32 (of_z w32 (to_z w64 (of_z w64 (at origin 2)))) ≡ at origin 2
  pub pitch_is : to_z w32 (of_z w32 (to_z w64 (of_z w64 pitch))) ≡ pitch
  pub step_is : to_z w32 (of_z w32 (to_z w64 (of_z w64 step))) ≡ step
  pub along_x : unsigned_abs (to_z w64 (of_z w64 (at counts 0))) ≡ unsigned_abs (at counts 0)
  pub along_y : unsigned_abs (to_z w64 (of_z w64 (at counts 1))) ≡ unsigned_abs (at counts 1)
  pub along_z : unsigned_abs (to_z w64 (of_z w64 (at counts 2))) ≡ unsigned_abs (at counts 2)

coordinate-cast : (z : ℤ) → IsBetween (neg_ℤ (pos metre)) (pos metre) z → to_z w32 (of_z w32 (to_z w64 (of_z w64 z))) ≡ z
coordinate-cast z near = cast_back (neg_ℤ (pos metre)) (pos metre) z (omega (arith, ints)) (omega (arith, ints)) near

count-within : (origin pitch step count : ℤ) → is_count origin pitch step count ≡ true → IsBetween (pos 1) (pos most_nodes) count
count-within origin pitch step count fits =
    let (within, last) = and_parts (is_between (pos 1) (pos most_nodes) count) (int_le (last_point origin pitch step count) (pos metre)) fits in
    is_between-true (pos 1) (pos most_nodes) count within

count-cast : (origin pitch step count : ℤ) → is_count origin pitch step count ≡ true → unsigned_abs (to_z w64 (of_z w64 count)) ≡ unsigned_abs count
count-cast origin pitch step count fits =
    ap unsigned_abs (passed (pos 1) (pos most_nodes) count (omega (arith, ints)) (omega (arith, ints)) (count-within origin pitch step count fits))

-- a number of nodes is not negative, and fits the bits that it is kept in
pub count-fits : (origin pitch step count : ℤ) → is_count origin pitch step count ≡ true
    → T (non_neg (to_z w64 (of_z w64 count))) × Fits w32 (unsigned_abs (to_z w64 (of_z w64 count)))
count-fits origin pitch step count fits =
    let within = count-within origin pitch step count fits in
    let some : pos 1 ≤ℤ count = within.from_least in
    let few : count ≤ℤ pos most_nodes = within.to_most in
    let size = size_is count in
    rw (passed (pos 1) (pos most_nodes) count (omega (arith, ints)) (omega (arith, ints)) within) (omega (arith, ints), omega (arith, ints))

pub coordinate-fits : (z : ℤ) → IsBetween (neg_ℤ (pos metre)) (pos metre) z → FitsSigned w32 (to_z w64 (of_z w64 z))
coordinate-fits z near = narrowed (neg_ℤ (pos metre)) (pos metre) z (omega (arith, ints)) (omega (arith, ints)) near

step-cast : (pitch step : ℤ) → IsBetween (pos 1) (pos metre) pitch → IsBetween (pos 1) pitch step → to_z w32 (of_z w32 (to_z w64 (of_z w64 step))) ≡ step
step-cast pitch step pitch_fits step_fits =
    let most : pitch ≤ℤ pos metre = pitch_fits.to_most in
    cast_back (pos 1) pitch step (omega (arith, ints)) (omega (arith, ints)) step_fits

pub are-cast : (origin : List ℤ) (pitch step : ℤ) (counts : List ℤ) → AreCoordinates origin → IsBetween (pos 1) (pos metre) pitch
    → IsBetween (pos 1) pitch step → CountsFit origin pitch step counts → AreCast origin pitch step counts
are-cast origin pitch step counts near pitch_fits step_fits fits = record {
  x = coordinate-cast (at origin 0) near.x;
  y = coordinate-cast (at origin 1) near.y;
  z = coordinate-cast (at origin 2) near.z;
  pitch_is = cast_back (pos 1) (pos metre) pitch (omega (arith, ints)) (omega (arith, ints)) pitch_fits;
  step_is = step-cast pitch step pitch_fits step_fits;
  along_x = count-cast (at origin 0) pitch step (at counts 0) fits.x;
  along_y = count-cast (at origin 1) pitch step (at counts 1) fits.y;
  along_z = count-cast (at origin 2) pitch step (at counts 2) fits.z;
}
