-- Three coordinates of a list.
use Rattle.std.proofs.Common.{◌≡◌, ℤ, pos, neg_ℤ, All, List, length, arith}
use Rattle.space.specs.Ranges.{IsBetween, metre}
use Rattle.setup_file.specs.Grids.{AreCoordinates}

pub coordinates : (xs : List ℤ) → All (IsBetween (neg_ℤ (pos metre)) (pos metre)) xs → length xs ≡ 3 → AreCoordinates xs
coordinates xs near three = record {
  x = near 0 (pos 0) (omega arith);
  y = near 1 (pos 0) (omega arith);
  z = near 2 (pos 0) (omega arith);
}
