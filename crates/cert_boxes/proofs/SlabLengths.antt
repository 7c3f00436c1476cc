-- The lengths of a slab are small, read again from their bits too.
use Rattle.std.proofs.Common.{◌≤◌, ◌≤ℤ◌, ℤ, pos, to_z, of_z, unsigned_abs, arith}
use Rattle.std.proofs.lemmas.Int.{ints}
use borrow.Author.Differences.{abs_is}
use mir.Syntax.{w32}
use Rattle.bern_form.specs.Slab.{IsSlab, SlabSize}
use Rattle.space.proofs.Reread.{small_back}

length_small : (z : ℤ) → pos 0 ≤ℤ z → z ≤ℤ pos 300000 → unsigned_abs (to_z w32 (of_z w32 z)) ≤ 300000
length_small z h k = small_back w32 z 300000 (omega arith) (omega (arith, ints, abs_is z, h, k))

pub lengths_small : (s : SlabSize) → IsSlab s
    → record {
      lo : unsigned_abs (to_z w32 (of_z w32 s.lo)) ≤ 300000;
      hi : unsigned_abs (to_z w32 (of_z w32 s.hi)) ≤ 300000;
      dia : unsigned_abs (to_z w32 (of_z w32 s.dia)) ≤ 300000;
    }
lengths_small s h = record {
  lo = length_small s.lo h.above_tip (omega (arith, ints, h.ordered, h.height));
  hi = length_small s.hi (omega (arith, ints, h.above_tip, h.ordered)) h.height;
  dia = length_small s.dia h.thick (omega (arith, ints, h.width));
}
