use Rattle.std.proofs.Common.{◌≡◌, ℕ, pos, neg_ℤ, to_z, of_z, w32, w64, refl, arith}
use Rattle.std.proofs.lemmas.Int.{ints}
use Rattle.space.specs.Ranges.{IsBetween}
use Rattle.space.specs.Vectors.{at}
use Rattle.ray_grid.specs.Turns.{most_shift}
use Rattle.setup_file.proofs.Casts.{cast_back}
use Rattle.setup_file.proofs.turn_table.moved_by.Goals as goal

pub returns-clause-moved : goal.returns-clause-moved
returns-clause-moved c =
    let shift = c.args.shift.now in
    let cast : (n : ℕ) → IsBetween (neg_ℤ (pos most_shift)) (pos most_shift) (at shift n) → to_z w32 (of_z w32 (to_z w64 (of_z w64 (at shift n)))) ≡ at shift n
    = λ n. cast_back (neg_ℤ (pos most_shift)) (pos most_shift) (at shift n) (omega (arith, ints)) (omega (arith, ints)) in
    rw (cast 0 (c.requires.shift 0 (pos 0) (omega arith)), cast 1 (c.requires.shift 1 (pos 0) (omega arith)), cast 2 (c.requires.shift 2 (pos 0) (omega arith))) refl
