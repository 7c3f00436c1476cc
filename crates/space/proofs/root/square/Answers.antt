use Rattle.std.proofs.Common.{◌≤◌, ◌*◌, ◌*ℤ◌, ℤ, unsigned_abs, FitsSigned, arith, refl}
use Rattle.std.proofs.lemmas.Int.{to_z-of_z}
use mir.Syntax.{w128}
use Rattle.space.proofs.Naturals.{abs_mul, square_not_negative}
use Rattle.space.specs.Ranges.{vector_limit}
use Rattle.space.proofs.Facts.{product_fits}
use Rattle.space.proofs.root.square.Goals as goal

fits_square : (a : ℤ) → unsigned_abs a ≤ 4 * (vector_limit * vector_limit) → FitsSigned w128 (a *ℤ a)
fits_square a h = product_fits a a (4 * (vector_limit * vector_limit)) (4 * (vector_limit * vector_limit)) h h (omega arith)

pub overflow_mul-result : goal.overflow_mul-result
overflow_mul-result c = let f = c.ranges.a in simp to_z-of_z (fits_square c.args.a c.requires)

pub returns : goal.returns
returns c =
    let f = c.ranges.a in let g = fits_square c.args.a c.requires in
    record {
      value = simp to_z-of_z refl;
      some = simp to_z-of_z (square_not_negative c.args.a);
      small = simp to_z-of_z (abs_mul c.args.a c.args.a (4 * (vector_limit * vector_limit)) (4 * (vector_limit * vector_limit)) c.requires c.requires);
    }
