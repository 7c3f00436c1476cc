use Rattle.std.proofs.Common.{◌≤◌, ◌*◌, ◌^◌, ◌*ℤ◌, ℤ, unsigned_abs, FitsSigned, arith, refl}
use Rattle.std.proofs.lemmas.Int.{to_z-of_z}
use mir.Syntax.{w128}
use Rattle.space.proofs.Naturals.{abs_mul, square_not_negative}
use Rattle.space.proofs.Facts.{product_fits}
use Rattle.sweep_boxes.proofs.spread.length_square.Goals as goal

fits_square : (a : ℤ) → unsigned_abs a ≤ 5 * 10 ^ 16 → FitsSigned w128 (a *ℤ a)
fits_square a h = product_fits a a (5 * 10 ^ 16) (5 * 10 ^ 16) h h (omega arith)

pub overflow_mul-result : goal.overflow_mul-result
overflow_mul-result c = let f = c.ranges.length in simp to_z-of_z (fits_square c.args.length c.requires)

pub returns : goal.returns
returns c =
    let f = c.ranges.length in let g = fits_square c.args.length c.requires in
    record {
      value = simp to_z-of_z refl;
      some = simp to_z-of_z (square_not_negative c.args.length);
      small = simp to_z-of_z (abs_mul c.args.length c.args.length (5 * 10 ^ 16) (5 * 10 ^ 16) c.requires c.requires);
    }
