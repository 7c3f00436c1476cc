use Rattle.std.proofs.Common.{◌≤◌, ◌*ℤ◌, ℤ, unsigned_abs, FitsSigned, arith, refl}
use Rattle.std.proofs.lemmas.Int.{to_z-of_z}
use mir.Syntax.{w128}
use Rattle.space.specs.Vectors.{at}
use Rattle.space.proofs.Facts.{fits128, product_fits}
use Rattle.space.proofs.Naturals.{abs_mul, square_not_negative}
use Rattle.sweep_boxes.specs.Limits.{side_component_limit}
use Rattle.sweep_boxes.proofs.spread.part_square.Goals as goal

side_fits : (x : ℤ) → unsigned_abs x ≤ side_component_limit → FitsSigned w128 x
side_fits x h = fits128 x side_component_limit h (omega arith)

square_fits : (x : ℤ) → unsigned_abs x ≤ side_component_limit → FitsSigned w128 (x *ℤ x)
square_fits x h = product_fits x x side_component_limit side_component_limit h h (omega arith)

pub overflow_mul-result : goal.overflow_mul-result
overflow_mul-result c =
    let x = at c.args.side.now c.args.i in let f = side_fits x c.requires.side in
    simp to_z-of_z (square_fits x c.requires.side)

pub returns : goal.returns
returns c =
    let x = at c.args.side.now c.args.i in let f = side_fits x c.requires.side in let fits = square_fits x c.requires.side in
    record {
      value = simp to_z-of_z refl;
      some = simp to_z-of_z (square_not_negative x);
      small = simp to_z-of_z (abs_mul x x side_component_limit side_component_limit c.requires.side c.requires.side);
    }
