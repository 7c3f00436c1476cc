use Rattle.std.proofs.Common.{◌≤◌, ◌*◌, ◌*ℤ◌, ℤ, unsigned_abs, FitsSigned, arith, refl, subst, sym}
use Rattle.std.proofs.lemmas.Int.{to_z-of_z}
use mir.Syntax.{w128}
use Rattle.space.specs.Vectors.{at}
use Rattle.space.proofs.Facts.{fits128, product_fits}
use Rattle.space.proofs.Naturals.{abs_mul}
use Rattle.sweep_boxes.specs.Limits.{side_component_limit}
use Rattle.space.specs.Ranges.{vector_limit}
use Rattle.sweep_boxes.proofs.spread.share.Goals as goal

fits_product : (x y : ℤ) → unsigned_abs x ≤ side_component_limit → unsigned_abs y ≤ 2 * (vector_limit * vector_limit) → FitsSigned w128 (x *ℤ y)
fits_product x y h k = product_fits x y side_component_limit (2 * (vector_limit * vector_limit)) h k (omega arith)

side_fits : (x : ℤ) → unsigned_abs x ≤ side_component_limit → FitsSigned w128 x
side_fits x h = fits128 x side_component_limit h (omega arith)

part_fits : (y : ℤ) → unsigned_abs y ≤ 2 * (vector_limit * vector_limit) → FitsSigned w128 y
part_fits y h = fits128 y (2 * (vector_limit * vector_limit)) h (omega arith)

pub overflow_mul-result : goal.overflow_mul-result
overflow_mul-result c =
    let x = at c.args.side.now c.args.i in let y = at c.args.v.now c.args.i in let f = side_fits x c.requires.side in let g = part_fits y c.requires.v in
    simp to_z-of_z (fits_product x y c.requires.side c.requires.v)

pub returns-clause-value : goal.returns-clause-value
returns-clause-value c =
    let x = at c.args.side.now c.args.i in let y = at c.args.v.now c.args.i in let f = side_fits x c.requires.side in let g = part_fits y c.requires.v in
    let fits = fits_product x y c.requires.side c.requires.v in
    simp to_z-of_z refl

pub returns-clause-small : goal.returns-clause-small
returns-clause-small c =
    subst (λ (z : ℤ). unsigned_abs z ≤ side_component_limit * (2 * (vector_limit * vector_limit))) (sym (returns-clause-value c))
    (abs_mul (at c.args.side.now c.args.i) (at c.args.v.now c.args.i) side_component_limit (2 * (vector_limit * vector_limit)) c.requires.side c.requires.v)
