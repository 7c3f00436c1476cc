-- The product of two numbers of 32 bits is what is computed, and a term on the line.
use Rattle.std.proofs.Common.{ℤ, pos, to_z, of_z, ◌*ℤ◌, ◌∙◌, rules, ap, subst, sym, w32, w64, FitsSigned}
use Rattle.std.proofs.lemmas.Int.{to_z-of_z}
use Rattle.ray_shapes.specs.Planes.{coefficient_of}
use Rattle.ray_shapes.specs.Sizes.{IsTerm}
use Rattle.ray_shapes.proofs.OnLines.{small_rise}
use Rattle.ray_shapes.proofs.Products.{wide_product, product_fits}
use Rattle.ray_shapes.proofs.plane.Plane.rise.Goals as goal

pub overflow_mul-result : goal.overflow_mul-result
overflow_mul-result c =
    let a = c.coefficient.result in let step = c.args.line.now.step in
    let fits_a : FitsSigned w32 a = search rules in let fits_step : FitsSigned w32 step = search rules in
    subst (FitsSigned w64) (sym (wide_product c.from.result c.from-2.result a step fits_a fits_step c.from.ensures c.from-2.ensures)) (product_fits a step fits_a fits_step)

pub returns-clause-value : goal.returns-clause-value
returns-clause-value c =
    let a = c.coefficient.result in let step = c.args.line.now.step in
    let fits_a : FitsSigned w32 a = search rules in let fits_step : FitsSigned w32 step = search rules in
    ap (λ z. to_z w64 (of_z w64 z)) (wide_product c.from.result c.from-2.result a step fits_a fits_step c.from.ensures c.from-2.ensures)
    ∙ to_z-of_z w64 (a *ℤ step) (product_fits a step fits_a fits_step) ∙ ap (λ (z : ℤ). z *ℤ step) c.coefficient.ensures

pub returns-clause-small : goal.returns-clause-small
returns-clause-small c =
    let line = c.args.line.now in let coefficient = coefficient_of c.args.self.now line.family in
    let fits_a : FitsSigned w32 c.coefficient.result = search rules in
    let fits : FitsSigned w32 coefficient = subst (FitsSigned w32) c.coefficient.ensures fits_a in
    λ l lt. subst (λ (z : ℤ). IsTerm (z *ℤ pos l)) (sym (returns-clause-value c)) (small_rise coefficient line.step l fits (line.in_range.span l lt))
