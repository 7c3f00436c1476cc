-- The product of two numbers of 32 bits is what is computed, and small where the coordinate is.
use Rattle.std.proofs.Common.{ℤ, pos, negsuc, to_z, of_z, ◌*ℤ◌, ◌∙◌, rules, ap, subst, sym, w32, w64, FitsSigned}
use Rattle.std.proofs.lemmas.Int.{to_z-of_z}
use Rattle.space.specs.Ranges.{IsBetween}
use Rattle.space.specs.Vectors.{at}
use Rattle.ray_shapes.proofs.OnLines.{small_product}
use Rattle.ray_shapes.proofs.Products.{wide_product, product_fits}
use Rattle.ray_shapes.proofs.plane.term.Goals as goal

pub overflow_mul-result : goal.overflow_mul-result
overflow_mul-result c =
    let a = c.args.coefficient.now in let x = at c.args.point.now c.args.axis in
    let fits_a : FitsSigned w32 a = search rules in let fits_x : FitsSigned w32 x = search rules in
    subst (FitsSigned w64) (sym (wide_product c.from.result c.from-2.result a x fits_a fits_x c.from.ensures c.from-2.ensures)) (product_fits a x fits_a fits_x)

pub returns-clause-value : goal.returns-clause-value
returns-clause-value c =
    let a = c.args.coefficient.now in let x = at c.args.point.now c.args.axis in
    let fits_a : FitsSigned w32 a = search rules in let fits_x : FitsSigned w32 x = search rules in
    ap (λ z. to_z w64 (of_z w64 z)) (wide_product c.from.result c.from-2.result a x fits_a fits_x c.from.ensures c.from-2.ensures)
    ∙ to_z-of_z w64 (a *ℤ x) (product_fits a x fits_a fits_x)

pub returns-clause-small : goal.returns-clause-small
returns-clause-small c =
    let a = c.args.coefficient.now in let x = at c.args.point.now c.args.axis in
    let fits_a : FitsSigned w32 a = search rules in
    subst (λ (z : ℤ). IsBetween (negsuc 2147483647999999) (pos 2147483648000000) z) (sym (returns-clause-value c)) (small_product a x fits_a c.requires.near)
