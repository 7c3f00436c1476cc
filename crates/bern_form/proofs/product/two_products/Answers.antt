-- The wrapping steps give the exact sum, since it fits.
use Rattle.std.proofs.Common.{arith, ◌+ℤ◌, ◌*ℤ◌, FitsSigned, ◌∙◌, ap}
use Rattle.std.proofs.lemmas.Int.{wrapping_add-bits, int_wrap_fits, int_wrap-add_left, int_wrap-add_right, wrapping_mul_is, fits_signed_from_abs}
use Rattle.std.specs.Int.{int_wrap, int_wrapping_mul}
use mir.Syntax.{w128}
use Rattle.bern_form.proofs.product.two_products.Goals as goal

pub returns : goal.returns
returns c =
    let a = c.args.a in let b = c.args.b in let d = c.args.c in let e = c.args.d in
    let f : FitsSigned w128 (a *ℤ b +ℤ d *ℤ e) = fits_signed_from_abs w128 _ (omega (arith, c.requires)) in
    wrapping_add-bits w128 _ _ (omega arith) (omega arith)
    ∙ ap (λ z. int_wrap w128 (z +ℤ int_wrapping_mul w128 d e)) (wrapping_mul_is w128 a b c.ranges.a c.ranges.b)
    ∙ ap (λ z. int_wrap w128 (int_wrap w128 (a *ℤ b) +ℤ z)) (wrapping_mul_is w128 d e c.ranges.c c.ranges.d)
    ∙ int_wrap-add_left w128 _ _ ∙ int_wrap-add_right w128 _ _ ∙ int_wrap_fits w128 _ f
