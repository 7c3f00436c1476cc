-- The wrapping steps give the exact sum, since it fits.
use Rattle.std.proofs.Common.{arith, ◌+ℤ◌, ◌*ℤ◌, FitsSigned, ◌∙◌, ap}
use Rattle.std.proofs.lemmas.Int.{wrapping_add-bits, int_wrap_fits, int_wrap-add_left, int_wrap-add_right, wrapping_mul_is, fits_signed_from_abs}
use Rattle.std.specs.Int.{int_wrap, int_wrapping_mul}
use mir.Syntax.{w128}
use Rattle.bern_form.proofs.product.three_products.Goals as goal

pub returns : goal.returns
returns k =
    let a = k.args.a in let b = k.args.b in let c = k.args.c in let d = k.args.d in let e = k.args.e in let f = k.args.f in
    let s : FitsSigned w128 (a *ℤ b +ℤ c *ℤ d +ℤ e *ℤ f) = fits_signed_from_abs w128 _ (omega (arith, k.requires)) in
    wrapping_add-bits w128 _ _ (omega arith) (omega arith)
    ∙ ap (λ z. int_wrap w128 (z +ℤ int_wrapping_mul w128 e f)) (wrapping_add-bits w128 _ _ (omega arith) (omega arith))
    ∙ ap (λ z. int_wrap w128 (int_wrap w128 (z +ℤ int_wrapping_mul w128 c d) +ℤ int_wrapping_mul w128 e f)) (wrapping_mul_is w128 a b k.ranges.a k.ranges.b)
    ∙ ap (λ z. int_wrap w128 (int_wrap w128 (int_wrap w128 (a *ℤ b) +ℤ z) +ℤ int_wrapping_mul w128 e f)) (wrapping_mul_is w128 c d k.ranges.c k.ranges.d)
    ∙ ap (λ z. int_wrap w128 (int_wrap w128 (int_wrap w128 (a *ℤ b) +ℤ int_wrap w128 (c *ℤ d)) +ℤ z)) (wrapping_mul_is w128 e f k.ranges.e k.ranges.f)
    ∙ ap (λ z. int_wrap w128 (z +ℤ int_wrap w128 (e *ℤ f))) (int_wrap-add_left w128 _ _ ∙ int_wrap-add_right w128 _ _)
    ∙ int_wrap-add_left w128 _ _ ∙ int_wrap-add_right w128 _ _ ∙ int_wrap_fits w128 _ s
