-- The wrapping steps give the exact sum, since it fits.
use Rattle.std.proofs.Common.{arith, ◌≡◌, ℤ, pos, ◌+ℤ◌, ◌*ℤ◌, FitsSigned, ◌∙◌, ap, sym}
use Rattle.std.proofs.lemmas.Int.{int_wrap_fits, int_wrap-add_right, int_wrap-mul_right, fits_signed_from_abs, to_z-of_z}
use Rattle.std.specs.Int.{int_wrap}
use mir.Syntax.{w128}
use Rattle.wanted_marks.specs.Widths.{quadratic}
use Rattle.wanted_marks.proofs.line.quadratic.Goals as goal

unwrapped : (a b c l : ℤ) → FitsSigned w128 (quadratic a b c l) → int_wrap w128 (a +ℤ l *ℤ int_wrap w128 (b +ℤ l *ℤ c)) ≡ quadratic a b c l
unwrapped a b c l fits =
    sym (int_wrap-add_right w128 a (l *ℤ int_wrap w128 (b +ℤ l *ℤ c)))
    ∙ ap (λ z. int_wrap w128 (a +ℤ z)) (int_wrap-mul_right w128 l (b +ℤ l *ℤ c))
    ∙ int_wrap-add_right w128 a (l *ℤ (b +ℤ l *ℤ c)) ∙ int_wrap_fits w128 (quadratic a b c l) fits

pub returns : goal.returns
returns c =
    let a = c.args.a in let b = c.args.b in let d = c.args.c in let l = pos c.args.l in
    let fits : FitsSigned w128 (quadratic a b d l) = fits_signed_from_abs w128 (quadratic a b d l) (omega (arith, c.requires)) in
    let f0 : FitsSigned w128 c.from-l.result = record { sfits = c.from-l.type_inv } in
    let f1 : FitsSigned w128 c.wrapped.result = record { sfits = c.wrapped.type_inv } in
    let f2 : FitsSigned w128 c.wrapped-2.result = record { sfits = c.wrapped-2.type_inv } in
    let fa = c.ranges.a in let fb = c.ranges.b in let fc = c.ranges.c in
    let inner : c.wrapped.result ≡ int_wrap w128 (b +ℤ l *ℤ d) = (simp to_z-of_z at c.wrapped.ensures) ∙ ap (λ z. int_wrap w128 (b +ℤ z *ℤ d)) c.from-l.ensures in
    let outer : c.wrapped-2.result ≡ int_wrap w128 (a +ℤ l *ℤ c.wrapped.result) = (simp to_z-of_z at c.wrapped-2.ensures) ∙ ap (λ z. int_wrap w128 (a +ℤ z *ℤ c.wrapped.result)) c.from-l.ensures in
    to_z-of_z w128 c.wrapped-2.result f2 ∙ outer ∙ ap (λ z. int_wrap w128 (a +ℤ l *ℤ z)) inner ∙ unwrapped a b d l fits
