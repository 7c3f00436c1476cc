use Rattle.std.proofs.Common.{ℤ, ◌≡◌, pos, arith, ◌+ℤ◌, ◌*ℤ◌, FitsSigned, rules, ◌∙◌, ap}
use Rattle.std.proofs.lemmas.Int.{fits_signed_from_abs, ints, int_wrap_fits, wrapping_add_onto, int_wrap-add_left, wrapping_mul_is}
use Rattle.std.specs.Int.{int_wrap}
use mir.Syntax.{w64}
use Rattle.wanted_marks.proofs.moments.linear.Goals as goal

turned : (a b : ℤ) → a +ℤ b ≡ b +ℤ a
turned a b = omega (arith, ints)

pub returns : goal.returns
returns c =
    let a = c.args.a in let b = c.args.b in let l = c.from.result in
    let f0 : FitsSigned w64 l = search rules in
    let fits : FitsSigned w64 (a +ℤ pos c.args.j *ℤ b) = fits_signed_from_abs w64 (a +ℤ pos c.args.j *ℤ b) (omega (arith, c.requires)) in
    wrapping_add_onto w64 _ a (omega arith) c.ranges.a
    ∙ ap (λ z. int_wrap w64 (z +ℤ a)) (wrapping_mul_is w64 l b f0 c.ranges.b)
    ∙ int_wrap-add_left w64 (l *ℤ b) a ∙ ap (int_wrap w64) (turned (l *ℤ b) a)
    ∙ ap (λ z. int_wrap w64 (a +ℤ z *ℤ b)) c.from.ensures ∙ int_wrap_fits w64 (a +ℤ pos c.args.j *ℤ b) fits
