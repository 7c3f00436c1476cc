use Rattle.std.proofs.Common.{pos, ◌+ℤ◌, ◌*ℤ◌, FitsSigned, arith, ap, ◌∙◌}
use Rattle.std.proofs.lemmas.Int.{fits_signed_from_abs, int_wrap_fits, to_z-of_z}
use Rattle.std.specs.Int.{int_wrap}
use mir.Syntax.{w128}
use Rattle.wanted_marks.proofs.sheet.linear.Goals as goal

pub returns : goal.returns
returns c =
    let a = c.args.a in let b = c.args.b in let l = pos c.args.l in
    let fa = c.ranges.a in let fb = c.ranges.b in
    let f0 : FitsSigned w128 c.from.result = record { sfits = c.from.type_inv } in
    let f1 : FitsSigned w128 c.wrapped.result = record { sfits = c.wrapped.type_inv } in
    let fits : FitsSigned w128 (a +ℤ l *ℤ b) = fits_signed_from_abs w128 (a +ℤ l *ℤ b) (omega (arith, c.requires)) in
    to_z-of_z w128 c.wrapped.result f1 ∙ (simp to_z-of_z at c.wrapped.ensures) ∙ ap (λ z. int_wrap w128 (a +ℤ z *ℤ b)) c.from.ensures ∙ int_wrap_fits w128 (a +ℤ l *ℤ b) fits
