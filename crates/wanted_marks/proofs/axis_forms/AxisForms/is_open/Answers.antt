use Rattle.std.proofs.Common.{FitsSigned, ap, int_lt, pos, rules, sym, ◌∙◌}
use Rattle.std.proofs.lemmas.Int.{to_z-of_z}
use mir.Syntax.{w64}
use Rattle.space.proofs.Tests.{decides_lt}
use Rattle.wanted_marks.proofs.Peaking.{open_by}
use Rattle.wanted_marks.proofs.axis_forms.AxisForms.is_open.Goals as goal

pub returns : goal.returns
returns c = λ yes.
    let axis_forms = c.args.self.now in let f : FitsSigned w64 axis_forms.least = search rules in
    open_by axis_forms.n.c axis_forms.least axis_forms.least_is ((decides_lt (pos 0) axis_forms.least).0 (ap (int_lt (pos 0)) (sym (to_z-of_z w64 axis_forms.least f)) ∙ yes))
