use Rattle.std.proofs.Common.{ℕ, ◌^◌, subst}
use Rattle.wanted_marks.specs.GridForms.{AreGridForms}
use Rattle.wanted_marks.specs.Rays.{MoveOf}
use Rattle.wanted_marks.proofs.move_marker.MoveMarker.made_sheet.Goals as goal

pub of_grid-forms-requires-clause-axis_forms : goal.of_grid-forms-requires-clause-axis_forms
of_grid-forms-requires-clause-axis_forms c = c.self.invariant.axis_forms

pub of_grid-forms-requires-clause-scale : goal.of_grid-forms-requires-clause-scale
of_grid-forms-requires-clause-scale c = c.self.invariant.few

pub sheet_on-requires-clause-forms : goal.sheet_on-requires-clause-forms
sheet_on-requires-clause-forms c =
    let forms = c.of_grid-forms in let grid = c.args.grid.now in
    let at_depth = subst (λ (k : ℕ). AreGridForms forms.result c.self.inside.sweep.now grid k) c.self.invariant.scale_is forms.ensures.forms in
    subst (λ (v : MoveOf). AreGridForms forms.result v.sweep grid (2 ^ v.depth)) c.self.view_is at_depth
