use Rattle.std.proofs.Common.{ℕ, subst}
use Rattle.ray_grid.specs.Grids.{GridSize}
use Rattle.wanted_marks.specs.GridForms.{AreGridForms}
use Rattle.wanted_marks.specs.Ready.{IsReadyMove}
use Rattle.wanted_marks.proofs.move_marker.MoveMarker.strip_sheet.Goals as goal

pub sheet_on-requires-clause-forms : goal.sheet_on-requires-clause-forms
sheet_on-requires-clause-forms c =
    let s = c.self.inside in let v = c.args.self.now in let forms = s.ready.now.forms in
    let ready = subst (IsReadyMove s.ready.now) c.self.view_is c.self.invariant in
    let same = subst (λ (g : GridSize). AreGridForms forms v.sweep g s.ready.now.scale) (c.is_of.ensures c.if-is_of.true) ready.forms in
    subst (λ (k : ℕ). AreGridForms forms v.sweep c.args.grid.now k) ready.scale_is same
