use Rattle.std.proofs.Common.{pos, ◌^◌, refl, subst, sym, ◌∙◌}
use Rattle.cutter_marks.specs.MarkBy.{mark_by}
use Rattle.width_bisect.specs.Asked.{IsAnswer}
use Rattle.wanted_marks.specs.Opens.{IsOpenAt}
use Rattle.wanted_marks.specs.Rays.{MoveOf, move_of}
use Rattle.wanted_marks.specs.Ready.{IsReadyMove}
use Rattle.wanted_marks.specs.StretchLines.{HasFormsOn}
use Rattle.wanted_marks.proofs.Opening.{part_of}
use Rattle.wanted_marks.proofs.Telling.{answer_tells_sure, tells_possible_by, tells_sure_by, whole_answer}
use Rattle.wanted_marks.proofs.move_marker.MoveMarker.mark_on_stretch.Goals as goal

pub mark_on_part-requires-clause-part : goal.mark_on_part-requires-clause-part
mark_on_part-requires-clause-part c =
    let s = c.self.inside in let v = move_of s.stacks.now s.sweep.now s.depth in let f = c.forms-forms.result in let e = c.forms-forms.ensures in let x = c.args.stretch.now in
    let there = subst (λ (w : MoveOf). HasFormsOn c.args.line.now (pos c.args.l) x w c.args.point) (sym c.self.view_is) c.requires.forms in
    part_of x v c.args.point f.u.c f.n.c f.width.c (subst (λ (w : MoveOf). IsOpenAt x w c.args.point) (sym c.self.view_is) c.requires.open)
    record { u_is = e.u ∙ there.u_is; n_is = e.n ∙ there.n_is; width_is = e.width ∙ there.width_is }

pub returns-clause-sure : goal.returns-clause-sure
returns-clause-sure c =
    let v = c.args.self.now in let given = c.mark_on_part.result in let asked = c.args.asked in let mark = mark_by v.cutter v.slabs v.sweep c.args.point (2 ^ v.depth) in
    answer_tells_sure asked given mark
    (subst (λ (w : MoveOf). IsAnswer asked given (mark_by w.cutter w.slabs w.sweep c.args.point (2 ^ w.depth))) c.self.view_is c.mark_on_part.ensures)
    ∙ tells_sure_by mark v.cutter v.slabs v.sweep c.args.point (2 ^ v.depth) refl

pub returns-clause-possible : goal.returns-clause-possible
returns-clause-possible c = λ whole.
    let v = c.args.self.now in let given = c.mark_on_part.result in let asked = c.args.asked in let mark = mark_by v.cutter v.slabs v.sweep c.args.point (2 ^ v.depth) in
    let s = c.self.inside in let ready = subst (IsReadyMove s.ready.now) c.self.view_is c.self.invariant in
    tells_possible_by given v.cutter v.slabs v.sweep c.args.point (2 ^ v.depth) (ready.both c.args.point)
    (whole_answer asked given mark whole
    (subst (λ (w : MoveOf). IsAnswer asked given (mark_by w.cutter w.slabs w.sweep c.args.point (2 ^ w.depth))) c.self.view_is c.mark_on_part.ensures))
