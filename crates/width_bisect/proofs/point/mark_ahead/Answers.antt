use Rattle.std.proofs.Common.{Bool, ℕ, ◌+◌, ◌^◌, pos, sym, ap, subst, ◌∙◌}
use Rattle.space.specs.Sweeps.{IsSweep}
use Rattle.bern_form.specs.Between.{d_between}
use Rattle.bern_form.specs.Forms.{all_negative}
use Rattle.bern_form.specs.Slab.{SlabSize}
use Rattle.axis_cells.specs.declared.mark.Mark.TheVariants.{Clear}
use Rattle.cutter_slabs.specs.Stacks.{outer_stack, reach_of}
use Rattle.cutter_marks.specs.MarkBy.{mark_by}
use Rattle.box_bisect.specs.SlabTests.{TurnsAt}
use Rattle.box_bisect.proofs.Searching.{dropped}
use Rattle.width_bisect.specs.Asked.{IsAnswer}
use Rattle.width_bisect.specs.Forms.{AreWidthForms}
use Rattle.width_bisect.specs.Searches.{is_not_below}
use Rattle.width_bisect.proofs.Ahead.{answered_ahead, part_small}
use Rattle.width_bisect.proofs.Answering.{answers, begin_alike}
use Rattle.width_bisect.proofs.Below.{from_start}
use Rattle.width_bisect.proofs.Closing.{clear_is}
use Rattle.width_bisect.proofs.Listed.{lists_leave}
use Rattle.width_bisect.proofs.Parts.{part_kept}
use Rattle.width_bisect.proofs.Searching.{forms_by, test_as}
use Rattle.width_bisect.proofs.point.mark_ahead.Goals as goal

pub whole-whole-requires : goal.whole-whole-requires
whole-whole-requires c =
    let a = c.args in let f = a.forms.now in let e = c.cells_of-scale.ensures in
    part_small _ f.u.c f.n.c f.width.c a.sweep.now a.point c.cells_of-scale.result (2 ^ a.depth) a.levels
    (subst IsSweep c.sweep.view_is c.sweep.invariant) c.requires.point e.cells e.few c.requires.part

pub returns-then-not-is_open : goal.returns-then-not-is_open
returns-then-not-is_open c =
    let a = c.args in
    answers a.asked c.mark_point_uncounted.result (mark_by a.stacks.now.cutter a.stacks.now.slabs a.sweep.now a.point (2 ^ a.depth)) c.mark_point_uncounted.ensures.value

pub returns-then-not-leaves_some : goal.returns-then-not-leaves_some
returns-then-not-leaves_some c =
    let a = c.args in let f = a.forms.now in let m = a.sweep.now in let p = a.point in let S = c.cells_of-scale.result in let e = c.cells_of-scale.ensures in
    let cutter = a.stacks.now.cutter in let b = a.stacks.now.slabs in let inner = c.inner-inner in let slabs = c.slabs_for-slabs in
    let w = c.whole-whole.result in let is = c.whole-whole.ensures in let l = c.of_stretch-lists.result in
    let found = c.leaves_some.ensures slabs.ensures.rising (sym c.is_open.ensures ∙ c.if-not-is_open.false) c.reached_on_whole-reached.ensures in
    let left = λ (j : ℕ) (forms : AreWidthForms w.u w.n w.width m p j (j + 2 ^ a.levels) S).
    lists_leave slabs.result.now c.leaves_some.result w l m p S j (j + 2 ^ a.levels) c.of_stretch-lists.ensures
    (ap all_negative is.u ∙ c.requires.ahead) found forms in
    subst (λ k. IsAnswer a.asked Clear (mark_by cutter b m p k)) e.cells
    (answered_ahead a.asked Clear cutter b inner.result.now slabs.result.now w.u w.n w.width m p S a.levels
    e.some inner.ensures.stack slabs.ensures.stack inner.ensures.enclosed
    (part_kept (outer_stack cutter b) w.u w.n w.width f.u.c f.n.c f.width.c m p S (2 ^ a.depth) a.levels is.u is.n is.width e.cells c.requires.part)
    (λ j forms held. dropped inner.result.now slabs.result.now w.u w.n (d_between m p j (j + 2 ^ a.levels) S) m p S a.levels j e.some
    (forms_by w.u w.n w.width m p j (j + 2 ^ a.levels) S forms) held (sym (left j forms) ∙ c.if-not-leaves_some.true))
    (clear_is inner.result.now (outer_stack cutter b) (pos (reach_of cutter)) m p S))

pub mark_in_reach-requires-clause-lows : goal.mark_in_reach-requires-clause-lows
mark_in_reach-requires-clause-lows c =
    let s = c.args.stacks.now in let slabs = c.slabs_for-slabs in begin_alike c.args.asked s.cutter s.slabs slabs.result.now slabs.ensures.stack

pub mark_in_reach-requires-clause-part : goal.mark_in_reach-requires-clause-part
mark_in_reach-requires-clause-part c =
    let a = c.args in let f = a.forms.now in let s = a.stacks.now in let w = c.whole-whole.result in let is = c.whole-whole.ensures in
    part_kept (outer_stack s.cutter s.slabs) w.u w.n w.width f.u.c f.n.c f.width.c a.sweep.now a.point c.cells_of-scale.result (2 ^ a.depth) a.levels
    is.u is.n is.width c.cells_of-scale.ensures.cells c.requires.part

pub mark_in_reach-requires-clause-left : goal.mark_in_reach-requires-clause-left
mark_in_reach-requires-clause-left c = λ j forms one.
    let a = c.args in let slabs = c.slabs_for-slabs in
    let found = c.leaves_some.ensures slabs.ensures.rising (sym c.is_open.ensures ∙ c.if-not-is_open.false) c.reached_on_whole-reached.ensures in
    sym (lists_leave slabs.result.now c.leaves_some.result c.whole-whole.result c.of_stretch-lists.result a.sweep.now a.point c.cells_of-scale.result
    j (j + 2 ^ a.levels) c.of_stretch-lists.ensures (ap all_negative c.whole-whole.ensures.u ∙ c.requires.ahead) found forms)
    ∙ c.if-not-leaves_some.false

pub mark_in_reach-requires-clause-high : goal.mark_in_reach-requires-clause-high
mark_in_reach-requires-clause-high c =
    let S = c.cells_of-scale.result in let w = c.whole-whole.result in let l = c.of_stretch-lists.result in let e = c.of_stretch-lists.ensures in
    let slabs = c.slabs_for-slabs.result.now in let reached = c.reached_on_whole-reached.result in
    from_start (is_not_below S w.u w.n) slabs reached
    (subst (λ (t : SlabSize → Bool). TurnsAt t slabs reached) (test_as S l.scale l.raised l.height w.u w.n e.scale e.raised e.height) c.reached_on_whole-reached.ensures)

pub returns : goal.returns
returns c =
    let a = c.args in let s = a.stacks.now in
    subst (λ k. IsAnswer a.asked c.mark_in_reach.result (mark_by s.cutter s.slabs a.sweep.now a.point k)) c.cells_of-scale.ensures.cells
    (c.mark_in_reach.ensures a.asked c.slabs_for-slabs.ensures.stack)
