use Rattle.std.proofs.Common.{◌^◌, arith, ap, subst, ◌∙◌}
use Rattle.space.specs.Sweeps.{IsSweep}
use Rattle.bern_form.specs.Forms.{all_positive, lifted}
use Rattle.cutter_slabs.specs.Stacks.{outer_stack}
use Rattle.cutter_marks.specs.MarkBy.{mark_by}
use Rattle.width_bisect.specs.Asked.{IsAnswer}
use Rattle.width_bisect.proofs.Ahead.{part_small}
use Rattle.width_bisect.proofs.Answering.{begin_alike}
use Rattle.width_bisect.proofs.Below.{asked_turns}
use Rattle.width_bisect.proofs.Parts.{part_kept, whole_part}
use Rattle.width_bisect.proofs.point.mark_below.Goals as goal

pub whole-whole-requires : goal.whole-whole-requires
whole-whole-requires c =
    let a = c.args in let f = a.forms.now in let e = c.cells_of-scale.ensures in let s = a.stacks.now in
    part_small (outer_stack s.cutter s.slabs) f.u.c f.n.c f.width.c a.sweep.now a.point c.cells_of-scale.result (2 ^ a.depth) a.depth
    (subst IsSweep c.sweep.view_is c.sweep.invariant) c.requires.point e.cells e.few
    (whole_part (outer_stack s.cutter s.slabs) f.u.c f.n.c f.width.c a.sweep.now a.point a.depth c.requires.forms)

pub mark_in_reach-requires-clause-lows : goal.mark_in_reach-requires-clause-lows
mark_in_reach-requires-clause-lows c =
    let s = c.args.stacks.now in let slabs = c.slabs_for-slabs in begin_alike c.args.asked s.cutter s.slabs slabs.result.now slabs.ensures.stack

pub mark_in_reach-requires-clause-part : goal.mark_in_reach-requires-clause-part
mark_in_reach-requires-clause-part c =
    let a = c.args in let f = a.forms.now in let s = a.stacks.now in let w = c.whole-whole.result in let is = c.whole-whole.ensures in
    let outer = outer_stack s.cutter s.slabs in
    part_kept outer w.u w.n w.width f.u.c f.n.c f.width.c a.sweep.now a.point c.cells_of-scale.result (2 ^ a.depth) a.depth
    is.u is.n is.width c.cells_of-scale.ensures.cells
    (whole_part outer f.u.c f.n.c f.width.c a.sweep.now a.point a.depth c.requires.forms)

pub mark_in_reach-requires-clause-left : goal.mark_in_reach-requires-clause-left
mark_in_reach-requires-clause-left c = λ j forms one. let some = c.requires.some in absurd (omega (arith, some, one))

pub mark_in_reach-requires-clause-positive : goal.mark_in_reach-requires-clause-positive
mark_in_reach-requires-clause-positive c = ap (λ l. all_positive (lifted l)) c.whole-whole.ensures.n ∙ c.requires.positive

pub mark_in_reach-requires-clause-high : goal.mark_in_reach-requires-clause-high
mark_in_reach-requires-clause-high c =
    let a = c.args in let s = a.stacks.now in let f = a.forms.now in let w = c.whole-whole in
    asked_turns a.asked s.cutter s.slabs c.slabs_for-slabs.result.now w.result.u w.result.n f.u.c f.n.c a.sweep.now a.point
    c.cells_of-scale.result (2 ^ a.depth) a.high c.slabs_for-slabs.ensures.stack w.ensures.u w.ensures.n
    c.requires.forms.u_is c.requires.forms.n_is c.cells_of-scale.ensures.cells c.requires.below

pub returns : goal.returns
returns c =
    let a = c.args in let s = a.stacks.now in
    subst (λ k. IsAnswer a.asked c.mark_in_reach.result (mark_by s.cutter s.slabs a.sweep.now a.point k)) c.cells_of-scale.ensures.cells
    (c.mark_in_reach.ensures a.asked c.slabs_for-slabs.ensures.stack)
