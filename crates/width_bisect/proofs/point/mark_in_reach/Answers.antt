use Rattle.std.proofs.Common.{◌≡◌, FitsSigned, pos, sym, ap, subst, ◌∙◌}
use Rattle.std.proofs.lemmas.Int.{to_z-of_z}
use mir.Syntax.{w32}
use Rattle.space.specs.Reach.{is_in_reach}
use Rattle.space.specs.Sweeps.{IsSweep}
use Rattle.axis_cells.specs.declared.mark.Mark.TheVariants.{Clear}
use Rattle.cutter_slabs.specs.Stacks.{outer_stack, reach_of}
use Rattle.cutter_marks.specs.MarkBy.{mark_by}
use Rattle.box_bisect.proofs.Marking.{far_mark, mark_is}
use Rattle.width_bisect.specs.Early.{lows_of}
use Rattle.width_bisect.proofs.Ahead.{answered_ahead}
use Rattle.width_bisect.proofs.Answering.{answers}
use Rattle.width_bisect.proofs.Closing.{marked_by}
use Rattle.width_bisect.proofs.point.mark_in_reach.Goals as goal

pub returns-then-not-in_reach : goal.returns-then-not-in_reach
returns-then-not-in_reach c = λ asked stack.
    let a = c.args in let m = a.sweep.now in let p = a.point in let S = a.scale in
    let inner = c.inner-inner.result.now in let cutter = a.stacks.now.cutter in let n = a.stacks.now.slabs in let outer = outer_stack cutter n in
    let fits : FitsSigned w32 c.reach-reach.result = record { sfits = c.reach-reach.type_inv } in
    let far = subst (λ z. c.in_reach.result ≡ is_in_reach z m.from m.to p) c.reach-reach.ensures.value (simp to_z-of_z at c.in_reach.ensures) in
    let sweep = subst IsSweep c.sweep.view_is c.sweep.invariant in
    answers asked Clear (mark_by cutter n m p S)
    (marked_by Clear cutter n inner m p S c.inner-inner.ensures.stack
    (far_mark inner outer (pos (reach_of cutter)) m p S (sym far ∙ c.if-not-in_reach.true) (c.inner-inner.ensures.possible m p S c.requires.some sweep)))

pub mark_of_whole-requires-clause-lows : goal.mark_of_whole-requires-clause-lows
mark_of_whole-requires-clause-lows c = ap lows_of c.inner-inner.ensures.stack ∙ c.requires.lows

pub returns : goal.returns
returns c = λ asked stack.
    let a = c.args in let m = a.sweep.now in let p = a.point in let S = a.scale in let w = a.part.now in
    let cutter = a.stacks.now.cutter in let n = a.stacks.now.slabs in let inner = c.inner-inner in
    let fits : FitsSigned w32 c.reach-reach.result = record { sfits = c.reach-reach.type_inv } in
    let near = subst (λ z. c.in_reach.result ≡ is_in_reach z m.from m.to p) c.reach-reach.ensures.value (simp to_z-of_z at c.in_reach.ensures) in
    answered_ahead asked c.mark_of_whole.result cutter n inner.result.now a.slabs.now w.u w.n w.width m p S a.levels
    c.requires.some inner.ensures.stack stack inner.ensures.enclosed c.requires.part
    (λ j forms held. c.mark_of_whole.ensures m p j forms held (c.requires.left j forms))
    (mark_is c.mark_of_whole.result inner.result.now (outer_stack cutter n) (pos (reach_of cutter)) m p S (sym near ∙ c.if-not-in_reach.false))
