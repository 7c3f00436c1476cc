-- The stack is the one that is wanted.
use Rattle.std.proofs.Common.{ap, sym, ◌∙◌}
use Rattle.cutter_slabs.specs.Stacks.{inner_stack, outer_stack}
use Rattle.width_bisect.specs.Asked.{slabs_for}
use Rattle.width_bisect.proofs.asked.slabs_for.Goals as goal

pub returns-in-Whole-clause-stack : goal.returns-in-Whole-clause-stack
returns-in-Whole-clause-stack c =
    let s = c.args.stacks.now in
    c.outer.ensures.stack ∙ sym (ap (λ k. slabs_for k (inner_stack s.cutter s.slabs) (outer_stack s.cutter s.slabs)) c.in-Whole.is)

pub returns-in-Sure-clause-stack : goal.returns-in-Sure-clause-stack
returns-in-Sure-clause-stack c =
    let s = c.args.stacks.now in
    c.inner.ensures.stack ∙ sym (ap (λ k. slabs_for k (inner_stack s.cutter s.slabs) (outer_stack s.cutter s.slabs)) c.in-Sure.is)

pub returns-in-Whole-clause-rising : goal.returns-in-Whole-clause-rising
returns-in-Whole-clause-rising c = c.outer.ensures.rising

pub returns-in-Sure-clause-rising : goal.returns-in-Sure-clause-rising
returns-in-Sure-clause-rising c = c.inner.ensures.rising
