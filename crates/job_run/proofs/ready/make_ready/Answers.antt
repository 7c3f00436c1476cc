-- The edits name moves of the plan, and the queries are for its grid and its edits.
use Rattle.std.proofs.Common.{ap, subst, sym}
use Rattle.ray_grid.specs.Grids.{GridSize}
use Rattle.job_model.specs.Tasks.{PlanOf}
use Rattle.job_inputs.specs.Tasks.{job_move}
use Rattle.job_run.specs.Jobs.{AreOver}
use Rattle.job_run.proofs.Readied.{asked_of_plan, named_in_plan}
use Rattle.job_run.proofs.ready.make_ready.Goals as goal

pub new-requires-clause-named : goal.new-requires-clause-named
new-requires-clause-named c =
    named_in_plan (job_move c.inputs.inside.setup.tool) c.inputs.inside.program.moves c.as_slice.result.now c.in_ok-moves.moves.items c.inputs.inside.script.edits
    c.in_ok-moves.ensures c.as_slice.ensures c.inputs.invariant.script_in.named

pub returns-clause-asked : goal.returns-clause-asked
returns-clause-asked c =
    let made = c.in_ok-plan.ensures in
    asked_of_plan c.in_ok-plan.plan c.inputs.inside.setup.grid c.inputs.inside.script.edits c.inputs.inside.script.queries
    (ap (λ (plan : PlanOf). plan.grid) made) (ap (λ (plan : PlanOf). plan.edits) made) c.inputs.invariant.script_in.queries

pub returns-clause-over : goal.returns-clause-over
returns-clause-over c =
    subst (λ (grid : GridSize). AreOver grid c.in_ok-bodies.bodies) (sym (ap (λ (plan : PlanOf). plan.grid) c.in_ok-plan.ensures)) c.in_ok-bodies.ensures.over
