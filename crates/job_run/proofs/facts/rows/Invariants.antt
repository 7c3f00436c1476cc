use Rattle.std.proofs.Common.{◌≡◌, take}
use Rattle.edit_plan.specs.Edits.{left_of}
use Rattle.job_model.specs.Tasks.{PlanOf}
use Rattle.job_run.specs.Founds.{rows_of}
use Rattle.job_run.specs.Left.{AreTold}
use Rattle.job_run.proofs.facts.rows.Given as goal

abbrev pub invariant-loop-j : goal.invariant-loop-j
invariant-loop-j l =
    (plan : PlanOf) → AreTold plan l.left → l.found.items ≡ rows_of plan (take l.j (left_of plan.edits)) (take l.j l.counts)
