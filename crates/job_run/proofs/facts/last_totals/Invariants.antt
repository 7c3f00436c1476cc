use Rattle.std.proofs.Common.{◌≡◌, length}
use Rattle.job_model.specs.Points.{left_moves, totals_over}
use Rattle.job_model.specs.Tasks.{Job}
use Rattle.job_run.specs.Founds.{AreLast, first_points}
use Rattle.job_run.proofs.facts.last_totals.Given as goal

abbrev pub invariant-loop-strip : goal.invariant-loop-strip
invariant-loop-strip l =
    (job : Job) → AreLast job l.edits l.strips
    → l.totals ≡ totals_over job (first_points job.plan.grid l.strip-index) (left_moves job.plan (length job.plan.edits))
