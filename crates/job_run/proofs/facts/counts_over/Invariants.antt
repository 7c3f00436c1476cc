use Rattle.job_model.specs.Tasks.{Job}
use Rattle.job_run.specs.Founds.{AreLeft, HaveFound, first_points}
use Rattle.job_run.proofs.facts.counts_over.Given as goal

abbrev pub invariant-loop-strip : goal.invariant-loop-strip
invariant-loop-strip l =
    (job : Job) → AreLeft job l.left l.strips → HaveFound job (first_points job.plan.grid l.strip-index) l.counts.items
