use Rattle.std.proofs.Common.{◌≡◌, length, take}
use Rattle.ray_grid.specs.Strips.{strips_of}
use Rattle.job_model.specs.Tasks.{Job}
use Rattle.strip_journal.specs.Remaining.{remains_at}
use Rattle.job_run.specs.Remaining.{AreFinishedOn, sets_along}
use Rattle.job_run.proofs.remaining.remaining_sets.Given as goal

abbrev pub invariant-loop-strip : goal.invariant-loop-strip
invariant-loop-strip l =
    (job : Job) → AreFinishedOn job l.grid l.strips
    → l.sets.items ≡ sets_along l.grid (remains_at job (length job.plan.edits)) (take l.strip-index (strips_of l.grid))
