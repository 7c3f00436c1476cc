use Rattle.std.proofs.Common.{◌≡◌, ◌*◌, All, length}
use Rattle.edit_plan.specs.Edits.{AppliesBelow}
use Rattle.sample_job.proofs.job.edits.Given as goal

abbrev pub invariant-loop-round : goal.invariant-loop-round
invariant-loop-round l = (length l.edits ≡ 4 * l._round) × All (AppliesBelow 2) l.edits
