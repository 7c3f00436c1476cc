use Rattle.std.proofs.Common.{◌≡◌, take}
use Rattle.job_run.specs.Asked.{asked_with}
use Rattle.job_run.proofs.run.answered.Given as goal

abbrev pub invariant-loop-n : goal.invariant-loop-n
invariant-loop-n l = l.pairs.items ≡ asked_with (take l.n l.queries) (take l.n l.answers)
