use Rattle.job_run.specs.Left.{AreFirstTold}
use Rattle.job_run.proofs.left.told.Given as goal

abbrev pub invariant-loop-j : goal.invariant-loop-j
invariant-loop-j l = AreFirstTold l.plan l.numbers l.j l.told.items
