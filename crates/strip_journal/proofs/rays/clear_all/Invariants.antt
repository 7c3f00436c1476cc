use Rattle.strip_journal.specs.Fresh.{AreCleared}
use Rattle.strip_journal.proofs.rays.clear_all.Given as goal

abbrev pub invariant-loop-n : goal.invariant-loop-n
invariant-loop-n l = AreCleared l.n l.initial.rays l.rays
