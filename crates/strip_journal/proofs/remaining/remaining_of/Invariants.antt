use Rattle.strip_journal.proofs.WordsLeft.{AreWritten}
use Rattle.strip_journal.proofs.remaining.remaining_of.Given as goal

abbrev pub invariant-loop-n : goal.invariant-loop-n
invariant-loop-n l = AreWritten l.ray.sets l.n l.left
