use Rattle.strip_journal.proofs.BackOver.{IsGoingBack}
use Rattle.strip_journal.proofs.journal.Journal.go_back.Given as goal

abbrev pub invariant-loop-place : goal.invariant-loop-place
invariant-loop-place l = IsGoingBack l.fn.self l.self l.place l.here l.left

abbrev pub decreases-loop-place : goal.decreases-loop-place
decreases-loop-place l = l.place
