use Rattle.strip_journal.specs.Found.{AddsAhead}
use Rattle.strip_journal.proofs.journal.Journal.add_found.Given as goal

abbrev pub invariant-loop-place : goal.invariant-loop-place
invariant-loop-place l = AddsAhead l.self l.place l.fn.counts l.counts
