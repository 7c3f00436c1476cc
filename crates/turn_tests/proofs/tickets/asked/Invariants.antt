use Rattle.strip_turns.specs.Passes.{IsPass}
use Rattle.turn_tests.proofs.tickets.asked.Given as goal

abbrev pub invariant-loop-query : goal.invariant-loop-query
invariant-loop-query g l = IsPass l.board l.pass
