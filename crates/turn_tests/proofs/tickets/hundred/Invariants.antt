use Rattle.std.proofs.Common.{◌≡◌}
use Rattle.strip_turns.specs.Passes.{IsPass}
use Rattle.turn_tests.proofs.tickets.hundred.Given as goal

abbrev pub invariant-loop-k : goal.invariant-loop-k
invariant-loop-k l =
    IsPass l.board l.pass × (l.pass.seat.me.0 ≡ record l.initial.pass.seat.me.0 { drawn = l.k; log = l.pass.seat.me.0.log })
