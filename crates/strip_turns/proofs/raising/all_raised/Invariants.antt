use Rattle.strip_turns.specs.Passes.{card, IsIdleSeat}
use Rattle.strip_turns.specs.Asks.{AllRaised}
use Rattle.strip_turns.proofs.raising.all_raised.Given as goal

abbrev pub invariant-loop-strip : goal.invariant-loop-strip
invariant-loop-strip g l = IsIdleSeat l.board l.seat × AllRaised (card l.board) l.version l.strip l.initial.seat.me.0 l.seat.me.0
