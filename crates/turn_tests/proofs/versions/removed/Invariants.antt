use Rattle.std.proofs.Common.{◌≤◌}
use Rattle.turn_tests.proofs.versions.removed.Given as goal

abbrev pub invariant-loop-state : goal.invariant-loop-state
invariant-loop-state l = l.count ≤ l.state-index
