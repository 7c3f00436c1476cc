use Rattle.std.proofs.Common.{◌-◌, ◌≤◌}
use Rattle.stock_file.proofs.WalkLemmas.{IsAtRay}
use Rattle.setup_turn.specs.Walk.{IsTurnedUpTo}
use Rattle.setup_turn.proofs.turn.turn_stock.Given as goal

-- the rays before this one are turned
abbrev pub invariant-loop-number : goal.invariant-loop-number
invariant-loop-number l = record {
  turned : IsTurnedUpTo l.turn l.saved l.grid l.number l.stock;
  ray : IsAtRay l.saved.grid l.number l.ray;
  most : l.number ≤ l.count;
}

abbrev pub decreases-loop-number : goal.decreases-loop-number
decreases-loop-number l = l.count - l.number
