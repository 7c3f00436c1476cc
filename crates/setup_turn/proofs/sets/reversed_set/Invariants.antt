use Rattle.std.proofs.Common.{◌≡◌, ◌-◌, length}
use Rattle.setup_turn.proofs.Moving.{IsReversedPart}
use Rattle.setup_turn.proofs.sets.reversed_set.Given as goal

-- the ranges after this one are moved
abbrev pub invariant-loop-n : goal.invariant-loop-n
invariant-loop-n l = record {
  bound : length l.moved ≡ l.bound;
  part : IsReversedPart l.set (l.count - l.n) l.first l.to l.moved;
}
