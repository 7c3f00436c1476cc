use Rattle.std.proofs.Common.{◌≡◌, length}
use Rattle.setup_turn.proofs.Moving.{IsMovedPart}
use Rattle.setup_turn.proofs.sets.moved_set.Given as goal

-- the ranges before this one are moved
abbrev pub invariant-loop-n : goal.invariant-loop-n
invariant-loop-n l = record {
  bound : length l.moved ≡ l.bound;
  part : IsMovedPart l.set l.n l.first l.to l.moved;
}
