use Rattle.setup_turn.proofs.Moving.{HasNoneYet}
use Rattle.setup_turn.proofs.sets.first_from.Given as goal

-- the ranges before this one have no index from the number on
abbrev pub invariant-loop-n : goal.invariant-loop-n
invariant-loop-n l = HasNoneYet l.set l.n l.from
