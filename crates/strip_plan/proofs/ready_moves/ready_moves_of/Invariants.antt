use Rattle.strip_plan.specs.ReadyMoves.{HasReadyMoves}
use Rattle.strip_plan.proofs.ready_moves.ready_moves_of.Given as goal

abbrev pub invariant-loop-n : goal.invariant-loop-n
invariant-loop-n l = HasReadyMoves l.cutters.slabs l.depth l.moves l.from l.n l.ready.items
