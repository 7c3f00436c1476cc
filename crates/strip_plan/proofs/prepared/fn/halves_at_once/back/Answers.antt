-- what is computed of the other moves
use Rattle.strip_plan.proofs.prepared.fn.halves_at_once.back.Goals as goal

pub returns : goal.returns
returns c = c.ready_moves_of.ensures
