-- what is computed of the first moves
use Rattle.strip_plan.proofs.prepared.fn.halves_at_once.front.Goals as goal

pub returns : goal.returns
returns c = c.ready_moves_of.ensures
