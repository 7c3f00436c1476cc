-- The state is the one that is found with a counter of steps.
use Rattle.turn_core.proofs.asking.state_at.Goals as goal

pub returns : goal.returns
returns c = c.counted_state.ensures
