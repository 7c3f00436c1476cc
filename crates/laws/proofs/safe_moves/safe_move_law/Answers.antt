use Rattle.job_model.proofs.Safe.{safe_move_keeps_off}
use Rattle.laws.proofs.safe_moves.safe_move_law.Goals as goal

pub returns : goal.returns
returns c = safe_move_keeps_off
