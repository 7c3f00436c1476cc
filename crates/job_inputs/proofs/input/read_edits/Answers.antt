use Rattle.job_inputs.proofs.Scripts.{at_grid}
use Rattle.job_inputs.proofs.input.read_edits.Goals as goal

pub returns-in-None-clause-sound : goal.returns-in-None-clause-sound
returns-in-None-clause-sound g c = at_grid c.all_moves.result c.args.moves c.args.grid.now c.all_moves.ensures.sound
