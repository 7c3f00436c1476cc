-- What is known of the inputs of a task that were read, so that it can be done.
use Rattle.std.specs.Prelude.{◌≡◌, ◌≤◌, Option, None, false, All, IfSome, length}
use Rattle.cl_moves.specs.Moves.{IsMove}
use Rattle.cl_moves.specs.Program.{most_moves}
use Rattle.cl_moves.specs.declared.moves.Move.{Move}
use Rattle.cl_moves.specs.declared.program.Program.{Program}
use Rattle.edit_plan.specs.Sound.{IsScript}
use Rattle.edit_plan.specs.declared.script.Script.{Script}
use Rattle.setup_file.specs.Sound.{IsSetup}
use Rattle.setup_file.specs.declared.setup.Setup.{Setup}
use Rattle.move_cutters.specs.Cutters.{first_low, is_move_low}
use Rattle.stock_file.specs.Saved.{Saved}
use Rattle.job_inputs.specs.Stocks.{LiesIn}
use Rattle.job_inputs.specs.Tasks.{tool_defaults}

-- valid moves, not too many and none with too low a cutter, a setup in its ranges, a saved stock that lies in its grid if there is one,
-- and a script for all of them
pub record IsReady (program : Program) (setup : Setup) (saved : Option Saved) (script : Script) : Type 0 where
  pub moves : All IsMove program.moves
  pub few : length program.moves ≤ most_moves
  pub setup_in : IsSetup setup
  pub high : first_low (tool_defaults setup.tool) program.moves ≡ None
  pub stock_in : IfSome saved (LiesIn setup.grid)
  pub script_in : IsScript (length program.moves) setup.grid script

-- a setup in its ranges, and a valid move with no too low a cutter
pub record IsAskable (setup : Setup) (move : Move) : Type 0 where
  pub setup_in : IsSetup setup
  pub valid : IsMove move
  pub high : is_move_low (tool_defaults setup.tool) move ≡ false
