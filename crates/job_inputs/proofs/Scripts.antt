-- The script that needs no file.
use Rattle.std.proofs.Common.{ℕ, Result, Ok, Err, IfOk}
use Rattle.edit_plan.specs.Sound.{IsScript}
use Rattle.edit_plan.specs.declared.script.Script.{Script}
use Rattle.ray_grid.specs.Grids.{GridSize}
use Rattle.input_faults.specs.declared.stopped.Stopped.{Stopped}

-- a script for every grid is one for this
pub at_grid : (read : Result Script Stopped) (moves : ℕ) (grid : GridSize) → IfOk read (λ script. (any : GridSize) → IsScript moves any script)
    → IfOk read (IsScript moves grid)
at_grid (Ok script) moves grid every = every grid
at_grid (Err stopped) moves grid every = tt
