-- The saved stock that goes with a setup, as it lies in the setup's grid.
use Rattle.std.specs.Prelude.{◌≡◌, List, ℕ, Option, Some, None, Result, Ok, Err, if◌then◌else◌}
use Rattle.ray_grid.specs.Grids.{GridSize}
use Rattle.ray_grid.specs.Points.{LatticePoint}
use Rattle.ray_grid.specs.declared.turn.Turn.{Turn}
use Rattle.ray_shapes.specs.Sets.{AreSetsOver}
use Rattle.input_faults.specs.declared.fault.Fault.{Fault}
use Rattle.input_faults.specs.declared.fault.Fault.TheVariants as faults
use Rattle.input_faults.specs.declared.fault.Input.TheVariants as inputs
use Rattle.setup_file.specs.declared.setup.Setup.{Setup}
use Rattle.setup_turn.specs.Turned.{first_outside, in_turned}
use Rattle.stock_file.specs.Limits.{most_stock_bytes}
use Rattle.stock_file.specs.PointSets.{saved_where}
use Rattle.stock_file.specs.Reading.{stock_of}
use Rattle.stock_file.specs.SameGrids.{has_same_steps, is_same_grid}
use Rattle.stock_file.specs.Saved.{Saved}
use Rattle.stock_file.specs.declared.fault.StockFault.{StockFault}
use Rattle.job_inputs.specs.Inputs.{◌>>=◌, bytes_within}

-- a saved stock, or the fault that its text is refused with
abbrev pub stock_or_fault : Result Saved StockFault → Result Saved Fault
stock_or_fault (Ok stock) = Ok stock
stock_or_fault (Err fault) = Err (faults.Stock fault)

-- the saved stock that the bytes of a file stand for, unless they are too many
abbrev pub stock_read_of : List ℕ → Result Saved Fault
stock_read_of bytes = bytes_within inputs.Stock most_stock_bytes bytes >>= (λ text. stock_or_fault (stock_of text))

-- the saved points that are turned into a grid, unless the first of those without a place there was found
abbrev pub turned_unless : Option LatticePoint → Turn → Saved → GridSize → Result Saved Fault
turned_unless None turn saved grid = Ok (saved_where grid (in_turned turn saved))
turned_unless (Some first) turn saved grid = Err (faults.TurnOutside first.ray first.l)

-- A saved stock as it lies in the grid of a setup. Without a turn it is one of that grid; with one it is turned into that grid, and has
-- its pitch and its step.
abbrev pub stock_in_place : Option Turn → GridSize → Saved → Result Saved Fault
stock_in_place None grid saved = if is_same_grid saved.grid grid then Ok saved else Err faults.StockOther
stock_in_place (Some turn) grid saved =
    if has_same_steps saved.grid grid then turned_unless (first_outside turn saved grid) turn saved grid else Err faults.StockOther

-- the same of the bytes of a file
abbrev pub placed_of : Setup → List ℕ → Result Saved Fault
placed_of setup bytes = stock_read_of bytes >>= stock_in_place setup.turn setup.grid

-- where no file is named there is no saved stock
abbrev pub stock_for : Setup → Option (List ℕ) → Result (Option Saved) Fault
stock_for setup None = Ok None
stock_for setup (Some bytes) = placed_of setup bytes >>= (λ placed. Ok (Some placed))

-- the stock lies in the grid
pub record LiesIn (grid : GridSize) (stock : Saved) : Type 0 where
  pub same : stock.grid ≡ grid
  pub sets : AreSetsOver grid stock.sets
