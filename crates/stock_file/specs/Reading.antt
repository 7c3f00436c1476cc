-- The saved stock that a text stands for, or its first fault.
use Rattle.std.specs.Prelude.{ℕ, ◌+◌, List, [], ◌∷◌, Bool, Option, Some, None, Result, Ok, Err, if◌then◌else◌}
use Rattle.std.specs.Str.{bytes_eq}
use Rattle.vf_io.specs.Pieces.{pieces_of}
use Rattle.ray_grid.specs.Grids.{GridSize}
use Rattle.ray_grid.specs.Strips.{ray_number}
use Rattle.cert_lines.specs.Spelling.{end_line}
use Rattle.stock_file.specs.GridTests.{grid_named, is_grid}
use Rattle.stock_file.specs.RayLines.{ray_set_in}
use Rattle.stock_file.specs.Saved.{Saved, no_sets, with_set}
use Rattle.stock_file.specs.Spelling.{stock_line}
use Rattle.stock_file.specs.declared.fault.StockFault.{StockFault}
use Rattle.stock_file.specs.declared.fault.StockWhy.{StockWhy}
use Rattle.stock_file.specs.declared.fault.StockWhy.TheVariants.{StockSyntax, StockGrid}
use Rattle.stock_file.specs.declared.ray_set.RaySet.{RaySet}

-- a fault of a line
abbrev pub stock_fault : ℕ → StockWhy → Result Saved StockFault
stock_fault number why = Err (record { line = number; why = why })

-- after `end` there is no line
abbrev pub with_nothing_after : ℕ → List (List ℕ) → Saved → Result Saved StockFault
with_nothing_after number [] stock = Ok stock
with_nothing_after number (piece ∷ pieces) stock = stock_fault number StockSyntax

-- the rest goes on from the set that one line gives to its ray, and a fault has that line's number
abbrev pub stock_read_on : ℕ → Result RaySet StockWhy → (RaySet → Result Saved StockFault) → Result Saved StockFault
stock_read_on number (Ok found) rest = rest found
stock_read_on number (Err why) rest = stock_fault number why

-- the stock of sets that were read so far and of the lines after them, of which the first has this number, and which may name rays
-- from a number on
abbrev pub stock_from : GridSize → ℕ → ℕ → List (List ℕ) → List (List Bool) → Result Saved StockFault
stock_from grid number next [] sets = stock_fault number StockSyntax
stock_from grid number next (piece ∷ pieces) sets =
    if bytes_eq piece end_line then with_nothing_after (number + 1) pieces (record { grid = grid; sets = sets })
    else stock_read_on number (ray_set_in grid next piece)
    (λ found. stock_from grid (number + 1) (ray_number grid found.ray + 1) pieces (with_set grid found.ray found.set sets))

-- the second line names the grid: its form is judged before its numbers
abbrev pub stock_on : Option GridSize → List (List ℕ) → Result Saved StockFault
stock_on None pieces = stock_fault 2 StockSyntax
stock_on (Some grid) pieces = if is_grid grid then stock_from grid 3 0 pieces (no_sets grid) else stock_fault 2 StockGrid

abbrev pub stock_after_opening : List (List ℕ) → Result Saved StockFault
stock_after_opening [] = stock_fault 2 StockSyntax
stock_after_opening (piece ∷ pieces) = stock_on (grid_named piece) pieces

-- the first line is `stock 1`
abbrev pub stock_in : List (List ℕ) → Result Saved StockFault
stock_in [] = stock_fault 1 StockSyntax
stock_in (piece ∷ pieces) = if bytes_eq piece stock_line then stock_after_opening pieces else stock_fault 1 StockSyntax

-- the saved stock of a whole text, or its first fault
abbrev pub stock_of : List ℕ → Result Saved StockFault
stock_of bytes = stock_in (pieces_of bytes)
