use Rattle.std.proofs.Common.{ℕ}
use Rattle.ray_grid.specs.Grids.{GridSize}
use Rattle.strip_plan.specs.Boxed.{IsInOneOf}
use Rattle.strip_plan.specs.IndexBoxes.{AreBoxesOf}
use Rattle.strip_plan.specs.Ranges.{IsIn, IsRangeOf}
use Rattle.strip_plan.specs.StripRanges.{count_of, index_of}
use Rattle.strip_plan.proofs.windows.range_of.Given as goal

abbrev pub invariant-loop-place : goal.invariant-loop-place
invariant-loop-place l =
    ((grid : GridSize) → AreBoxesOf grid l.boxes → IsRangeOf (count_of grid l.family l.which) l.range)
    × ((j x : ℕ) → IsInOneOf l.boxes l.start l.place (record { family = l.family; i = l.i; j = j }) x → IsIn l.range (index_of l.which j x))
