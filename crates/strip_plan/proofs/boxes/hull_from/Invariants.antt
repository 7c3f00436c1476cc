use Rattle.std.proofs.Common.{ℕ}
use Rattle.ray_grid.specs.Grids.{GridSize}
use Rattle.ray_grid.specs.declared.ray.Ray.{Ray}
use Rattle.strip_plan.specs.Boxed.{IsInOneOf}
use Rattle.strip_plan.specs.IndexBoxes.{AreBoxesOf, HasPoint, IsBoxOf}
use Rattle.strip_plan.proofs.boxes.hull_from.Given as goal

abbrev pub invariant-loop-place : goal.invariant-loop-place
invariant-loop-place l =
    ((grid : GridSize) → AreBoxesOf grid l.boxes → IsBoxOf grid l.hull)
    × ((ray : Ray) (x : ℕ) → IsInOneOf l.boxes l.start l.place ray x → HasPoint l.hull ray x)
