-- The cylinders outside of which a move is possible at no point of the lattice.
use Rattle.std.specs.Prelude.{◌≡◌, ℕ, ◌<◌, List, Some, length, slice_get, slice_index_or}
use Rattle.ray_grid.specs.Grids.{GridSize}
use Rattle.ray_grid.specs.declared.ray.Ray.{Ray}
use Rattle.ray_grid.specs.Lattice.{point_of}
use Rattle.sweep_boxes.specs.declared.cylinder.BoundingCylinder.{BoundingCylinder}
use Rattle.sweep_boxes.specs.Cylinders.{IsInCylinder}
use Rattle.job_model.specs.Tasks.{JobMove}
use Rattle.strip_plan.specs.Boxed.{IsMetAt}

-- for each of the first `count` moves there is one that holds the points at which it is possible
pub record HasCylinders (grid : GridSize) (slabs depth : ℕ) (moves : List JobMove) (cylinders : List BoundingCylinder) (count : ℕ)
    : Type 0 where
  pub many : length cylinders ≡ count
  pub each : (n : ℕ) (move : JobMove) (d : BoundingCylinder) (ray : Ray) (l : ℕ) → n < count → slice_get moves n ≡ Some move
      → IsMetAt grid slabs depth move ray l → IsInCylinder (slice_index_or cylinders n d) (point_of grid ray l)
