-- Ranges of indices, and cylinders, outside of which a move is possible nowhere.
use Rattle.std.specs.Prelude.{◌≡◌, true, ℕ, ◌<◌, ◌≤◌, Some, slice_get}
use Rattle.ray_grid.specs.declared.ray.Family.{Family}
use Rattle.ray_grid.specs.declared.ray.Ray.{Ray}
use Rattle.ray_grid.specs.Lattice.{IsRay, point_of, points_of}
use Rattle.ray_grid.specs.Strips.{strip_at}
use Rattle.sweep_boxes.specs.declared.cylinder.BoundingCylinder.{BoundingCylinder}
use Rattle.sweep_boxes.specs.Cylinders.{IsInCylinder}
use Rattle.job_model.specs.Points.{is_possible}
use Rattle.job_model.specs.Tasks.{JobMove, PlanOf}
use Rattle.strip_plan.specs.Plans.{HasNumber}

-- from the one index on and below the other
abbrev pub IsFrom : ℕ → ℕ → ℕ → Type 0
IsFrom lo hi l = (lo ≤ l) × (l < hi)

-- a ray of the lattice has a point of this index, and the move is possible there
pub record IsPossibleAt (plan : PlanOf) (move : JobMove) (ray : Ray) (l : ℕ) : Type 0 where
  pub on_grid : IsRay plan.grid ray
  pub index : l < points_of plan.grid ray.family
  pub possible : is_possible plan move record { ray = ray; l = l; position = point_of plan.grid ray l } ≡ true

-- each index of the ray at which the move is possible is one of these
abbrev pub HoldsPossible : PlanOf → JobMove → Ray → ℕ → ℕ → Type 0
HoldsPossible plan move ray lo hi = (l : ℕ) → IsPossibleAt plan move ray l → IsFrom lo hi l

-- a window for all rays of a family with a first node: on each of them it holds the indices at which the plan's move with a number is
-- possible
pub record IsAlongStrip (plan : PlanOf) (number : ℕ) (family : Family) (i : ℕ) (window : ℕ × ℕ) : Type 0 where
  pub order : window.0 ≤ window.1
  pub within : window.1 ≤ points_of plan.grid family
  pub holds : (move : JobMove) (j : ℕ) → HasNumber plan number move
      → HoldsPossible plan move record { family = family; i = i; j = j } window.0 window.1

-- each ray of the strip with a point at which the move is possible has one of these numbers
abbrev pub HoldsEntered : PlanOf → JobMove → ℕ → ℕ → ℕ → Type 0
HoldsEntered plan move strip lo hi =
    (n : ℕ) (ray : Ray) (l : ℕ) → slice_get (strip_at plan.grid strip) n ≡ Some ray → IsPossibleAt plan move ray l → IsFrom lo hi n

-- the cylinder holds each point of the lattice at which the move is possible
abbrev pub HoldsMet : PlanOf → JobMove → BoundingCylinder → Type 0
HoldsMet plan move cylinder = (ray : Ray) (l : ℕ) → IsPossibleAt plan move ray l → IsInCylinder cylinder (point_of plan.grid ray l)
