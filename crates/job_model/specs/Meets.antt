-- What the moves of a job meet, said of the exact cutters: the lower one, with its flank's tangent rounded down, and the upper
-- one, with the tangent rounded up. They are the same where a cutter isn't a cone.
use Rattle.std.specs.Prelude.{◌≡◌, true, ◌||◌, List}
use Rattle.std.specs.List.{Contains}
use Rattle.cutter_slabs.specs.Meets.{MeetsLower, MeetsUpper}
use Rattle.ray_grid.specs.Points.{IsPointOf, LatticePoint}
use Rattle.job_model.specs.Points.{is_fixture, is_part, is_stock}
use Rattle.job_model.specs.Tasks.{Job, JobMove}

-- the move meets the point: its lower, or its upper, cutter holds it at some rational time
abbrev pub LowerMeets : JobMove → LatticePoint → Type 0
LowerMeets move point = MeetsLower move.cutter move.sweep point.position

abbrev pub UpperMeets : JobMove → LatticePoint → Type 0
UpperMeets move point = MeetsUpper move.cutter move.sweep point.position

-- some of the moves meets the point with its lower cutter
pub record SomeMeets (moves : List JobMove) (point : LatticePoint) : Type 0 where
  pub move : JobMove
  pub among : Contains moves move
  pub met : LowerMeets move point

-- none of the moves meets the point with its upper cutter
abbrev pub NoneMeets : List JobMove → LatticePoint → Type 0
NoneMeets moves point = (move : JobMove) → Contains moves move → ¬ UpperMeets move point

-- The move keeps off: its upper cutter meets no lattice point of the part or of a fixture, and in rapid motion no lattice point of
-- the stock except one that a move before it met with its lower cutter.
pub record KeepsOff (job : Job) (before : List JobMove) (move : JobMove) : Type 0 where
  pub solids : (point : LatticePoint) → IsPointOf job.plan.grid point → (is_part job point || is_fixture job point) ≡ true
      → ¬ UpperMeets move point
  pub stock : (point : LatticePoint) → move.rapid ≡ true → IsPointOf job.plan.grid point → is_stock job point ≡ true
      → UpperMeets move point → SomeMeets before point
