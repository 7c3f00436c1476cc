-- A judge of points: whatever decides at which points a move is reported as sure, and at which as possible.
use Rattle.std.specs.Prelude.{◌≡◌, true, false, Bool, List}
use Rattle.std.specs.List.{Contains, list_any}
use Rattle.ray_grid.specs.Points.{LatticePoint}
use Rattle.job_model.specs.Meets.{LowerMeets, UpperMeets}
use Rattle.job_model.specs.Tasks.{JobMove}

-- which points each move is sure of, and at which it is possible
pub record Judge : Type 0 where
  pub sure : JobMove → LatticePoint → Bool
  pub possible : JobMove → LatticePoint → Bool

-- The judge is right about these moves and every point: what a move is sure of its lower cutter meets at some rational time, and it
-- is possible there too; where a move isn't possible its upper cutter meets the point at no rational time.
pub record IsRight (moves : List JobMove) (judge : Judge) : Type 0 where
  pub sure : (move : JobMove) (point : LatticePoint) → Contains moves move → judge.sure move point ≡ true → LowerMeets move point
  pub sure_possible : (move : JobMove) (point : LatticePoint) → Contains moves move → judge.sure move point ≡ true
      → judge.possible move point ≡ true
  pub not_possible : (move : JobMove) (point : LatticePoint) → Contains moves move → judge.possible move point ≡ false
      → ¬ UpperMeets move point

-- some of the moves is sure of the point, or possible at it
abbrev pub any_sure : Judge → List JobMove → LatticePoint → Bool
any_sure judge moves point = list_any (λ move. judge.sure move point) moves

abbrev pub any_possible : Judge → List JobMove → LatticePoint → Bool
any_possible judge moves point = list_any (λ move. judge.possible move point) moves
