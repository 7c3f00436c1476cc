-- Where a point of a ray lies in another grid when it is turned.
use Rattle.std.specs.Prelude.{◌≡◌, ℕ, ◌+◌, ◌-◌, ◌<◌, ℤ, pos, ◌+ℤ◌, ◌*ℤ◌, Bool, List, Option, Some, None, if◌then◌else◌}
use Rattle.ray_grid.specs.Families.{ray_axis}
use Rattle.ray_grid.specs.Grids.{GridSize}
use Rattle.ray_grid.specs.Lattice.{IsRay, point_of, points_of}
use Rattle.ray_grid.specs.Turns.{forth, is_negated, old_axis}
use Rattle.ray_grid.specs.declared.ray.Family.{Family}
use Rattle.ray_grid.specs.declared.ray.Ray.{Ray}
use Rattle.ray_grid.specs.declared.turn.Turn.{Turn}
use Rattle.setup_turn.specs.declared.line.TurnedLine.{TurnedLine}
use Rattle.setup_turn.specs.declared.place.GridPoint.{GridPoint}

-- so many steps of a width, fewer than the count, lead from the origin to the place; or no number of them does
abbrev pub AreStepsTo : ℤ → ℤ → ℕ → ℤ → Option ℕ → Type 0
AreStepsTo origin width count place None = (n : ℕ) → n < count → (origin +ℤ (pos n *ℤ width)) ≡ place → ⊥
AreStepsTo origin width count place (Some n) = (n < count) × ((origin +ℤ (pos n *ℤ width)) ≡ place)

-- a point of the grid on a ray of the family
pub record IsPointAt (grid : GridSize) (family : Family) (place : List ℤ) (ray : Ray) (l : ℕ) : Type 0 where
  pub on : IsRay grid ray
  pub low : l < points_of grid ray.family
  pub along : ray.family ≡ family
  pub there : point_of grid ray l ≡ place

-- the point of the grid that lies at the place, where there is one
abbrev pub IsFound : GridSize → Family → List ℤ → Option GridPoint → Type 0
IsFound grid family place None = (ray : Ray) (l : ℕ) → IsPointAt grid family place ray l → ⊥
IsFound grid family place (Some found) = IsPointAt grid family place found.ray found.l

-- point m of the new ray is point l of the old one, turned
pub record IsTurnedTo (turn : Turn) (a b : GridSize) (old : Ray) (l : ℕ) (new : Ray) (m : ℕ) : Type 0 where
  pub family : old_axis turn (ray_axis new.family) ≡ ray_axis old.family
  pub place : forth turn (point_of a old l) ≡ point_of b new m

-- a point of the grid where point l of the old ray is turned to
pub record HasPlace (turn : Turn) (a b : GridSize) (old : Ray) (l : ℕ) (new : Ray) (m : ℕ) : Type 0 where
  pub on : IsRay b new
  pub low : m < points_of b new.family
  pub turned : IsTurnedTo turn a b old l new m

-- the new ray of an old one, found by one point of it: where that point lies, and whether the new ray runs against the old one
pub record IsNewLine (turn : Turn) (a b : GridSize) (old : Ray) (first : ℕ) (line : TurnedLine) : Type 0 where
  pub place : HasPlace turn a b old first line.ray line.l
  pub reversed : line.reversed ≡ is_negated turn (ray_axis line.ray.family)

abbrev pub IsNewLineOf : Turn → GridSize → GridSize → Ray → ℕ → Option TurnedLine → Type 0
IsNewLineOf turn a b old first None = (new : Ray) (m : ℕ) → HasPlace turn a b old first new m → ⊥
IsNewLineOf turn a b old first (Some line) = IsNewLine turn a b old first line

-- how many points of the old ray, from the first one on, have a place on the new ray
abbrev pub room_of : Bool → ℕ → ℕ → ℕ
room_of reversed l points = if reversed then l + 1 else points - l
