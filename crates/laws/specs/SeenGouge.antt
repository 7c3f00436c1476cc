-- Laws of the lattice: which gouge it sees for sure. One that holds a box of pitch by pitch by step, its short side along a family's rays.
use Rattle.std.specs.Prelude.{◌≡◌, ℕ, ◌+◌, ◌-◌, ◌/◌, ◌≤◌, ℤ, pos, ◌+ℤ◌, ◌-ℤ◌, ◌*ℤ◌, ◌≤ℤ◌, ◌<ℤ◌, unsigned_abs, List}
use Rattle.space.specs.Ranges.{IsBetween}
use Rattle.space.specs.Vectors.{at}
use Rattle.ray_grid.specs.Families.{first_axis, ray_axis, second_axis}
use Rattle.ray_grid.specs.Grids.{GridSize}
use Rattle.ray_grid.specs.Lattice.{node_at, nodes_of, place_at, point_of, points_of}
use Rattle.ray_grid.specs.Points.{IsPointOf, LatticePoint}
use Rattle.ray_grid.specs.Ranges.{IsGrid}
use Rattle.ray_grid.specs.declared.ray.Family.{Family}
use Rattle.ray_grid.specs.declared.ray.Ray.{Ray}

-- the least number n with origin + n * spacing at or above the place, which is not below the origin: the distance divided, rounded up
abbrev pub first_above : ℤ → ℤ → ℤ → ℕ
first_above origin spacing place = (unsigned_abs (place -ℤ origin) + (unsigned_abs spacing - 1)) / unsigned_abs spacing

-- the first node of an axis at or above the place
abbrev pub node_above : GridSize → ℕ → List ℤ → ℕ
node_above grid axis place = first_above (at grid.origin axis) grid.pitch (at place axis)

-- the first index along a ray of the axis at or above the place
abbrev pub index_above : GridSize → ℕ → List ℤ → ℕ
index_above grid axis place = first_above (at grid.origin axis) grid.step (at place axis)

-- the family's ray through the first nodes at or above the corner
abbrev pub ray_above : GridSize → Family → List ℤ → Ray
ray_above grid family corner =
    record { family = family; i = node_above grid (first_axis family) corner; j = node_above grid (second_axis family) corner }

-- the first point of that ray at or above the corner
abbrev pub point_above : GridSize → Family → List ℤ → LatticePoint
point_above grid family corner =
    let ray = ray_above grid family corner in
    let l = index_above grid (ray_axis family) corner in
    record { ray = ray; l = l; position = point_of grid ray l }

-- the place lies in the grid: from the first node to the last along both node axes, from the first point to the last along the rays
pub record IsInGrid (grid : GridSize) (family : Family) (place : List ℤ) : Type 0 where
  pub first :
      let axis = first_axis family in
      IsBetween (node_at grid axis 0) (node_at grid axis (nodes_of grid axis - 1)) (at place axis)
  pub second :
      let axis = second_axis family in
      IsBetween (node_at grid axis 0) (node_at grid axis (nodes_of grid axis - 1)) (at place axis)
  pub along :
      let axis = ray_axis family in
      IsBetween (place_at grid axis 0) (place_at grid axis (points_of grid family - 1)) (at place axis)

-- a coordinate on a side of a box: at or above the side's lower end, and below its upper one
pub record IsOnSide (lower length z : ℤ) : Type 0 where
  pub from_lower : lower ≤ℤ z
  pub before_upper : z <ℤ (lower +ℤ length)

-- a place in the box with that lower corner: its sides are a pitch long along both node axes of the family, and a step along its rays
pub record IsInLatticeBox (grid : GridSize) (family : Family) (corner place : List ℤ) : Type 0 where
  pub first : IsOnSide (at corner (first_axis family)) grid.pitch (at place (first_axis family))
  pub second : IsOnSide (at corner (second_axis family)) grid.pitch (at place (second_axis family))
  pub along : IsOnSide (at corner (ray_axis family)) grid.step (at place (ray_axis family))

-- the number is the least whose multiple of the spacing comes up to the place
pub record IsFirstAbove (origin spacing place : ℤ) (n : ℕ) : Type 0 where
  pub above : place ≤ℤ (origin +ℤ (pos n *ℤ spacing))
  pub least : (m : ℕ) → place ≤ℤ (origin +ℤ (pos m *ℤ spacing)) → n ≤ m

-- the division gives that number, wherever the place is not below the origin
abbrev pub FirstIsLeast : Type 0
FirstIsLeast =
    (origin spacing place : ℤ) → pos 1 ≤ℤ spacing → origin ≤ℤ place → IsFirstAbove origin spacing place (first_above origin spacing place)

-- a point of the lattice, on a ray of the family, in the box
pub record IsPointInBox (grid : GridSize) (family : Family) (corner : List ℤ) (point : LatticePoint) : Type 0 where
  pub lattice : IsPointOf grid point
  pub of_family : point.ray.family ≡ family
  pub inside : IsInLatticeBox grid family corner point.position

-- a box of pitch by pitch by step whose lower corner lies in the grid holds a point of the lattice, and it is the first above the corner
abbrev pub BoxHoldsPoint : Type 0
BoxHoldsPoint =
    (grid : GridSize) (family : Family) (corner : List ℤ)
    → IsGrid grid → IsInGrid grid family corner → IsPointInBox grid family corner (point_above grid family corner)

-- a point of the lattice on a ray of the family that lies in the gouge
pub record IsSeenAt (grid : GridSize) (family : Family) (Gouge : List ℤ → Type 0) (point : LatticePoint) : Type 0 where
  pub lattice : IsPointOf grid point
  pub of_family : point.ray.family ≡ family
  pub gouged : Gouge point.position

-- a gouge, any set of places, that holds such a box is seen at a point of the lattice
abbrev pub GougeIsSeen : (List ℤ → Type 0) → Type 0
GougeIsSeen Gouge =
    (grid : GridSize) (family : Family) (corner : List ℤ) → IsGrid grid → IsInGrid grid family corner
    → ((place : List ℤ) → IsInLatticeBox grid family corner place → Gouge place) → (point : LatticePoint) × IsSeenAt grid family Gouge point
