-- A box of pitch by pitch by step whose lower corner lies in the grid holds the first point of the lattice above that corner.
use Rattle.std.proofs.Common.{◌≡◌, ℕ, ◌-◌, ◌<◌, ◌≤◌, ℤ, pos, ◌+ℤ◌, ◌*ℤ◌, ◌≤ℤ◌, List, arith, refl, subst, sym}
use Rattle.std.proofs.lemmas.Int.{ints}
use Rattle.space.specs.Ranges.{IsBetween}
use Rattle.space.specs.Vectors.{at}
use Rattle.ray_grid.proofs.Sizes.{axis_of, has_first}
use Rattle.ray_grid.specs.Families.{first_axis, ray_axis, second_axis}
use Rattle.ray_grid.specs.Grids.{GridSize}
use Rattle.ray_grid.specs.Lattice.{node_at, nodes_of, place_at, point_at, points_of}
use Rattle.ray_grid.specs.Points.{LatticePoint}
use Rattle.ray_grid.specs.Ranges.{IsGrid}
use Rattle.ray_grid.specs.declared.ray.Family.{Family}
use Rattle.ray_grid.specs.declared.ray.Family.TheVariants.{X, Y, Z}
use Rattle.laws.specs.SeenGouge.{IsInLatticeBox, IsInGrid, IsOnSide, IsPointInBox, IsSeenAt, first_above, index_above, node_above, point_above}
use Rattle.laws.proofs.FirstAbove.{is_first, is_on_side}

-- the multiple 0 is the origin
from_origin : (origin spacing place : ℤ) → (origin +ℤ (pos 0 *ℤ spacing)) ≤ℤ place → origin ≤ℤ place
from_origin origin spacing place h = omega (arith, ints)

-- the first number whose multiple comes up to a place that is at or below the last of `count` of them is one of theirs
among : (origin spacing place : ℤ) (count : ℕ) → pos 1 ≤ℤ spacing → 1 ≤ count → IsBetween (origin +ℤ (pos 0 *ℤ spacing)) (origin +ℤ (pos (count - 1) *ℤ spacing)) place
    → first_above origin spacing place < count
among origin spacing place count some any between =
    let first = is_first origin spacing place some (from_origin origin spacing place between.from_least) in
    let most = first.least (count - 1) between.to_most in
    omega arith

some_nodes : (grid : GridSize) (axis : ℕ) → IsGrid grid → axis < 3 → 1 ≤ nodes_of grid axis
some_nodes grid axis is three = (axis_of grid axis is three).some

axes_below : (family : Family) → (first_axis family < 3) × (second_axis family < 3)
axes_below X = (omega arith, omega arith)
axes_below Y = (omega arith, omega arith)
axes_below Z = (omega arith, omega arith)

-- the coordinates of a point are those of its two nodes and of its place along the ray
record Coordinates (grid : GridSize) (family : Family) (i j l : ℕ) (place : List ℤ) : Type 0 where
  first : at place (first_axis family) ≡ node_at grid (first_axis family) i
  second : at place (second_axis family) ≡ node_at grid (second_axis family) j
  along : at place (ray_axis family) ≡ place_at grid (ray_axis family) l

coordinates : (grid : GridSize) (family : Family) (i j l : ℕ) → Coordinates grid family i j l (point_at grid family i j l)
coordinates grid X i j l = record { first = refl; second = refl; along = refl }
coordinates grid Y i j l = record { first = refl; second = refl; along = refl }
coordinates grid Z i j l = record { first = refl; second = refl; along = refl }

-- the first point above the corner lies in the box
inside_box : (grid : GridSize) (family : Family) (corner : List ℤ) → IsGrid grid → IsInGrid grid family corner
    → IsInLatticeBox grid family corner (point_at grid family (node_above grid (first_axis family) corner) (node_above grid (second_axis family) corner) (index_above grid (ray_axis family) corner))
inside_box grid family corner is within =
    let i = node_above grid (first_axis family) corner in
    let j = node_above grid (second_axis family) corner in
    let l = index_above grid (ray_axis family) corner in
    let there = coordinates grid family i j l in
    let pitch = is.pitch_in.from_least in
    let step = is.step_in.from_least in
    let side = λ (axis : ℕ) (spacing : ℤ) (some : pos 1 ≤ℤ spacing) (from : (at grid.origin axis +ℤ (pos 0 *ℤ spacing)) ≤ℤ at corner axis).
    is_on_side (at grid.origin axis) spacing (at corner axis) some (from_origin (at grid.origin axis) spacing (at corner axis) from) in
    record {
      first = subst (λ z. IsOnSide (at corner (first_axis family)) grid.pitch z) (sym there.first) (side (first_axis family) grid.pitch pitch within.first.from_least);
      second = subst (λ z. IsOnSide (at corner (second_axis family)) grid.pitch z) (sym there.second) (side (second_axis family) grid.pitch pitch within.second.from_least);
      along = subst (λ z. IsOnSide (at corner (ray_axis family)) grid.step z) (sym there.along) (side (ray_axis family) grid.step step within.along.from_least);
    }

pub box_holds : (grid : GridSize) (family : Family) (corner : List ℤ) → IsGrid grid → IsInGrid grid family corner → IsPointInBox grid family corner (point_above grid family corner)
box_holds grid family corner is within =
    let pitch = is.pitch_in.from_least in
    let step = is.step_in.from_least in
    let axes = axes_below family in
    let nodes = λ (axis : ℕ) (three : axis < 3) (between : IsBetween (node_at grid axis 0) (node_at grid axis (nodes_of grid axis - 1)) (at corner axis)).
    among (at grid.origin axis) grid.pitch (at corner axis) (nodes_of grid axis) pitch (some_nodes grid axis is three) between in
    record {
      lattice = record {
        ray = record { first = nodes (first_axis family) axes.0 within.first; second = nodes (second_axis family) axes.1 within.second };
        index = among (at grid.origin (ray_axis family)) grid.step (at corner (ray_axis family)) (points_of grid family) step (has_first grid family is) within.along;
        position = refl;
      };
      of_family = refl;
      inside = inside_box grid family corner is within;
    }

-- what holds all places of the box holds that point
pub seen : (Gouge : List ℤ → Type 0) (grid : GridSize) (family : Family) (corner : List ℤ) → IsGrid grid → IsInGrid grid family corner
    → ((place : List ℤ) → IsInLatticeBox grid family corner place → Gouge place) → (point : LatticePoint) × IsSeenAt grid family Gouge point
seen Gouge grid family corner is within holds =
    let point = box_holds grid family corner is within in
    let place = (point_above grid family corner).position in
    (point_above grid family corner, record { lattice = point.lattice; of_family = point.of_family; gouged = holds place point.inside })
