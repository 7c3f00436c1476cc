-- Boxes by the indices of the lattice: which nodes and points lie in them.
use Rattle.std.specs.Prelude.{ℕ, ◌<◌, List, ℤ, length, slice_index_or}
use Rattle.space.specs.Ranges.{IsBetween}
use Rattle.space.specs.Vectors.{at}
use Rattle.ray_grid.specs.Families.{first_axis, ray_axis, second_axis}
use Rattle.ray_grid.specs.Grids.{GridSize}
use Rattle.ray_grid.specs.declared.ray.Family.{Family}
use Rattle.ray_grid.specs.declared.ray.Family.TheVariants.{X, Y, Z}
use Rattle.ray_grid.specs.declared.ray.Ray.{Ray}
use Rattle.ray_grid.specs.Lattice.{IsRay, node_at, nodes_of, place_at, point_of, points_of}
use Rattle.sweep_boxes.specs.declared.point_box.PointBox.{PointBox}
use Rattle.sweep_boxes.specs.Boxes.{IsInBox}
use Rattle.strip_plan.specs.declared.index_box.AxisRanges.{AxisRanges}
use Rattle.strip_plan.specs.declared.index_box.IndexBox.{IndexBox}
use Rattle.strip_plan.specs.Ranges.{IsIn, IsRangeOf, Joins}

-- what a box has of the rays of a family, in ranges: of their first and their second node, and of the points along them
pub record RayRanges : Type 0 where
  pub first : ℕ × ℕ
  pub second : ℕ × ℕ
  pub along : ℕ × ℕ

abbrev pub ranges_for : IndexBox → Family → RayRanges
ranges_for box X = record { first = box.y.nodes; second = box.z.nodes; along = box.x.points }
ranges_for box Y = record { first = box.x.nodes; second = box.z.nodes; along = box.y.points }
ranges_for box Z = record { first = box.x.nodes; second = box.y.nodes; along = box.z.points }

-- the ranges are of the nodes and the points that the grid has for the family's rays
pub record AreRangesOf (grid : GridSize) (family : Family) (rays : RayRanges) : Type 0 where
  pub first : IsRangeOf (nodes_of grid (first_axis family)) rays.first
  pub second : IsRangeOf (nodes_of grid (second_axis family)) rays.second
  pub along : IsRangeOf (points_of grid family) rays.along

-- the box is one of the grid
abbrev pub IsBoxOf : GridSize → IndexBox → Type 0
IsBoxOf grid box = (family : Family) → AreRangesOf grid family (ranges_for box family)

-- all boxes are
abbrev pub AreBoxesOf : GridSize → List IndexBox → Type 0
AreBoxesOf grid boxes = (n : ℕ) (d : IndexBox) → n < length boxes → IsBoxOf grid (slice_index_or boxes n d)

-- the box has the point of a ray with an index: both nodes of the ray, and the index
pub record HasPoint (box : IndexBox) (ray : Ray) (l : ℕ) : Type 0 where
  pub first : IsIn (ranges_for box ray.family).first ray.i
  pub second : IsIn (ranges_for box ray.family).second ray.j
  pub along : IsIn (ranges_for box ray.family).along l

-- a place on an axis lies between the box's ends
abbrev pub IsBetweenEnds : PointBox → ℕ → ℤ → Type 0
IsBetweenEnds places axis z = IsBetween (at places.low axis) (at places.high axis) z

-- what a box has on the axis of a family: the nodes and the points along a ray that lie between its ends
pub record AreOnAxis (grid : GridSize) (places : PointBox) (family : Family) (ranges : AxisRanges) : Type 0 where
  pub nodes_of_axis : IsRangeOf (nodes_of grid (ray_axis family)) ranges.nodes
  pub points_of_ray : IsRangeOf (points_of grid family) ranges.points
  pub nodes : (n : ℕ) → n < nodes_of grid (ray_axis family)
      → IsBetweenEnds places (ray_axis family) (node_at grid (ray_axis family) n) → IsIn ranges.nodes n
  pub points : (l : ℕ) → l < points_of grid family
      → IsBetweenEnds places (ray_axis family) (place_at grid (ray_axis family) l) → IsIn ranges.points l

-- a box by its indices: it has each point of the lattice that lies between the box's places
pub record IsIndexed (grid : GridSize) (places : PointBox) (box : IndexBox) : Type 0 where
  pub on_grid : IsBoxOf grid box
  pub has : (ray : Ray) (l : ℕ) → IsRay grid ray → l < points_of grid ray.family → IsInBox places (point_of grid ray l) → HasPoint box ray l

-- a box that joins two others
pub record JoinsRays (one other all : RayRanges) : Type 0 where
  pub first : Joins one.first other.first all.first
  pub second : Joins one.second other.second all.second
  pub along : Joins one.along other.along all.along

abbrev pub JoinsBoxes : IndexBox → IndexBox → IndexBox → Type 0
JoinsBoxes one other all = (family : Family) → JoinsRays (ranges_for one family) (ranges_for other family) (ranges_for all family)
