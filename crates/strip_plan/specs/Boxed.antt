-- The boxes outside of which a move is possible at no point of the lattice.
use Rattle.std.specs.Prelude.{◌≡◌, true, ℕ, ◌+◌, ◌^◌, ◌<◌, ◌≤◌, ◌≢◌, List, Some, length, slice_get, slice_index, slice_index_or, take, ℤ}
use Rattle.space.specs.Sweeps.{SweepOf}
use Rattle.cutter_slabs.specs.Stacks.{StacksOf}
use Rattle.cutter_marks.specs.MarkBy.{is_possible_by}
use Rattle.ray_grid.specs.Grids.{GridSize}
use Rattle.ray_grid.specs.declared.ray.Ray.{Ray}
use Rattle.ray_grid.specs.Lattice.{IsRay, point_of, points_of}
use Rattle.sweep_boxes.specs.declared.point_box.PointBox.{PointBox}
use Rattle.sweep_boxes.specs.Boxes.{IsInBox}
use Rattle.sweep_boxes.specs.Covers.{IsInSome}
use Rattle.job_model.specs.Tasks.{JobMove}
use Rattle.strip_plan.specs.declared.index_box.IndexBox.{IndexBox}
use Rattle.strip_plan.specs.IndexBoxes.{AreBoxesOf, HasPoint, IsBoxOf, IsIndexed}

-- a ray of the lattice has a point of this index, and the move is possible there
pub record IsMetAt (grid : GridSize) (slabs depth : ℕ) (move : JobMove) (ray : Ray) (l : ℕ) : Type 0 where
  pub on_grid : IsRay grid ray
  pub index : l < points_of grid ray.family
  pub possible : is_possible_by move.cutter slabs move.sweep (point_of grid ray l) (2 ^ depth) ≡ true

-- one of the boxes from a place on and before another has the point of the ray
pub record IsInOneOf (boxes : List IndexBox) (start end : ℕ) (ray : Ray) (l : ℕ) : Type 0 where
  pub place : ℕ
  pub after : start ≤ place
  pub before : place < end
  pub has : (d : IndexBox) → HasPoint (slice_index_or boxes place d) ray l

-- the boxes hold the points of a region at which a motion of a cutter is possible
abbrev pub Covers : List PointBox → PointBox → StacksOf → SweepOf → ℕ → Type 0
Covers boxes region stacks sweep depth =
    (p : List ℤ) → IsInBox region p → is_possible_by stacks.cutter stacks.slabs sweep p (2 ^ depth) ≡ true → IsInSome boxes 0 p

-- the box that holds a move's boxes has the point, and where there are several from one place to another, one of these has it
pub record IsHeld (hull : IndexBox) (boxes : List IndexBox) (start end : ℕ) (ray : Ray) (l : ℕ) : Type 0 where
  pub in_hull : HasPoint hull ray l
  pub in_one : start ≢ end → IsInOneOf boxes start end ray l

-- For each of the first `count` moves: the box that holds its boxes; where these start and end, if they are several; and that they have
-- the points at which it is possible.
pub record HasBoxes (grid : GridSize) (slabs depth : ℕ) (moves : List JobMove) (hulls boxes : List IndexBox) (starts : List ℕ)
    (count : ℕ) : Type 0 where
  pub as_many : length hulls ≡ count
  pub many : length starts ≡ count + 1
  pub within : (n : ℕ) → n < count + 1 → slice_index starts n ≤ length boxes
  pub last : slice_index starts count ≡ length boxes
  pub hulls_fit : AreBoxesOf grid hulls
  pub boxes_fit : AreBoxesOf grid boxes
  pub each : (n : ℕ) (move : JobMove) (d : IndexBox) (ray : Ray) (l : ℕ) → n < count → slice_get moves n ≡ Some move
      → IsMetAt grid slabs depth move ray l
      → IsHeld (slice_index_or hulls n d) boxes (slice_index starts n) (slice_index starts (n + 1)) ray l

-- the first `count` boxes are pushed onto others by their indices
pub record ArePushed (grid : GridSize) (held : List PointBox) (old new : List IndexBox) (count : ℕ) : Type 0 where
  pub kept : take (length old) new ≡ old
  pub many : length new ≡ length old + count
  pub each : (n : ℕ) (p : PointBox) (d : IndexBox) → n < count
      → IsIndexed grid (slice_index_or held n p) (slice_index_or new (length old + n) d)

-- the boxes of a move are pushed where they are several, and there is one that holds them
pub record AreHeld (grid : GridSize) (held : List PointBox) (hull : IndexBox) (old new : List IndexBox) : Type 0 where
  pub kept : take (length old) new ≡ old
  pub hull_fits : IsBoxOf grid hull
  pub fit : AreBoxesOf grid new
  pub holds : (ray : Ray) (l : ℕ) → IsRay grid ray → l < points_of grid ray.family → IsInSome held 0 (point_of grid ray l)
      → IsHeld hull new (length old) (length new) ray l
