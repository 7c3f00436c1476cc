-- The part of a line that lies in the first planes of a body.
use Rattle.std.specs.Prelude.{◌≡◌, ℕ, ◌<◌, ◌≤◌, ◌↔◌, IsTrue, List, length, slice_index_or, take}
use Rattle.ray_shapes.specs.declared.half_line.IndexRange.{IndexRange}
use Rattle.ray_shapes.specs.declared.line.Line.{Line}
use Rattle.ray_shapes.specs.declared.plane.Plane.{Plane}
use Rattle.ray_shapes.specs.OnLine.{point_on}
use Rattle.ray_shapes.specs.Planes.{in_body}

-- the interval has just the line's indices whose points the first `count` planes hold
pub record IsPartOf (planes : List Plane) (line : Line) (count : ℕ) (part : IndexRange) : Type 0 where
  pub order : part.lo ≤ part.hi
  pub within : part.hi ≤ line.points
  pub exact : (l : ℕ) → ((part.lo ≤ l) × (l < part.hi)) ↔ ((l < line.points) × IsTrue (in_body (take count planes) (point_on line l)))

-- a plane of a body, by its place and its numbers
pub record IsPlaneAt (planes : List Plane) (n : ℕ) (plane : Plane) : Type 0 where
  pub within : n < length planes
  pub a : (e : Plane) → (slice_index_or planes n e).a ≡ plane.a
  pub b : (e : Plane) → (slice_index_or planes n e).b ≡ plane.b
  pub c : (e : Plane) → (slice_index_or planes n e).c ≡ plane.c
  pub d : (e : Plane) → (slice_index_or planes n e).d ≡ plane.d
