-- The part of a move outside of which a point is clear.
use Rattle.std.specs.Prelude.{◌≡◌, ℕ, ◌+◌, ◌^◌, ◌<◌, ◌≤◌, true, List, ℤ}
use Rattle.cutter_slabs.specs.Stacks.{outer_stack}
use Rattle.box_bisect.specs.Between.{IsOutWithin}
use Rattle.ray_grid.specs.Lattice.{point_of}
use Rattle.ray_runs.specs.declared.clear.OpenStretch.{OpenStretch}
use Rattle.vf_spans.specs.Words.{has_bit}
use Rattle.wanted_marks.specs.Rays.{MoveOf, RayOf}

-- no outer slab is left for the point p on a cell before the stretch, and on none after it
pub record IsOpenAt (s : OpenStretch) (v : MoveOf) (p : List ℤ) : Type 0 where
  pub few : s.levels ≤ 10
  pub within : s.first + 2 ^ s.levels ≤ 2 ^ v.depth
  pub early : IsOutWithin (outer_stack v.cutter v.slabs) v.sweep p 0 s.first (2 ^ v.depth)
  pub late : IsOutWithin (outer_stack v.cutter v.slabs) v.sweep p (s.first + 2 ^ s.levels) (2 ^ v.depth) (2 ^ v.depth)

-- for each point of these bits
pub record AreOpenAt (s : OpenStretch) (r : RayOf) (first bits : ℕ) : Type 0 where
  pub few : s.levels ≤ 10
  pub within : s.first + 2 ^ s.levels ≤ 2 ^ r.sweep.depth
  pub each : (b : ℕ) → b < 64 → has_bit bits b ≡ true → IsOpenAt s r.sweep (point_of r.grid r.ray (first + b))
