-- Points of a ray that inner slabs hold at the first sample of a move or at the last one, and the run of points between two of them.
use Rattle.std.specs.Prelude.{◌≡◌, ℕ, ◌^◌, ◌≤◌, ◌<◌, true, List, ℤ, pos, ◌≤ℤ◌}
use Rattle.ray_grid.specs.Lattice.{point_of, points_of}
use Rattle.width_bisect.specs.Bounds.{meets}
use Rattle.wanted_marks.specs.declared.held.Held.{Held}
use Rattle.wanted_marks.specs.Nears.{AreInnerBounds}
use Rattle.wanted_marks.specs.Rays.{IsRemovedBy, MoveOf, RayOf}
use Rattle.wanted_marks.specs.Samples.{IsSampleOf}

-- the point p is ahead of the tip at the sample k and meets the bounds of an inner slab there
pub record IsHeldIn (held : Held) (v : MoveOf) (p : List ℤ) (k : ℕ) : Type 0 where
  pub there : IsSampleOf held.sample v p k
  pub ahead : pos 0 ≤ℤ held.sample.u
  pub met : meets held.bounds held.sample.u held.sample.width ≡ true
  pub near : AreInnerBounds held.bounds v k

-- the point at its index on the ray
pub record IsHeldAt (held : Held) (r : RayOf) (k : ℕ) : Type 0 where
  pub within : held.index < points_of r.grid r.ray.family
  pub there : IsHeldIn held r.sweep (point_of r.grid r.ray held.index) k

-- at the first sample, and at the last one
abbrev pub IsHeldFirst : Held → RayOf → Type 0
IsHeldFirst held r = IsHeldAt held r 0

abbrev pub IsHeldLast : Held → RayOf → Type 0
IsHeldLast held r = IsHeldAt held r (2 ^ r.sweep.depth)

-- the points from the index l to the index m are sure, and so possible
abbrev pub IsRun : RayOf → ℕ → ℕ → Type 0
IsRun r l m = (x : ℕ) → l ≤ x → x ≤ m → IsRemovedBy r.sweep (point_of r.grid r.ray x)
