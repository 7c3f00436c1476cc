-- The rays of a grid against a bounding cylinder.
use Rattle.std.specs.Prelude.{◌≡◌, ℕ, ◌+◌, ◌<◌, true}
use Rattle.ray_grid.specs.Grids.{GridSize}
use Rattle.ray_grid.specs.declared.ray.Family.{Family}
use Rattle.ray_grid.specs.declared.ray.Ray.{Ray}
use Rattle.ray_grid.specs.Lattice.{point_of, points_of}
use Rattle.sweep_boxes.specs.declared.cylinder.BoundingCylinder.{BoundingCylinder}
use Rattle.sweep_boxes.specs.Cylinders.{IsInCylinder, IsInWidest}
use Rattle.vf_spans.specs.Words.{has_bit}

-- a bounding cylinder and the rays of one strip of a grid, those of a family with the node i
pub record CylinderStripOf : Type 0 where
  pub cylinder : BoundingCylinder
  pub grid : GridSize
  pub family : Family
  pub i : ℕ

-- a bounding cylinder and a ray of a grid
pub record CylinderRayOf : Type 0 where
  pub cylinder : BoundingCylinder
  pub grid : GridSize
  pub ray : Ray

-- the ray of the strip with the node j
abbrev pub cylinder_ray_at : CylinderStripOf → ℕ → CylinderRayOf
cylinder_ray_at s j = record { cylinder = s.cylinder; grid = s.grid; ray = record { family = s.family; i = s.i; j = j } }

-- the cylinder where it is widest holds the point at an index of the ray
abbrev pub IsHeldAt : CylinderRayOf → ℕ → Type 0
IsHeldAt r l = IsInWidest r.cylinder (point_of r.grid r.ray l)

-- the cylinder holds it, at each band too
abbrev pub IsKeptAt : CylinderRayOf → ℕ → Type 0
IsKeptAt r l = IsInCylinder r.cylinder (point_of r.grid r.ray l)

-- each bit of the word, the lowest of which is the index `first`, is a point of the ray
abbrev pub AreOnRay : CylinderRayOf → ℕ → ℕ → Type 0
AreOnRay r first wanted = (b : ℕ) → b < 64 → has_bit wanted b ≡ true → first + b < points_of r.grid r.ray.family

-- bit b of the word is set, and the cylinder where it is widest holds its point
abbrev pub IsHeldBit : CylinderRayOf → ℕ → ℕ → ℕ → Type 0
IsHeldBit r first wanted b = (has_bit wanted b ≡ true) × IsHeldAt r (first + b)

-- bit b of the word is set, and the cylinder holds its point at each band too
abbrev pub IsKeptBit : CylinderRayOf → ℕ → ℕ → ℕ → Type 0
IsKeptBit r first wanted b = (has_bit wanted b ≡ true) × IsKeptAt r (first + b)
