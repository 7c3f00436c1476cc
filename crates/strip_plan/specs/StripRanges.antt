-- The two ranges that a box has of a strip: of its rays, and of the points along them.
use Rattle.std.specs.Prelude.{ℕ}
use Rattle.ray_grid.specs.Families.{second_axis}
use Rattle.ray_grid.specs.Grids.{GridSize}
use Rattle.ray_grid.specs.Lattice.{nodes_of, points_of}
use Rattle.ray_grid.specs.declared.ray.Family.{Family}
use Rattle.strip_plan.specs.declared.strip_range.StripRange.{StripRange}
use Rattle.strip_plan.specs.declared.strip_range.StripRange.TheVariants.{Points, Rays}

-- how many indices a range is of: as many as a strip of the family has rays, or as a ray has points
abbrev pub count_of : GridSize → Family → StripRange → ℕ
count_of grid family Rays = nodes_of grid (second_axis family)
count_of grid family Points = points_of grid family

-- its index for the point with the index l of the ray with the number j
abbrev pub index_of : StripRange → ℕ → ℕ → ℕ
index_of Rays j l = j
index_of Points j l = l
