-- Which rays have a point within reach of a segment.
use Rattle.std.specs.Prelude.{ℕ, ◌<◌, ℤ, List, IsTrue}
use Rattle.space.specs.Reach.{is_in_reach}
use Rattle.ray_grid.specs.Grids.{GridSize}
use Rattle.ray_grid.specs.declared.ray.Ray.{Ray}
use Rattle.ray_grid.specs.Lattice.{points_of, point_of}

-- a ray that has a point within reach
abbrev pub Enters : GridSize → List ℤ → List ℤ → ℤ → Ray → Type 0
Enters grid from to reach ray = (l : ℕ) × (l < points_of grid ray.family) × IsTrue (is_in_reach reach from to (point_of grid ray l))
