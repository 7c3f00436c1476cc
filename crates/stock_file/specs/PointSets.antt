-- The points of a grid that pass a test, as sets and as a saved stock.
use Rattle.std.specs.Prelude.{Bool, List, map}
use Rattle.std.specs.List.{range_with_len}
use Rattle.ray_grid.specs.Grids.{GridSize}
use Rattle.ray_grid.specs.Lattice.{points_of}
use Rattle.ray_grid.specs.Points.{LatticePoint, point_in, rays_of}
use Rattle.ray_grid.specs.declared.ray.Ray.{Ray}
use Rattle.stock_file.specs.Saved.{Saved}

-- the points of a ray
abbrev pub set_where : GridSize → (LatticePoint → Bool) → Ray → List Bool
set_where grid inside ray = map (λ l. inside (point_in grid ray l)) (range_with_len 0 (points_of grid ray.family))

-- the points of each ray, in order
abbrev pub sets_where : GridSize → (LatticePoint → Bool) → List (List Bool)
sets_where grid inside = map (set_where grid inside) (rays_of grid)

-- the stock that is saved of them
abbrev pub saved_where : GridSize → (LatticePoint → Bool) → Saved
saved_where grid inside = record { grid = grid; sets = sets_where grid inside }
