-- What a saved stock is: a grid, and for each of its rays the set of the ray's points that are stock.
use Rattle.std.specs.Prelude.{◌≡◌, Bool, false, List, length, map, replicate, slice_index_or, slice_set, []}
use Rattle.ray_grid.specs.Grids.{GridSize}
use Rattle.ray_grid.specs.Lattice.{points_of}
use Rattle.ray_grid.specs.Points.{rays_of}
use Rattle.ray_grid.specs.Ranges.{IsGrid}
use Rattle.ray_grid.specs.Strips.{ray_number}
use Rattle.ray_grid.specs.declared.ray.Ray.{Ray}
use Rattle.ray_shapes.specs.Sets.{AreSetsOver}

-- the sets are in the order of the grid's rays
pub record Saved : Type 0 where
  pub grid : GridSize
  pub sets : List (List Bool)

-- a ray's set with no points
abbrev pub no_flags : GridSize → Ray → List Bool
no_flags grid ray = replicate (points_of grid ray.family) false

-- the sets of a grid with no points
abbrev pub no_sets : GridSize → List (List Bool)
no_sets grid = map (no_flags grid) (rays_of grid)

-- the set of a ray
abbrev pub set_of : Saved → Ray → List Bool
set_of stock ray = slice_index_or stock.sets (ray_number stock.grid ray) []

-- the sets with another one for a ray
abbrev pub with_set : GridSize → Ray → List Bool → List (List Bool) → List (List Bool)
with_set grid ray set sets = slice_set sets (ray_number grid ray) set

abbrev pub saved_with : Saved → Ray → List Bool → Saved
saved_with stock ray set = record { grid = stock.grid; sets = with_set stock.grid ray set stock.sets }

-- the grid has three axes and is valid, and the sets are those of its rays
pub record IsSaved (stock : Saved) : Type 0 where
  pub origin : length stock.grid.origin ≡ 3
  pub counts : length stock.grid.counts ≡ 3
  pub grid : IsGrid stock.grid
  pub sets : AreSetsOver stock.grid stock.sets
