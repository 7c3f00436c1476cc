-- What the number of a ray is.
use Rattle.std.specs.Prelude.{◌≡◌, Some, slice_get}
use Rattle.ray_grid.specs.Grids.{GridSize}
use Rattle.ray_grid.specs.declared.ray.Ray.{Ray}
use Rattle.ray_grid.specs.Lattice.{IsRay}
use Rattle.ray_grid.specs.Strips.{ray_number}
use Rattle.ray_grid.specs.Points.{rays_of}

-- each ray of a grid, whatever its numbers, is in the list of all its rays at its number
abbrev pub NumberIsPlace : Type 0
NumberIsPlace = (grid : GridSize) (ray : Ray) → IsRay grid ray → slice_get (rays_of grid) (ray_number grid ray) ≡ Some ray
