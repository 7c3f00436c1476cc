-- The rays of a grid one after the other.
use Rattle.std.specs.Prelude.{◌≡◌, ℕ, ◌+◌, nat_lt, if◌then◌else◌}
use Rattle.ray_grid.specs.Families.{first_axis, second_axis}
use Rattle.ray_grid.specs.Grids.{GridSize}
use Rattle.ray_grid.specs.Lattice.{IsRay, nodes_of}
use Rattle.ray_grid.specs.Strips.{ray_number}
use Rattle.ray_grid.specs.declared.ray.Family.{Family}
use Rattle.ray_grid.specs.declared.ray.Family.TheVariants.{X, Y, Z}
use Rattle.ray_grid.specs.declared.ray.Ray.{Ray}

-- the first ray of a family
abbrev pub first_of_family : Family → Ray
first_of_family family = record { family = family; i = 0; j = 0 }

-- the family after a family; after the last one comes the first again
abbrev pub family_after : Family → Family
family_after Z = X
family_after X = Y
family_after Y = Z

-- the ray after a ray, in the order of strips and rays
abbrev pub ray_after : GridSize → Ray → Ray
ray_after grid ray =
    if nat_lt (ray.j + 1) (nodes_of grid (second_axis ray.family))
    then record { family = ray.family; i = ray.i; j = ray.j + 1 }
    else (if nat_lt (ray.i + 1) (nodes_of grid (first_axis ray.family))
    then record { family = ray.family; i = ray.i + 1; j = 0 }
    else first_of_family (family_after ray.family))

-- the ray is one of the grid and has this number
pub record IsRayAt (grid : GridSize) (number : ℕ) (ray : Ray) : Type 0 where
  pub on : IsRay grid ray
  pub same : ray_number grid ray ≡ number
