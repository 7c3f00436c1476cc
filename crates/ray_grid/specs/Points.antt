-- The lattice as one list: each point of each ray. A location on the rays of two families is there twice.
use Rattle.std.specs.Prelude.{◌≡◌, ℕ, ◌*◌, ◌<◌, ℤ, List, map}
use Rattle.std.specs.List.{flat_map, range_with_len}
use Rattle.ray_grid.specs.Grids.{GridSize}
use Rattle.ray_grid.specs.declared.ray.Ray.{Ray}
use Rattle.ray_grid.specs.declared.ray.Family.{Family}
use Rattle.ray_grid.specs.Families.{first_axis, second_axis}
use Rattle.ray_grid.specs.Lattice.{IsRay, nodes_of, points_of, point_of}
use Rattle.ray_grid.specs.Strips.{strips_of}

-- a point of the lattice: its ray, its index along the ray, and its coordinates
pub record LatticePoint : Type 0 where
  pub ray : Ray
  pub l : ℕ
  pub position : List ℤ

-- the point of a ray with an index
abbrev pub point_in : GridSize → Ray → ℕ → LatticePoint
point_in grid ray l = record { ray = ray; l = l; position = point_of grid ray l }

-- the points of a ray, in order
abbrev pub points_on : GridSize → Ray → List LatticePoint
points_on grid ray =
    map (λ l. record { ray = ray; l = l; position = point_of grid ray l }) (range_with_len 0 (points_of grid ray.family))

-- the rays of the grid, strip by strip
abbrev pub rays_of : GridSize → List Ray
rays_of grid = flat_map (λ strip. strip) (strips_of grid)

abbrev pub lattice_of : GridSize → List LatticePoint
lattice_of grid = flat_map (points_on grid) (rays_of grid)

-- a point of the lattice: at an index of a ray of the grid, and where the ray has it
pub record IsPointOf (grid : GridSize) (point : LatticePoint) : Type 0 where
  pub ray : IsRay grid point.ray
  pub index : point.l < points_of grid point.ray.family
  pub position : point.position ≡ point_of grid point.ray point.l

-- how many points the rays of a family have
abbrev pub family_points : GridSize → Family → ℕ
family_points grid family = nodes_of grid (first_axis family) * (nodes_of grid (second_axis family) * points_of grid family)
