-- What the test of a point says.
use Rattle.std.proofs.Common.{◌≡◌, ℕ, ◌<◌, nat_lt, true}
use Rattle.std.proofs.lemmas.Bool.{and_parts, ltb-true}
use Rattle.ray_grid.specs.Grids.{GridSize}
use Rattle.ray_grid.specs.declared.ray.Ray.{Ray}
use Rattle.ray_grid.specs.Families.{first_axis, second_axis}
use Rattle.ray_grid.specs.Lattice.{IsRay, is_point_on, is_ray_on, nodes_of, points_of}

-- what passes the test is a point of a ray of the grid
pub has-is_point_on : (grid : GridSize) (ray : Ray) (l : ℕ) → is_point_on grid ray l ≡ true → IsRay grid ray × (l < points_of grid ray.family)
has-is_point_on grid ray l test =
    let (on, below) = and_parts (is_ray_on grid ray) (nat_lt l (points_of grid ray.family)) test in
    let (first, second) = and_parts (nat_lt ray.i (nodes_of grid (first_axis ray.family))) (nat_lt ray.j (nodes_of grid (second_axis ray.family))) on in (
      record { first = ltb-true ray.i (nodes_of grid (first_axis ray.family)) first; second = ltb-true ray.j (nodes_of grid (second_axis ray.family)) second },
      ltb-true l (points_of grid ray.family) below,
    )
