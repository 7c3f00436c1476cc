-- The lattice: rays of three families through the nodes of a grid, and the points along each ray.
use Rattle.std.specs.Prelude.{ℕ, ◌*◌, ◌/◌, ◌<◌, ◌&&◌, nat_lt, ℤ, pos, ◌+ℤ◌, ◌*ℤ◌, unsigned_abs, Bool, List, [], ◌∷◌, slice_index}
use Rattle.ray_grid.specs.Grids.{GridSize}
use Rattle.ray_grid.specs.declared.ray.Ray.{Ray}
use Rattle.ray_grid.specs.declared.ray.Family.{Family}
use Rattle.ray_grid.specs.declared.ray.Family.TheVariants.{X, Y, Z}
use Rattle.space.specs.Vectors.{at}
use Rattle.ray_grid.specs.Families.{ray_axis, first_axis, second_axis}

-- how many nodes an axis has, and how many points a ray has for each node that it passes
abbrev pub nodes_of : GridSize → ℕ → ℕ
nodes_of grid axis = slice_index grid.counts axis

abbrev pub per_node : GridSize → ℕ
per_node grid = unsigned_abs grid.pitch / unsigned_abs grid.step

-- how many points a ray of the family has
abbrev pub points_of : GridSize → Family → ℕ
points_of grid family = nodes_of grid (ray_axis family) * per_node grid

-- where node n of an axis lies, and point l of a ray along it
abbrev pub node_at : GridSize → ℕ → ℕ → ℤ
node_at grid axis n = at grid.origin axis +ℤ (pos n *ℤ grid.pitch)

abbrev pub place_at : GridSize → ℕ → ℕ → ℤ
place_at grid axis l = at grid.origin axis +ℤ (pos l *ℤ grid.step)

-- the ray's nodes are nodes of the grid
pub record IsRay (grid : GridSize) (ray : Ray) : Type 0 where
  pub first : ray.i < nodes_of grid (first_axis ray.family)
  pub second : ray.j < nodes_of grid (second_axis ray.family)

-- the same as a test, and whether the ray has a point of that index besides
abbrev pub is_ray_on : GridSize → Ray → Bool
is_ray_on grid ray =
    nat_lt ray.i (nodes_of grid (first_axis ray.family)) && nat_lt ray.j (nodes_of grid (second_axis ray.family))

abbrev pub is_point_on : GridSize → Ray → ℕ → Bool
is_point_on grid ray l = is_ray_on grid ray && nat_lt l (points_of grid ray.family)

-- the coordinates of point l of the ray of the family through the nodes i and j
abbrev pub point_at : GridSize → Family → ℕ → ℕ → ℕ → List ℤ
point_at grid X i j l = place_at grid 0 l ∷ node_at grid 1 i ∷ node_at grid 2 j ∷ []
point_at grid Y i j l = node_at grid 0 i ∷ place_at grid 1 l ∷ node_at grid 2 j ∷ []
point_at grid Z i j l = node_at grid 0 i ∷ node_at grid 1 j ∷ place_at grid 2 l ∷ []

abbrev pub point_of : GridSize → Ray → ℕ → List ℤ
point_of grid ray l = point_at grid ray.family ray.i ray.j l
