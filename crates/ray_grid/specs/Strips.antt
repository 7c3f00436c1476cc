-- The strips: the rays of the grid in order, a row of rays in each.
use Rattle.std.specs.Prelude.{ℕ, ◌+◌, ◌*◌, List, [], ◌++◌, map, slice_index_or}
use Rattle.std.specs.List.{range_with_len}
use Rattle.ray_grid.specs.Grids.{GridSize}
use Rattle.ray_grid.specs.declared.ray.Ray.{Ray}
use Rattle.ray_grid.specs.declared.ray.Family.{Family}
use Rattle.ray_grid.specs.declared.ray.Family.TheVariants.{X, Y, Z}
use Rattle.ray_grid.specs.Families.{first_axis, second_axis}
use Rattle.ray_grid.specs.Lattice.{nodes_of}

-- the rays of a family with the node i, in order of j
abbrev pub strip_of : GridSize → Family → ℕ → List Ray
strip_of grid family i = map (λ j. record { family = family; i = i; j = j }) (range_with_len 0 (nodes_of grid (second_axis family)))

-- the strips of a family, in order of i
abbrev pub strips_along : GridSize → Family → List (List Ray)
strips_along grid family = map (strip_of grid family) (range_with_len 0 (nodes_of grid (first_axis family)))

-- the strips: the z rays of each x node in order, then the x rays of each y node, then the y rays of each x node
abbrev pub strips_of : GridSize → List (List Ray)
strips_of grid = strips_along grid Z ++ strips_along grid X ++ strips_along grid Y

-- the strip of that number
abbrev pub strip_at : GridSize → ℕ → List Ray
strip_at grid strip = slice_index_or (strips_of grid) strip []

-- the number of the strip of a family's rays with the node i
abbrev pub strip_number : GridSize → Family → ℕ → ℕ
strip_number grid Z i = i
strip_number grid X i = nodes_of grid 0 + i
strip_number grid Y i = nodes_of grid 0 + nodes_of grid 1 + i

-- how many rays a family has, and the number of its first ray among all rays in order
abbrev pub family_rays : GridSize → Family → ℕ
family_rays grid family = nodes_of grid (first_axis family) * nodes_of grid (second_axis family)

abbrev pub first_number : GridSize → Family → ℕ
first_number grid Z = 0
first_number grid X = family_rays grid Z
first_number grid Y = family_rays grid Z + family_rays grid X

-- the number of a ray among all rays of the grid in their order, from 0
abbrev pub ray_number : GridSize → Ray → ℕ
ray_number grid ray = first_number grid ray.family + (ray.i * nodes_of grid (second_axis ray.family) + ray.j)
