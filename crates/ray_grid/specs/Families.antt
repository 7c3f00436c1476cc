-- The families of rays, by the axis along which they run and the axes of a ray's two nodes.
use Rattle.std.specs.Prelude.{ℕ}
use Rattle.ray_grid.specs.declared.ray.Family.{Family}
use Rattle.ray_grid.specs.declared.ray.Family.TheVariants.{X, Y, Z}

-- the axis along which the rays of a family run: 0, 1 and 2 for x, y and z
abbrev pub ray_axis : Family → ℕ
ray_axis X = 0
ray_axis Y = 1
ray_axis Z = 2

-- the axis of a ray's node i, and of its node j
abbrev pub first_axis : Family → ℕ
first_axis X = 1
first_axis Y = 0
first_axis Z = 0

abbrev pub second_axis : Family → ℕ
second_axis X = 2
second_axis Y = 2
second_axis Z = 1
