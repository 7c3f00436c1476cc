-- The tests of a grid's numbers. Lengths are micrometres.
use Rattle.std.specs.Prelude.{◌≡◌, ℕ, ◌-◌, ◌*◌, ◌/◌, ◌%◌, ◌==◌, nat_le, ℤ, pos, neg_ℤ, ◌+ℤ◌, int_le, unsigned_abs}
use Rattle.std.specs.Prelude.{true, ◌&&◌, Bool, List, [], ◌∷◌, map, Result}
use Rattle.space.specs.Ranges.{IsBetween, metre}
use Rattle.space.specs.Vectors.{at}
use Rattle.ray_grid.specs.Grids.{GridSize}
use Rattle.ray_grid.specs.Ranges.{most_nodes, most_per_node}
use Rattle.setup_keys.specs.declared.fault.SetupFault.{SetupFault}
use Rattle.setup_keys.specs.declared.key.KeyName.TheVariants as keys
use Rattle.setup_file.specs.Reads.{is_between, only_if}

-- the three axes
abbrev pub axes : List ℕ
axes = 0 ∷ 1 ∷ 2 ∷ []

-- how many points a ray has for each node: the pitch by the step
abbrev pub points_a_node : ℤ → ℤ → ℕ
points_a_node pitch step = unsigned_abs pitch / unsigned_abs step

-- the step divides the pitch, into at most 1,000
abbrev pub divides_pitch : ℤ → ℤ → Bool
divides_pitch pitch step = unsigned_abs pitch % unsigned_abs step == 0 && nat_le (points_a_node pitch step) most_per_node

-- the last point of a ray along an axis that has `count` nodes: origin + (count * (pitch / step) - 1) * step
abbrev pub last_point : ℤ → ℤ → ℤ → ℤ → ℤ
last_point origin pitch step count = origin +ℤ pos ((unsigned_abs count * points_a_node pitch step - 1) * unsigned_abs step)

-- a number of nodes: from 1 to 400, and the last point is at most a metre from the origin of coordinates
abbrev pub is_count : ℤ → ℤ → ℤ → ℤ → Bool
is_count origin pitch step count =
    is_between (pos 1) (pos most_nodes) count && int_le (last_point origin pitch step count) (pos metre)

-- the number of nodes along an axis
abbrev pub count_along : List ℤ → ℤ → ℤ → List ℤ → ℕ → Result ℤ SetupFault
count_along origin pitch step counts axis =
    only_if (is_count (at origin axis) pitch step (at counts axis)) keys.GridCounts (at counts axis)

-- a grid of the numbers that are read, those of origin and counts along x, y and z
abbrev pub grid_from : List ℤ → ℤ → ℤ → List ℤ → GridSize
grid_from origin pitch step counts = record {
  origin = map (λ axis. at origin axis) axes;
  pitch = pitch;
  step = step;
  counts = map (λ axis. unsigned_abs (at counts axis)) axes;
}

-- each axis may have its number of nodes
pub record CountsFit (origin : List ℤ) (pitch step : ℤ) (counts : List ℤ) : Type 0 where
  pub x : is_count (at origin 0) pitch step (at counts 0) ≡ true
  pub y : is_count (at origin 1) pitch step (at counts 1) ≡ true
  pub z : is_count (at origin 2) pitch step (at counts 2) ≡ true

-- three coordinates
pub record AreCoordinates (origin : List ℤ) : Type 0 where
  pub x : IsBetween (neg_ℤ (pos metre)) (pos metre) (at origin 0)
  pub y : IsBetween (neg_ℤ (pos metre)) (pos metre) (at origin 1)
  pub z : IsBetween (neg_ℤ (pos metre)) (pos metre) (at origin 2)
