-- Which numbers make a grid. Lengths are micrometres.
use Rattle.std.specs.Prelude.{◌≡◌, ℕ, ◌-◌, ◌*◌, ◌/◌, ◌%◌, ◌≤◌, ℤ, pos, ◌+ℤ◌, ◌≤ℤ◌, unsigned_abs, slice_index}
use Rattle.space.specs.Vectors.{at}
use Rattle.space.specs.Ranges.{IsBetween, metre}
use Rattle.ray_grid.specs.Grids.{GridSize}

-- how many nodes an axis may have, and how many points a ray may have for each node
abbrev pub most_nodes : ℕ
most_nodes = 400

abbrev pub most_per_node : ℕ
most_per_node = 1000

-- an axis: from 1 to 400 nodes, and no point of a ray along it beyond 1,000 mm
pub record IsGridAxis (pitch step origin : ℤ) (nodes : ℕ) : Type 0 where
  pub origin_in : unsigned_abs origin ≤ metre
  pub some : 1 ≤ nodes
  pub most : nodes ≤ most_nodes
  pub last : (origin +ℤ pos ((nodes * (unsigned_abs pitch / unsigned_abs step) - 1) * unsigned_abs step)) ≤ℤ pos metre

-- the pitch is a whole number of steps, at most 1,000, and each axis is one
pub record IsGrid (grid : GridSize) : Type 0 where
  pub pitch_in : IsBetween (pos 1) (pos metre) grid.pitch
  pub step_in : IsBetween (pos 1) grid.pitch grid.step
  pub divides : unsigned_abs grid.pitch % unsigned_abs grid.step ≡ 0
  pub fine : unsigned_abs grid.pitch / unsigned_abs grid.step ≤ most_per_node
  pub x : IsGridAxis grid.pitch grid.step (at grid.origin 0) (slice_index grid.counts 0)
  pub y : IsGridAxis grid.pitch grid.step (at grid.origin 1) (slice_index grid.counts 1)
  pub z : IsGridAxis grid.pitch grid.step (at grid.origin 2) (slice_index grid.counts 2)
