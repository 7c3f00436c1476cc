-- Where the points that are searched lie at a sample of the move.
use Rattle.std.specs.Prelude.{ℕ, IsTrue}
use Rattle.ray_grid.specs.Lattice.{point_of}
use Rattle.ray_runs.specs.Missed.{AreBesideAt, IsPairAt}
use Rattle.ray_runs.specs.declared.pair.Pair.{Pair}
use Rattle.ray_runs.specs.declared.searched.Searched.{Searched}

-- the pair is that of the first one and the last one at the sample k
pub record IsPairOf (x : Searched) (k : ℕ) (pair : Pair) : Type 0 where
  pub stands : IsPairAt x.sweep.now (point_of x.grid.now x.ray.now) x.from x.to k x.scale pair.first.offset pair.last.offset pair.first.axis
  pub beside : IsTrue pair.is_beside → AreBesideAt x.square pair.first_moment pair.last_moment pair.first.axis
