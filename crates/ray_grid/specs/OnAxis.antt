-- What lies within reach on one axis of a segment that is kept with its reach.
use Rattle.std.specs.Prelude.{ℕ, ℤ, Bool}
use Rattle.space.specs.Vectors.{at}
use Rattle.space.specs.Reach.{is_near}
use Rattle.ray_grid.specs.declared.near.Reach.{Reach}

-- the coordinate is within reach on the axis
abbrev pub is_near_on : Reach → ℕ → ℤ → Bool
is_near_on near axis x = is_near near.reach (at near.from axis) (at near.to axis) x
