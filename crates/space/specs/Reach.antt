-- What lies within reach of a segment: on each axis not more than the reach outside its two ends.
use Rattle.std.specs.Prelude.{ℤ, ◌+ℤ◌, ◌-ℤ◌, int_le, List, Bool, ◌&&◌, ◌||◌}
use Rattle.space.specs.Vectors.{at}

-- along one axis: at least the lesser end minus the reach, and at most the greater end plus the reach
abbrev pub is_near : ℤ → ℤ → ℤ → ℤ → Bool
is_near reach from to x = (int_le (from -ℤ reach) x || int_le (to -ℤ reach) x) && (int_le x (from +ℤ reach) || int_le x (to +ℤ reach))

-- along each axis
abbrev pub is_in_reach : ℤ → List ℤ → List ℤ → List ℤ → Bool
is_in_reach reach from to point =
    is_near reach (at from 0) (at to 0) (at point 0)
    && (is_near reach (at from 1) (at to 1) (at point 1) && is_near reach (at from 2) (at to 2) (at point 2))
