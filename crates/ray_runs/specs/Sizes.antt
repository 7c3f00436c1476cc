-- How large the numbers of a guess and of moments can be.
use Rattle.std.specs.Prelude.{ℕ, ◌*◌}
use Rattle.space.specs.Ranges.{axis_unit, metre}

-- a component of the cross product of a way and twice an axis: two products
abbrev pub moment_limit : ℕ
moment_limit = 2 * ((2 * metre) * (2 * axis_unit))

-- a scalar product of two cross products, without its last 32 bits
abbrev pub short_limit : ℕ
short_limit = 500000000000000
