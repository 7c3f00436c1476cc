-- How large the numbers of a box can be.
use Rattle.std.specs.Prelude.{ℕ, ◌*◌}
use Rattle.bern_form.specs.Sizes.{axis_limit, offset_limit}

-- a coefficient of a column of degree 4: 8 (d n - u^2)
abbrev pub column_limit : ℕ
column_limit = 864 * (offset_limit * axis_limit) * (offset_limit * axis_limit)
