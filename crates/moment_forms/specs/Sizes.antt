-- How large the numbers of moments can be.
use Rattle.std.specs.Prelude.{ℕ, ◌*◌}
use Rattle.bern_form.specs.Sizes.{axis_limit, offset_limit}

-- a product of a component of a scaled offset and one of a scaled axis
abbrev pub part_limit : ℕ
part_limit = offset_limit * axis_limit

-- a component of a coefficient of a moment: four of them
abbrev pub moments_limit : ℕ
moments_limit = 4 * part_limit
