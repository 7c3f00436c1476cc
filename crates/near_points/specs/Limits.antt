-- How large the numbers can be.
use Rattle.std.specs.Prelude.{ℕ, ◌*◌}
use Rattle.sweep_boxes.specs.Limits.{side_component_limit}
use Rattle.space.specs.Ranges.{vector_limit}

-- no component of a moment is greater, and no height: a height is a sum of three products of components
abbrev pub moment_limit : ℕ
moment_limit = 3 * (vector_limit * vector_limit)

-- nor what of a moment is along a side: a sum of three products of components, one of which is the difference of two products
abbrev pub tilt_limit : ℕ
tilt_limit = 3 * (side_component_limit * (2 * (vector_limit * vector_limit)))
