use Rattle.std.proofs.Common.{ℤ, ◌*◌, ◌≤◌, unsigned_abs, arith, ◌∙◌}
use Rattle.space.specs.Ranges.{vector_limit}
use Rattle.near_points.specs.Limits.{moment_limit, tilt_limit}
use Rattle.near_points.proofs.Bits.{moment_bits, moment_passed, small_passed, tilt_bits, tilt_fits}
use Rattle.near_points.proofs.axis_offset.AxisOffset.of_offset.Goals as goal

-- the difference of two products of components is a number of a moment
of_minor : (x : ℤ) → unsigned_abs x ≤ 2 * (vector_limit * vector_limit) → unsigned_abs x ≤ moment_limit
of_minor x h = omega (arith, h)

pub invariant_of-result : goal.invariant_of-result
invariant_of-result c = record {
  along_small = moment_passed c.minor.result (of_minor c.minor.result c.minor.ensures.small);
  second_small = moment_passed c.minor-2.result (of_minor c.minor-2.result c.minor-2.ensures.small);
  third_small = moment_passed c.minor-3.result (of_minor c.minor-3.result c.minor-3.ensures.small);
  side_small = small_passed tilt_limit c.tilt.result tilt_fits c.tilt.ensures.small;
  height_small = moment_passed c.dot.result c.dot.ensures.small;
}

pub returns : goal.returns
returns c = record {
  along = moment_bits c.minor.result (of_minor c.minor.result c.minor.ensures.small) ∙ c.minor.ensures.value;
  second = moment_bits c.minor-2.result (of_minor c.minor-2.result c.minor-2.ensures.small) ∙ c.minor-2.ensures.value;
  third = moment_bits c.minor-3.result (of_minor c.minor-3.result c.minor-3.ensures.small) ∙ c.minor-3.ensures.value;
  side = tilt_bits c.tilt.result c.tilt.ensures.small ∙ c.tilt.ensures.value;
  height = moment_bits c.dot.result c.dot.ensures.small ∙ c.dot.ensures.value;
}
