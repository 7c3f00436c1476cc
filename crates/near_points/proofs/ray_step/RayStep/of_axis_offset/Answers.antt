use Rattle.std.proofs.Common.{◌+ℤ◌, ◌*ℤ◌, sym, ap₂, ◌∙◌}
use mir.Syntax.{w128}
use Rattle.near_points.specs.Limits.{tilt_limit}
use Rattle.near_points.proofs.Bits.{IsReckoned, moment_bits, moment_passed, small_passed, tilt_bits, tilt_fits}
use Rattle.near_points.proofs.Pairs.{as_word, factors_passed, pair_limit, pair_reckoned}
use Rattle.near_points.proofs.ray_step.RayStep.of_axis_offset.Goals as goal

curve : (c : goal.After-result-4-1)
    → let s = c.args.way.now in let x = c.wide_product-second.result in let y = c.wide_product-third.result in
    IsReckoned w128 pair_limit (as_word x +ℤ as_word y) (s.second *ℤ s.second +ℤ s.third *ℤ s.third)
curve c =
    let s = c.args.way.now in let x = c.wide_product-second in let y = c.wide_product-third in
    pair_reckoned x.result y.result s.second s.second s.third s.third s.second_small s.second_small s.third_small s.third_small
    x.ensures.value y.ensures.value

pub wide_product-second-requires : goal.wide_product-second-requires
wide_product-second-requires c = let s = c.args.way.now in factors_passed s.second s.second s.second_small s.second_small

pub wide_product-third-requires : goal.wide_product-third-requires
wide_product-third-requires c = let s = c.args.way.now in factors_passed s.third s.third s.third_small s.third_small

pub overflow_add-result : goal.overflow_add-result
overflow_add-result c = (curve c).fits

pub invariant_of-result : goal.invariant_of-result
invariant_of-result c =
    let s = c.args.way.now in record {
      second_small = moment_passed s.second s.second_small;
      third_small = moment_passed s.third s.third_small;
      side_small = small_passed tilt_limit s.side tilt_fits s.side_small;
      height_small = moment_passed s.height s.height_small;
      curve_small = (curve c).small;
      curve_is = (curve c).value
          ∙ sym (ap₂ (λ x y. x *ℤ x +ℤ y *ℤ y) (moment_bits s.second s.second_small) (moment_bits s.third s.third_small));
    }

pub returns : goal.returns
returns c =
    let s = c.args.way.now in record {
      second = moment_bits s.second s.second_small;
      third = moment_bits s.third s.third_small;
      side = tilt_bits s.side s.side_small;
      height = moment_bits s.height s.height_small;
    }
