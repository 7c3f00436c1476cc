use Rattle.std.proofs.Common.{◌+ℤ◌, ◌*ℤ◌, pos}
use mir.Syntax.{w128}
use Rattle.near_points.specs.Lines.{slope_of}
use Rattle.near_points.proofs.Bits.{IsReckoned}
use Rattle.near_points.proofs.Pairs.{as_word, factors_passed, pair_reckoned, slope_limit, slope_reckoned}
use Rattle.near_points.proofs.ray_step.RayStep.slope.Goals as goal

pub wide_product-second-requires : goal.wide_product-second-requires
wide_product-second-requires c =
    let s = c.args.from.now in let t = c.args.self.now in factors_passed s.second t.second s.second_small t.second_small

pub wide_product-third-requires : goal.wide_product-third-requires
wide_product-third-requires c =
    let s = c.args.from.now in let t = c.args.self.now in factors_passed s.third t.third s.third_small t.third_small

pub overflow_add-result : goal.overflow_add-result
overflow_add-result c =
    let s = c.args.from.now in let t = c.args.self.now in let x = c.wide_product-second in let y = c.wide_product-third in
    (pair_reckoned x.result y.result s.second t.second s.third t.third s.second_small t.second_small s.third_small t.third_small
    x.ensures.value y.ensures.value).fits

twice : (c : goal.After-wide_product-third)
    → let x = c.wide_product-second.result in let y = c.wide_product-third.result in
    IsReckoned w128 slope_limit (pos 2 *ℤ as_word (as_word x +ℤ as_word y)) (slope_of c.args.from.now c.args.self.now)
twice c =
    let s = c.args.from.now in let t = c.args.self.now in let x = c.wide_product-second in let y = c.wide_product-third in
    slope_reckoned x.result y.result s.second t.second s.third t.third s.second_small t.second_small s.third_small t.third_small
    x.ensures.value y.ensures.value

pub overflow_mul-result : goal.overflow_mul-result
overflow_mul-result c = (twice c).fits

pub returns : goal.returns
returns c = record { value = (twice c).value; small = (twice c).small }
