use Rattle.std.proofs.Common.{◌+ℤ◌}
use mir.Syntax.{w128}
use Rattle.near_points.specs.Lines.{width_of}
use Rattle.near_points.proofs.Bits.{IsReckoned}
use Rattle.near_points.proofs.Pairs.{as_word, factors_passed, pair_reckoned, width_limit, width_reckoned}
use Rattle.near_points.proofs.axis_offset.AxisOffset.width.Goals as goal

pub wide_product-along-requires : goal.wide_product-along-requires
wide_product-along-requires c = let s = c.args.self.now in factors_passed s.along s.along s.along_small s.along_small

pub wide_product-second-requires : goal.wide_product-second-requires
wide_product-second-requires c = let s = c.args.self.now in factors_passed s.second s.second s.second_small s.second_small

pub wide_product-third-requires : goal.wide_product-third-requires
wide_product-third-requires c = let s = c.args.self.now in factors_passed s.third s.third s.third_small s.third_small

pub overflow_add-result : goal.overflow_add-result
overflow_add-result c =
    let s = c.args.self.now in let x = c.wide_product-along in let y = c.wide_product-second in
    (pair_reckoned x.result y.result s.along s.along s.second s.second s.along_small s.along_small s.second_small s.second_small
    x.ensures.value y.ensures.value).fits

whole : (c : goal.After-wide_product-third)
    → let x = c.wide_product-along.result in let y = c.wide_product-second.result in let z = c.wide_product-third.result in
    IsReckoned w128 width_limit (as_word (as_word x +ℤ as_word y) +ℤ as_word z) (width_of c.args.self.now)
whole c =
    let s = c.args.self.now in let x = c.wide_product-along in let y = c.wide_product-second in let z = c.wide_product-third in
    width_reckoned x.result y.result z.result s.along s.second s.third s.along_small s.second_small s.third_small
    x.ensures.value y.ensures.value z.ensures.value

pub overflow_add-result-2 : goal.overflow_add-result-2
overflow_add-result-2 c = (whole c).fits

pub returns : goal.returns
returns c = record { value = (whole c).value; small = (whole c).small }
