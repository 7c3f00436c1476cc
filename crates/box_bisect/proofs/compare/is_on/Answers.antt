use Rattle.std.proofs.Common.{◌*◌, ◌<◌, ◌^◌, ◌*ℤ◌, int_lt, arith, ap, ap₂, sym, ◌∙◌}
use Rattle.std.proofs.lemmas.Int.{to_z-of_z}
use mir.Syntax.{w128}
use mir.Val.{hbits}
use Rattle.bern_form.specs.Sizes.{axis_limit, length_limit}
use Rattle.box_bisect.specs.Sides.{is_on}
use Rattle.space.proofs.Reread.{product_fits, product_is}
use Rattle.box_bisect.proofs.compare.is_on.Goals as goal

limits_fit : (length_limit * length_limit) * (18 * (axis_limit * axis_limit)) < 2 ^ hbits w128
limits_fit = omega arith

pub overflow_mul-result : goal.overflow_mul-result
overflow_mul-result c =
    product_fits w128 c.args.limit c.args.r (length_limit * length_limit) (18 * (axis_limit * axis_limit)) c.ranges.limit c.ranges.r c.requires.limit c.requires.r limits_fit

pub overflow_mul-result-in-Above : goal.overflow_mul-result-in-Above
overflow_mul-result-in-Above c =
    product_fits w128 c.args.limit c.args.r (length_limit * length_limit) (18 * (axis_limit * axis_limit)) c.ranges.limit c.ranges.r c.requires.limit c.requires.r limits_fit

pub returns-in-Below : goal.returns-in-Below
returns-in-Below c =
    let a = c.args.a in let l = c.args.limit in let r = c.args.r in
    let product = product_is w128 l r (length_limit * length_limit) (18 * (axis_limit * axis_limit)) c.ranges.limit c.ranges.r c.requires.limit c.requires.r limits_fit in
    ap₂ (λ x y. int_lt x y) (to_z-of_z w128 a c.ranges.a) product ∙ ap (λ s. is_on s a (l *ℤ r)) (sym c.in-Below.is)

pub returns-in-Above : goal.returns-in-Above
returns-in-Above c =
    let a = c.args.a in let l = c.args.limit in let r = c.args.r in
    let product = product_is w128 l r (length_limit * length_limit) (18 * (axis_limit * axis_limit)) c.ranges.limit c.ranges.r c.requires.limit c.requires.r limits_fit in
    ap₂ (λ x y. int_lt x y) product (to_z-of_z w128 a c.ranges.a) ∙ ap (λ s. is_on s a (l *ℤ r)) (sym c.in-Above.is)
