use Rattle.std.proofs.Common.{◌*◌, ◌<◌, ◌^◌, arith}
use mir.Syntax.{w128}
use mir.Val.{hbits}
use Rattle.bern_form.specs.Sizes.{axis_limit, length_limit}
use Rattle.space.proofs.Naturals.{abs_mul}
use Rattle.space.proofs.Reread.{product_fits, product_is, small_as}
use Rattle.cert_boxes.proofs.side.limit_times.Goals as goal

limits_fit : (length_limit * length_limit) * (18 * (axis_limit * axis_limit)) < 2 ^ hbits w128
limits_fit = omega arith

pub overflow_mul-result : goal.overflow_mul-result
overflow_mul-result c =
    product_fits w128 c.args.limit c.args.r (length_limit * length_limit) (18 * (axis_limit * axis_limit)) c.ranges.limit c.ranges.r c.requires.limit c.requires.r limits_fit

pub returns-clause-product : goal.returns-clause-product
returns-clause-product c =
    product_is w128 c.args.limit c.args.r (length_limit * length_limit) (18 * (axis_limit * axis_limit)) c.ranges.limit c.ranges.r c.requires.limit c.requires.r limits_fit

pub returns-clause-small : goal.returns-clause-small
returns-clause-small c =
    small_as _ _ (length_limit * length_limit * (18 * (axis_limit * axis_limit))) (returns-clause-product c)
    (abs_mul c.args.limit c.args.r (length_limit * length_limit) (18 * (axis_limit * axis_limit)) c.requires.limit c.requires.r)
