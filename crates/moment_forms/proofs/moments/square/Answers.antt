use Rattle.std.proofs.Common.{◌*◌, ◌*ℤ◌, arith}
use Rattle.space.proofs.Naturals.{abs_mul}
use Rattle.space.proofs.Reread.{small_as}
use Rattle.moment_forms.specs.Sizes.{moments_limit}
use Rattle.moment_forms.proofs.Fits.{wide_product_fits, wide_product_is}
use Rattle.moment_forms.proofs.moments.square.Goals as goal

pub overflow_mul-result : goal.overflow_mul-result
overflow_mul-result c =
    let x = c.args.x in let y = c.args.y in let r = c.requires in
    wide_product_fits c.from.result c.from-2.result x y moments_limit moments_limit c.from.ensures c.from-2.ensures c.ranges.x c.ranges.y r.x r.y (omega arith)

pub returns-clause-value : goal.returns-clause-value
returns-clause-value c =
    let x = c.args.x in let y = c.args.y in let r = c.requires in
    wide_product_is c.from.result c.from-2.result x y moments_limit moments_limit c.from.ensures c.from-2.ensures c.ranges.x c.ranges.y r.x r.y (omega arith)

pub returns-clause-small : goal.returns-clause-small
returns-clause-small c =
    let x = c.args.x in let y = c.args.y in let r = c.requires in
    small_as _ (x *ℤ y) (moments_limit * moments_limit) (returns-clause-value c) (abs_mul x y moments_limit moments_limit r.x r.y)
