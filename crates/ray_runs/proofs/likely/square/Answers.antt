use Rattle.std.proofs.Common.{◌*◌, ◌*ℤ◌, arith}
use Rattle.space.proofs.Naturals.{abs_mul}
use Rattle.space.proofs.Reread.{small_as}
use Rattle.ray_runs.specs.Sizes.{moment_limit}
use Rattle.moment_forms.proofs.Fits.{wide_product_fits, wide_product_is}
use Rattle.ray_runs.proofs.likely.square.Goals as goal

pub overflow_mul-result : goal.overflow_mul-result
overflow_mul-result c =
    let n = moment_limit in let r = c.requires in
    wide_product_fits c.from.result c.from-2.result c.args.a c.args.b n n c.from.ensures c.from-2.ensures c.ranges.a c.ranges.b r.a r.b (omega arith)

pub returns : goal.returns
returns c =
    let x = c.args.a in let y = c.args.b in let n = moment_limit in let r = c.requires in
    small_as _ (x *ℤ y) (n * n)
    (wide_product_is c.from.result c.from-2.result x y n n c.from.ensures c.from-2.ensures c.ranges.a c.ranges.b r.a r.b (omega arith)) (abs_mul x y n n r.a r.b)
