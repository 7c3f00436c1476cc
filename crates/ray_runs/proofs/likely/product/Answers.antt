use Rattle.std.proofs.Common.{◌*◌, ◌*ℤ◌, arith}
use mir.Syntax.{w64}
use Rattle.space.specs.Ranges.{axis_unit, metre}
use Rattle.space.proofs.Naturals.{abs_mul}
use Rattle.space.proofs.Reread.{small_as, product_fits, product_is}
use Rattle.ray_runs.proofs.likely.product.Goals as goal

pub overflow_mul-result : goal.overflow_mul-result
overflow_mul-result c =
    let x = c.args.length in let y = c.args.part in let r = c.requires in
    product_fits w64 x y (2 * metre) (2 * axis_unit) c.ranges.length c.ranges.part r.length r.part (omega arith)

pub returns : goal.returns
returns c =
    let x = c.args.length in let y = c.args.part in let m = 2 * metre in let n = 2 * axis_unit in let r = c.requires in
    small_as _ (x *ℤ y) (m * n) (product_is w64 x y m n c.ranges.length c.ranges.part r.length r.part (omega arith)) (abs_mul x y m n r.length r.part)
