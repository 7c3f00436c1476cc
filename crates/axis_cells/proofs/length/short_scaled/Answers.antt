use Rattle.std.proofs.Common.{pos, ◌*ℤ◌, arith}
use Rattle.space.proofs.Naturals.{abs_mul}
use Rattle.bern_form.specs.Sizes.{length_limit, scale_limit}
use Rattle.space.proofs.Reread.{long_product_fits, long_product_is, small_as}
use Rattle.axis_cells.proofs.length.short_scaled.Goals as goal

pub overflow_mul-result : goal.overflow_mul-result
overflow_mul-result c =
    let l = c.args.scale in let y = c.args.length in let r = c.requires in
    long_product_fits c.from.result c.from-2.result l y scale_limit 300000 c.from.ensures c.from-2.ensures c.ranges.length r.scale r.length (omega arith) (omega arith)

pub returns-clause-value : goal.returns-clause-value
returns-clause-value c =
    let l = c.args.scale in let y = c.args.length in let r = c.requires in
    long_product_is c.from.result c.from-2.result l y scale_limit 300000 c.from.ensures c.from-2.ensures c.ranges.length r.scale r.length (omega arith) (omega arith)

pub returns-clause-small : goal.returns-clause-small
returns-clause-small c =
    let l = c.args.scale in let y = c.args.length in let r = c.requires in
    small_as _ (pos l *ℤ y) length_limit (returns-clause-value c) (abs_mul (pos l) y scale_limit 300000 r.scale r.length)
