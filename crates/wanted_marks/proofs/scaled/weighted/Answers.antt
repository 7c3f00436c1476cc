use Rattle.std.proofs.Common.{◌≤◌, ◌*◌, ℤ, pos, unsigned_abs, arith, subst, sym}
use Rattle.space.proofs.Naturals.{abs_mul}
use Rattle.bern_form.specs.Sizes.{scale_limit}
use Rattle.space.proofs.Reread.{long_product_fits, long_product_is}
use Rattle.wanted_marks.proofs.scaled.weighted.Goals as goal

pub overflow_mul-result : goal.overflow_mul-result
overflow_mul-result c =
    let l = c.args.scale in let y = c.args.place in let r = c.requires in
    long_product_fits c.from.result c.from-2.result l y scale_limit 1000000 c.from.ensures c.from-2.ensures c.ranges.place r.scale r.place (omega arith) (omega arith)

pub returns-clause-value : goal.returns-clause-value
returns-clause-value c =
    let l = c.args.scale in let y = c.args.place in let r = c.requires in
    long_product_is c.from.result c.from-2.result l y scale_limit 1000000 c.from.ensures c.from-2.ensures c.ranges.place r.scale r.place (omega arith) (omega arith)

pub returns-clause-small : goal.returns-clause-small
returns-clause-small c =
    subst (λ (z : ℤ). unsigned_abs z ≤ c.args.scale * 1000000) (sym (returns-clause-value c)) (abs_mul (pos c.args.scale) c.args.place c.args.scale 1000000 (omega arith) c.requires.place)
