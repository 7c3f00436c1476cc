use Rattle.std.proofs.Common.{◌≤◌, ◌*◌, ℤ, FitsSigned, unsigned_abs, arith, subst, sym, ◌∙◌}
use mir.Syntax.{w64}
use Rattle.bern_form.proofs.Sizes.{dot_small}
use Rattle.space.specs.Ranges.{vector_limit}
use Rattle.near_points.proofs.Bits.{as_bits, pair_sum, sum_fits, triple_fits, triple_sum}
use Rattle.near_points.proofs.Growing.{three_by}
use Rattle.near_points.proofs.axis_offset.dot.Goals as goal

pub overflow_add-result : goal.overflow_add-result
overflow_add-result c =
    let x = c.product in let y = c.product-2 in
    subst (FitsSigned w64) (sym (pair_sum (vector_limit * vector_limit) x.result y.result (omega arith) x.ensures.small y.ensures.small))
    (sum_fits (vector_limit * vector_limit) x.result y.result (omega arith) x.ensures.small y.ensures.small)

pub overflow_add-result-2 : goal.overflow_add-result-2
overflow_add-result-2 c =
    let x = c.product in let y = c.product-2 in let z = c.product-3 in
    subst (FitsSigned w64) (sym (triple_sum (vector_limit * vector_limit) x.result y.result z.result (omega arith) x.ensures.small y.ensures.small z.ensures.small))
    (triple_fits (vector_limit * vector_limit) x.result y.result z.result (omega arith) x.ensures.small y.ensures.small z.ensures.small)

pub returns-clause-value : goal.returns-clause-value
returns-clause-value c =
    let x = c.product in let y = c.product-2 in let z = c.product-3 in
    as_bits w64 _ _ (triple_sum (vector_limit * vector_limit) x.result y.result z.result (omega arith) x.ensures.small y.ensures.small z.ensures.small)
    (triple_fits (vector_limit * vector_limit) x.result y.result z.result (omega arith) x.ensures.small y.ensures.small z.ensures.small)
    ∙ three_by x.result y.result z.result _ _ _ x.ensures.value y.ensures.value z.ensures.value

pub returns-clause-small : goal.returns-clause-small
returns-clause-small c =
    subst (λ (z : ℤ). unsigned_abs z ≤ 3 * (vector_limit * vector_limit)) (sym (returns-clause-value c)) (dot_small c.args.p.now c.args.a.now vector_limit vector_limit c.requires.p c.requires.a)
