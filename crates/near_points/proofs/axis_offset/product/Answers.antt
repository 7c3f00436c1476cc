use Rattle.std.proofs.Common.{◌≤◌, ◌*◌, ℤ, FitsSigned, unsigned_abs, arith, subst, sym}
use mir.Syntax.{w64}
use Rattle.space.specs.Vectors.{at}
use Rattle.space.proofs.Naturals.{abs_mul}
use Rattle.space.specs.Ranges.{vector_limit}
use Rattle.near_points.proofs.Bits.{as_bits, times_fits, times_passed}
use Rattle.near_points.proofs.axis_offset.product.Goals as goal

pub overflow_mul-result : goal.overflow_mul-result
overflow_mul-result c =
    let x = at c.args.p.now c.args.i in let y = at c.args.a.now c.args.j in
    subst (FitsSigned w64) (sym (times_passed vector_limit vector_limit x y (omega arith) (omega arith) c.requires.p c.requires.a))
    (times_fits vector_limit vector_limit x y (omega arith) c.requires.p c.requires.a)

pub returns-clause-value : goal.returns-clause-value
returns-clause-value c =
    let x = at c.args.p.now c.args.i in let y = at c.args.a.now c.args.j in
    as_bits w64 _ _ (times_passed vector_limit vector_limit x y (omega arith) (omega arith) c.requires.p c.requires.a)
    (times_fits vector_limit vector_limit x y (omega arith) c.requires.p c.requires.a)

pub returns-clause-small : goal.returns-clause-small
returns-clause-small c =
    subst (λ (z : ℤ). unsigned_abs z ≤ vector_limit * vector_limit) (sym (returns-clause-value c))
    (abs_mul (at c.args.p.now c.args.i) (at c.args.a.now c.args.j) vector_limit vector_limit c.requires.p c.requires.a)
