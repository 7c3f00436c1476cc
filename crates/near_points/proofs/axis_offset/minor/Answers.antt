use Rattle.std.proofs.Common.{◌*◌, ◌≤◌, ◌-ℤ◌, ℤ, FitsSigned, unsigned_abs, arith, subst, sym, ap₂, ◌∙◌}
use mir.Syntax.{w64}
use Rattle.space.proofs.Naturals.{abs_sub}
use Rattle.space.specs.Ranges.{vector_limit}
use Rattle.near_points.proofs.Bits.{as_bits, minor_fits, minor_passed}
use Rattle.near_points.proofs.axis_offset.minor.Goals as goal

pub overflow_sub-result : goal.overflow_sub-result
overflow_sub-result c =
    let x = c.product in let y = c.product-2 in
    subst (FitsSigned w64) (sym (minor_passed x.result y.result x.ensures.small y.ensures.small)) (minor_fits x.result y.result x.ensures.small y.ensures.small)

pub returns-clause-value : goal.returns-clause-value
returns-clause-value c =
    let x = c.product in let y = c.product-2 in
    as_bits w64 _ (x.result -ℤ y.result) (minor_passed x.result y.result x.ensures.small y.ensures.small) (minor_fits x.result y.result x.ensures.small y.ensures.small)
    ∙ ap₂ (λ p q. p -ℤ q) x.ensures.value y.ensures.value

pub returns-clause-small : goal.returns-clause-small
returns-clause-small c =
    let x = c.product in let y = c.product-2 in let s = abs_sub x.result y.result in let h = x.ensures.small in let k = y.ensures.small in
    subst (λ (z : ℤ). unsigned_abs z ≤ 2 * (vector_limit * vector_limit))
    (sym (as_bits w64 _ (x.result -ℤ y.result) (minor_passed x.result y.result h k) (minor_fits x.result y.result h k)))
    (omega (arith, s, h, k))
