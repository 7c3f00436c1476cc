use Rattle.std.proofs.Common.{◌≡◌, ◌*◌, ◌≤◌, ◌*ℤ◌, ℤ, FitsSigned, to_z, of_z, unsigned_abs, subst, sym}
use mir.Syntax.{w128}
use Rattle.space.proofs.Naturals.{abs_mul}
use Rattle.near_points.specs.Limits.{moment_limit}
use Rattle.near_points.proofs.Bits.{as_bits, wide_fits, wide_passed}
use Rattle.near_points.proofs.axis_offset.wide_product.Goals as goal

times : (c : goal.After-from-2) → to_z w128 (of_z w128 c.from.result) *ℤ to_z w128 (of_z w128 c.from-2.result) ≡ c.args.a *ℤ c.args.b
times c = wide_passed c.from.result c.from-2.result c.args.a c.args.b c.requires.a c.requires.b c.from.ensures c.from-2.ensures

pub overflow_mul-result : goal.overflow_mul-result
overflow_mul-result c = subst (FitsSigned w128) (sym (times c)) (wide_fits c.args.a c.args.b c.requires.a c.requires.b)

pub returns-clause-value : goal.returns-clause-value
returns-clause-value c = as_bits w128 _ (c.args.a *ℤ c.args.b) (times c) (wide_fits c.args.a c.args.b c.requires.a c.requires.b)

pub returns-clause-small : goal.returns-clause-small
returns-clause-small c =
    subst (λ (z : ℤ). unsigned_abs z ≤ moment_limit * moment_limit) (sym (returns-clause-value c))
    (abs_mul c.args.a c.args.b moment_limit moment_limit c.requires.a c.requires.b)
