use Rattle.std.proofs.Common.{◌≤◌, ℤ, unsigned_abs, subst, sym}
use mir.Syntax.{w64}
use Rattle.space.proofs.Naturals.{abs_mul}
use Rattle.bern_form.specs.Sizes.{axis_limit, offset_limit}
use Rattle.space.proofs.Reread.{product_fits, product_is}
use Rattle.moment_forms.specs.Sizes.{part_limit}
use Rattle.moment_forms.proofs.Fits.{part_fits}
use Rattle.moment_forms.proofs.moments.part.Goals as goal

pub overflow_mul-result : goal.overflow_mul-result
overflow_mul-result c =
    product_fits w64 c.args.p c.args.a offset_limit axis_limit c.ranges.p c.ranges.a c.requires.p c.requires.a part_fits

pub returns-clause-value : goal.returns-clause-value
returns-clause-value c =
    product_is w64 c.args.p c.args.a offset_limit axis_limit c.ranges.p c.ranges.a c.requires.p c.requires.a part_fits

pub returns-clause-small : goal.returns-clause-small
returns-clause-small c =
    subst (λ (z : ℤ). unsigned_abs z ≤ part_limit) (sym (returns-clause-value c)) (abs_mul c.args.p c.args.a offset_limit axis_limit c.requires.p c.requires.a)
