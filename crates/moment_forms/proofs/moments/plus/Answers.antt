use Rattle.std.proofs.Common.{◌≤◌, ◌*◌, ℤ, unsigned_abs, arith, subst, sym}
use Rattle.std.proofs.lemmas.Int.{ints}
use borrow.Author.Differences.{abs_is}
use Rattle.moment_forms.specs.Sizes.{moments_limit, part_limit}
use Rattle.moment_forms.proofs.Fits.{two_small}
use Rattle.moment_forms.proofs.moments.plus.Goals as goal

pub returns-clause-value : goal.returns-clause-value
returns-clause-value c = omega (arith, ints, abs_is c.args.x, abs_is c.args.y, c.requires.x, c.requires.y)

pub returns-clause-small : goal.returns-clause-small
returns-clause-small c =
    subst (λ (z : ℤ). unsigned_abs z ≤ moments_limit) (sym (returns-clause-value c)) (two_small c.args.x c.args.y (2 * part_limit) c.requires.x c.requires.y)
