use Rattle.std.proofs.Common.{◌≤◌, ◌*◌, ℤ, pos, unsigned_abs, arith, subst, sym}
use Rattle.std.proofs.lemmas.Grind.{common_steps}
use Rattle.space.proofs.Naturals.{abs_mul}
use Rattle.sweep_boxes.specs.Limits.{place_limit}
use Rattle.sweep_boxes.proofs.weight.weighted.Goals as goal

pub returns-clause-value : goal.returns-clause-value
returns-clause-value c = grind (arith, common_steps)

pub returns-clause-small : goal.returns-clause-small
returns-clause-small c =
    subst (λ (z : ℤ). unsigned_abs z ≤ c.args.weight * place_limit) (sym (returns-clause-value c)) (abs_mul (pos c.args.weight) c.args.place c.args.weight place_limit (omega arith) c.requires.place)
