-- The square is too large, and what it grows by isn't negative.
use Rattle.std.proofs.Common.{FitsSigned, int_le, int_lt, pos, rules, ap, ap₂, sym, ◌∙◌}
use Rattle.std.proofs.lemmas.Bool.{true≢false}
use Rattle.std.proofs.lemmas.Int.{to_z-of_z}
use mir.Syntax.{w128}
use Rattle.space.proofs.Tests.{decides_le, decides_lt}
use Rattle.near_points.proofs.walk.is_leaving.Goals as goal

pub returns-then-test-width-clause-far : goal.returns-then-test-width-clause-far
returns-then-test-width-clause-far c = λ yes.
    let square = c.args.test.now.square in let fits : FitsSigned w128 square = search rules in
    let told = ap₂ int_lt (to_z-of_z w128 square fits) (to_z-of_z w128 c.args.width c.ranges.width) in
    (decides_lt square c.args.width).0 (sym told ∙ c.if-test-width.true)

pub returns-then-test-width-clause-growing : goal.returns-then-test-width-clause-growing
returns-then-test-width-clause-growing c = λ yes.
    (decides_le (pos 0) c.args.growth).0 (sym (ap (int_le (pos 0)) (to_z-of_z w128 c.args.growth c.ranges.growth)) ∙ yes)

pub returns-else-test-width-clause-far : goal.returns-else-test-width-clause-far
returns-else-test-width-clause-far c = λ yes. absurd (true≢false (sym yes ∙ c.if-test-width.false))

pub returns-else-test-width-clause-growing : goal.returns-else-test-width-clause-growing
returns-else-test-width-clause-growing c = λ yes. absurd (true≢false (sym yes ∙ c.if-test-width.false))
