-- The strips stay those of the plan while they are raised.
use Rattle.std.proofs.Common.{arith}
use Rattle.turn_core.proofs.Replaced.{plan_at, plan_set, raised_moved}
use Rattle.turn_tests.proofs.versions.states_at.Goals as goal

pub raise-requires-clause-plan : goal.raise-requires-clause-plan
raise-requires-clause-plan c =
    plan_at c.args.plan.now c.loop-k.strips c.loop-k.k c.index-strips-k.result c.loop-k.invariant
    (omega (arith, c.loop-k-test.true, c.loop-k.auto.strips))

pub loop-k-preserved : goal.loop-k-preserved
loop-k-preserved c =
    plan_set c.args.plan.now c.loop-k.strips c.loop-k.k c.index-strips-k.result c.raise.new.strip c.loop-k.invariant
    (omega (arith, c.loop-k-test.true, c.loop-k.auto.strips)) (raised_moved _ _ _ c.in_ok-raise.ensures.ok)
