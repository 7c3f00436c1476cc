use Rattle.turn_core.specs.World.{AreOfPlan}
use Rattle.turn_tests.proofs.versions.states_at.Given as goal

abbrev pub invariant-loop-k : goal.invariant-loop-k
invariant-loop-k l = AreOfPlan l.plan l.strips
