use Rattle.dexel_rays.specs.Sets.{HaveBound}
use Rattle.base_tests.proofs.dexels.first_other.Given as goal

abbrev pub invariant-loop-row : goal.invariant-loop-row
invariant-loop-row l = HaveBound 8 l.ray
