use Rattle.width_bisect.specs.Halved.{last2, last4}
use Rattle.width_bisect.proofs.Halving.{last2_small, last4_small}
use Rattle.width_bisect.proofs.SmallHalves.{half_small}
use Rattle.width_bisect.proofs.stretch.Stretch.last_half.Goals as goal

pub invariant_of-result : goal.invariant_of-result
invariant_of-result c =
    half_small last2 last4 last2_small last4_small c.args.self.now c.last2.result c.last2-2.result c.last4.result
    c.last2.ensures c.last2-2.ensures c.last4.ensures
