use Rattle.width_bisect.specs.Halved.{first2, first4}
use Rattle.width_bisect.proofs.Halving.{first2_small, first4_small}
use Rattle.width_bisect.proofs.SmallHalves.{half_small}
use Rattle.width_bisect.proofs.stretch.Stretch.first_half.Goals as goal

pub invariant_of-result : goal.invariant_of-result
invariant_of-result c =
    half_small first2 first4 first2_small first4_small c.args.self.now c.first2.result c.first2-2.result c.first4.result
    c.first2.ensures c.first2-2.ensures c.first4.ensures
