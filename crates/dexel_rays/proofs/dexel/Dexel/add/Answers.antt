-- The sets that are kept are the united ones, and a settled point is in both sets before and after.
use Rattle.dexel_rays.specs.Sets.{Sets}
use Rattle.dexel_rays.proofs.Laws.{settled_stays, united_inside}
use Rattle.dexel_rays.proofs.dexel.Dexel.add.Goals as goal

pub returns-clause-united : goal.returns-clause-united
returns-clause-united c =
    let i = c.self.inside in
    united_inside record { stock = i.stock; part = i.part; fixture = i.fixture; sure = i.sure; possible = i.possible } c.args.self.now c.self.view_is
    c.in_ok-sure.sure c.in_ok-possible.possible c.args.sure.now c.args.possible.now c.self.invariant
    c.in_ok-sure.ensures.bound c.in_ok-possible.ensures.bound c.in_ok-sure.ensures.union c.in_ok-possible.ensures.union

pub returns-clause-settled : goal.returns-clause-settled
returns-clause-settled c =
    let i = c.self.inside in
    let after : Sets = record { stock = i.stock; part = i.part; fixture = i.fixture; sure = c.in_ok-sure.sure; possible = c.in_ok-possible.possible } in
    settled_stays c.args.self.now after c.args.sure.now c.args.possible.now c.args.rapid (returns-clause-united c)
