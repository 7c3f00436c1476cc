-- The sets that are kept are those without the delta's indices, and so those from before it was added.
use Rattle.dexel_rays.specs.Sets.{Sets}
use Rattle.dexel_rays.proofs.Laws.{taken_back, without_inside}
use Rattle.dexel_rays.proofs.dexel.Dexel.take_back.Goals as goal

pub returns-clause-without : goal.returns-clause-without
returns-clause-without c =
    let i = c.self.inside in
    without_inside record { stock = i.stock; part = i.part; fixture = i.fixture; sure = i.sure; possible = i.possible } c.args.self.now c.self.view_is
    c.in_ok-sure.sure c.in_ok-possible.possible c.args.delta.now c.self.invariant
    c.in_ok-sure.ensures.bound c.in_ok-possible.ensures.bound c.in_ok-sure.ensures.minus c.in_ok-possible.ensures.minus

pub returns-clause-back : goal.returns-clause-back
returns-clause-back c =
    let i = c.self.inside in
    let after : Sets = record { stock = i.stock; part = i.part; fixture = i.fixture; sure = c.in_ok-sure.sure; possible = c.in_ok-possible.possible } in
    λ before sure possible rapid u d. taken_back before c.args.self.now after sure possible rapid c.args.delta.now (returns-clause-without c) u d
