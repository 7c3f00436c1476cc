use Rattle.std.proofs.Common.{◌∙◌}
use Rattle.dexel_rays.proofs.Found.{found_is}
use Rattle.dexel_rays.proofs.dexel.Dexel.counts_of.Goals as goal

pub returns : goal.returns
returns c =
    let i = c.self.inside in
    found_is record { stock = i.stock; part = i.part; fixture = i.fixture; sure = i.sure; possible = i.possible } c.args.self.now c.self.view_is
    c.args.sure.now c.args.possible.now c.args.rapid _ _ _ _ _ _ _ _ c.self.invariant
    (c.from.ensures ∙ c.count_meet_minus.ensures) (c.from-2.ensures ∙ c.count_meet_minus-2.ensures)
    (c.from-3.ensures ∙ c.count_meet.ensures) (c.from-4.ensures ∙ c.count_meet-2.ensures)
    (c.from-5.ensures ∙ c.count_meet-3.ensures) (c.from-6.ensures ∙ c.count_meet-4.ensures)
    c.rapid_count.ensures c.rapid_count-2.ensures
