-- Each of the eight counts is that of the points that meet its rule.
use Rattle.dexel_rays.proofs.Found.{word_found_is}
use Rattle.dexel_rays.proofs.word_sets.WordSets.counts_of.Goals as goal

pub returns : goal.returns
returns c =
    word_found_is 64 c.args.self.now c.args.sure c.args.possible c.args.rapid _ _ _ _ _ _ _ _
    c.ones_meet_minus.ensures c.ones_meet_minus-2.ensures c.ones_meet.ensures c.ones_meet-2.ensures c.ones_meet-3.ensures c.ones_meet-4.ensures
    c.rapid_ones.ensures c.rapid_ones-2.ensures
