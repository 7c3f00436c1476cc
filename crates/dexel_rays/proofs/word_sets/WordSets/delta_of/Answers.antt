use Rattle.std.proofs.Common.{rules}
use Rattle.dexel_rays.proofs.WordOnes.{meet_minus_bit}
use Rattle.dexel_rays.proofs.word_sets.WordSets.delta_of.Goals as goal

pub returns : goal.returns
returns c =
    record {
      new_sure = λ b lt. meet_minus_bit c.args.self.now.stock c.args.sure c.args.self.now.sure b (search rules) lt;
      new_possible = λ b lt. meet_minus_bit c.args.self.now.stock c.args.possible c.args.self.now.possible b (search rules) lt;
    }
