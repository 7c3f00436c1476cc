use Rattle.std.proofs.Common.{rules}
use Rattle.dexel_rays.proofs.WordOnes.{wanted_bit}
use Rattle.dexel_rays.proofs.word_sets.WordSets.wanted.Goals as goal

pub returns : goal.returns
returns c = λ b lt. wanted_bit c.args.self.now.stock c.args.self.now.part c.args.self.now.fixture c.args.self.now.sure b (search rules) lt
