use Rattle.std.proofs.Common.{rules}
use Rattle.std.proofs.lemmas.Nat.{or_lt}
use Rattle.dexel_rays.proofs.WordOnes.{no_bit_only, only_bit}
use Rattle.dexel_rays.proofs.word_sets.WordSets.sure_only.Goals as goal

pub returns-then-rapid : goal.returns-then-rapid
returns-then-rapid c =
    λ b lt. no_bit_only c.args.self.now.part c.args.self.now.fixture c.args.self.now.possible b c.args.rapid c.if-rapid.true

pub returns-else-rapid : goal.returns-else-rapid
returns-else-rapid c =
    λ b lt. only_bit c.args.self.now.part c.args.self.now.fixture c.args.self.now.possible b c.args.rapid
    (or_lt 64 c.args.self.now.part c.args.self.now.fixture (search rules) (search rules)) lt c.if-rapid.false
