use Rattle.std.proofs.Common.{refl}
use Rattle.vf_spans.proofs.WordBits.{has_bit-or}
use Rattle.dexel_rays.proofs.word_sets.WordSets.with.Goals as goal

pub returns : goal.returns
returns c =
    record {
      stock = refl;
      part = refl;
      fixture = refl;
      all_sure = λ b lt. has_bit-or c.args.self.now.sure c.args.delta.now.sure b;
      all_possible = λ b lt. has_bit-or c.args.self.now.possible c.args.delta.now.possible b;
    }
