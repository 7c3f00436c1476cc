use Rattle.std.proofs.Common.{◌-◌, ◌^◌, refl, rules}
use Rattle.std.specs.Prelude.{bit_and}
use Rattle.dexel_rays.specs.declared.word_sets.WordSets.{WordSets}
use Rattle.dexel_rays.proofs.WordLaws.{word_taken_back}
use Rattle.dexel_rays.proofs.WordOnes.{minus_bit}
use Rattle.dexel_rays.proofs.word_sets.WordSets.without.Goals as goal

pub returns-clause-without : goal.returns-clause-without
returns-clause-without c =
    record {
      stock = refl;
      part = refl;
      fixture = refl;
      left_sure = λ b lt. minus_bit c.args.self.now.sure c.args.delta.now.sure b (search rules) lt;
      left_possible = λ b lt. minus_bit c.args.self.now.possible c.args.delta.now.possible b (search rules) lt;
    }

pub returns-clause-back : goal.returns-clause-back
returns-clause-back c =
    let w = c.args.self.now in
    let d = c.args.delta.now in
    let after : WordSets = record { stock = w.stock; part = w.part; fixture = w.fixture; sure = bit_and w.sure (2 ^ 64 - 1 - d.sure); possible = bit_and w.possible (2 ^ 64 - 1 - d.possible) } in
    λ before sure possible fs fp e u.
    word_taken_back before w after sure possible d fs fp (search rules) (search rules) (returns-clause-without c) e u
