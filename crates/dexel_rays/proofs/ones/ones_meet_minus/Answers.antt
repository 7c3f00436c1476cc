use Rattle.std.proofs.Common.{◌∙◌, ◌&&◌, ◌-◌, ◌^◌, not, rules}
use Rattle.std.specs.Prelude.{bit_and}
use Rattle.vf_spans.specs.Words.{has_bit}
use Rattle.dexel_rays.proofs.WordOnes.{below_same, meet_minus_bit}
use Rattle.dexel_rays.proofs.ones.ones_meet_minus.Goals as goal

pub returns : goal.returns
returns c =
    c.ones.ensures
    ∙ below_same 64 (has_bit (bit_and (bit_and c.args.a c.args.b) (2 ^ 64 - 1 - c.args.c)))
    (λ k. has_bit c.args.a k && (has_bit c.args.b k && not (has_bit c.args.c k))) (λ k lt. meet_minus_bit c.args.a c.args.b c.args.c k (search rules) lt)
