use Rattle.std.proofs.Common.{◌∙◌, ◌&&◌}
use Rattle.std.specs.Prelude.{bit_and}
use Rattle.vf_spans.specs.Words.{has_bit}
use Rattle.vf_spans.proofs.WordBits.{has_bit-and}
use Rattle.dexel_rays.proofs.WordOnes.{below_same}
use Rattle.dexel_rays.proofs.ones.ones_meet.Goals as goal

pub returns : goal.returns
returns c =
    c.ones.ensures
    ∙ below_same 64 (has_bit (bit_and c.args.a c.args.b)) (λ k. has_bit c.args.a k && has_bit c.args.b k) (λ k lt. has_bit-and c.args.a c.args.b k)
