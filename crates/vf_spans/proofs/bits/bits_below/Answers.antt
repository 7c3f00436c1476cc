use Rattle.std.proofs.Common.{◌∙◌, ◌&&◌, ap}
use Rattle.vf_spans.specs.Words.{has_bit}
use Rattle.vf_spans.proofs.WordBits.{has_bit-and, below_min}
use Rattle.vf_spans.proofs.bits.bits_below.Goals as goal

pub returns : goal.returns
returns c =
    λ k lt. has_bit-and c.args.bits c.lowest_bits.result k
    ∙ ap (λ p. has_bit c.args.bits k && p) (c.lowest_bits.ensures k lt ∙ below_min c.args.n k c.min.result lt c.min.ensures)
