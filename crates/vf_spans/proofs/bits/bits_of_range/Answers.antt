use Rattle.vf_spans.proofs.WordBits.{has_bit-range}
use Rattle.vf_spans.proofs.bits.bits_of_range.Goals as goal

pub returns : goal.returns
returns c =
    λ k lt. has_bit-range c.args.lo c.args.hi c.args.n c.bits_from.result c.lowest_bits.result c.saturating_sub.result c.min.result k lt
    c.saturating_sub.ensures c.min.ensures (c.bits_from.ensures k lt) (c.lowest_bits.ensures k lt)
