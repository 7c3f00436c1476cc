use Rattle.vf_spans.proofs.WordBits.{has_bit-lowest}
use Rattle.vf_spans.proofs.bits.lowest_bits.Goals as goal

pub returns : goal.returns
returns c = λ k lt. has_bit-lowest c.args.n k c.requires.within
