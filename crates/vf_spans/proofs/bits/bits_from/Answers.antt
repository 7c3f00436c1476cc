use Rattle.vf_spans.proofs.WordBits.{has_bit-from}
use Rattle.vf_spans.proofs.bits.bits_from.Goals as goal

pub returns : goal.returns
returns c = λ k lt. has_bit-from c.args.b k c.requires lt
