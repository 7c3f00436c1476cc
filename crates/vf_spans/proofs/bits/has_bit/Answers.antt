use Rattle.vf_spans.proofs.WordBits.{has_bit-tested}
use Rattle.vf_spans.proofs.bits.has_bit.Goals as goal

pub returns : goal.returns
returns c = has_bit-tested c.args.word c.args.b
