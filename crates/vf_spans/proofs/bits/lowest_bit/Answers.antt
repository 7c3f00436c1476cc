use Rattle.std.proofs.Common.{rules}
use Rattle.vf_spans.proofs.WordBits.{has_bit-lowest_set}
use Rattle.vf_spans.proofs.bits.lowest_bit.Goals as goal

pub returns-clause-set : goal.returns-clause-set
returns-clause-set c = (has_bit-lowest_set c.args.word c.requires (search rules)).1

pub returns-clause-lowest : goal.returns-clause-lowest
returns-clause-lowest c = (has_bit-lowest_set c.args.word c.requires (search rules)).2
