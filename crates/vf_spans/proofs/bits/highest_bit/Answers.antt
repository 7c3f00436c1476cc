use Rattle.std.proofs.Common.{rules}
use Rattle.vf_spans.proofs.HighestBit.{has_bit-highest_set}
use Rattle.vf_spans.proofs.bits.highest_bit.Goals as goal

pub returns-clause-set : goal.returns-clause-set
returns-clause-set c = (has_bit-highest_set c.args.word c.requires (search rules)).0

pub returns-clause-highest : goal.returns-clause-highest
returns-clause-highest c = (has_bit-highest_set c.args.word c.requires (search rules)).1
