use Rattle.std.proofs.Common.{arith, length}
use Rattle.vf_text.proofs.PowerLemmas.{ten_monotone}
use Rattle.vf_text.proofs.digits.read_count.Goals as goal

pub returns-clause-bound : goal.returns-clause-bound
returns-clause-bound c = omega (arith, c.spell.ensures.bound, ten_monotone (length c.args.digits.now) c.args.most (omega arith))
