use Rattle.vf_spans.proofs.WordBits.{has_bit-or}
use Rattle.wanted_marks.proofs.word.WordMarks.with_sure.Goals as goal

pub returns-clause-sure : goal.returns-clause-sure
returns-clause-sure c = λ k below. has_bit-or c.args.self.sure c.args.bits k

pub returns-clause-possible : goal.returns-clause-possible
returns-clause-possible c = λ k below. has_bit-or c.args.self.possible c.args.bits k
