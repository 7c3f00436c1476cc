use Rattle.wanted_marks.proofs.BitLemmas.{without_less, without_one}
use Rattle.wanted_marks.proofs.word.without_bit.Goals as goal

pub returns-clause-bits : goal.returns-clause-bits
returns-clause-bits c = λ k below. without_one c.args.word c.args.b k c.requires below

pub returns-clause-less : goal.returns-clause-less
returns-clause-less c = λ is_set. without_less c.args.word c.args.b c.requires is_set
