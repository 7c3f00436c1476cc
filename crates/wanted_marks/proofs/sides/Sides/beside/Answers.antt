use Rattle.wanted_marks.proofs.BitLemmas.{set_in_both}
use Rattle.wanted_marks.proofs.sides.Sides.beside.Goals as goal

pub returns-clause-above : goal.returns-clause-above
returns-clause-above c = λ k lt set. set_in_both c.args.left c.bits_from.result k set
