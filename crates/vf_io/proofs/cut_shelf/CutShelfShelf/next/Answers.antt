use Rattle.vf_io.proofs.FindLemmas.{IfOk-longer}
use Rattle.vf_io.proofs.cut_shelf.CutShelfShelf.next.Goals as goal

pub returns-clause-bytes : goal.returns-clause-bytes
returns-clause-bytes c = λ opened. IfOk-longer _ _ _ _ _ c.next.ensures.bound (c.next.ensures.bytes opened)
