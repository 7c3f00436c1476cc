use Rattle.strip_marks.specs.RowMarks.{AreUnasked}
use Rattle.strip_marks.proofs.asked.next_open.Given as goal

abbrev pub invariant-loop-n : goal.invariant-loop-n
invariant-loop-n l = AreUnasked l.near l.rays l.window l.from l.n
