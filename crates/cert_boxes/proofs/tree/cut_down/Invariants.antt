use Rattle.cert_boxes.proofs.Hulls.{IsHull}
use Rattle.cert_boxes.proofs.tree.cut_down.Given as goal

abbrev pub invariant-loop-n : goal.invariant-loop-n
invariant-loop-n l = IsHull l.wanted l.n l.cell.a l.cell.b l.first l.end
