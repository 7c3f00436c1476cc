use Rattle.std.proofs.Common.{take}
use Rattle.cert_boxes.specs.Rows.{AreRows}
use Rattle.cert_boxes.proofs.row.rows_of.Given as goal

abbrev pub invariant-loop-cell : goal.invariant-loop-cell
invariant-loop-cell l = AreRows l.grid (take l.cell-index l.cells) l.rows.items
