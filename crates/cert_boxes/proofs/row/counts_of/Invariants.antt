use Rattle.std.proofs.Common.{◌≤◌, length}
use Rattle.cert_boxes.proofs.row.counts_of.Given as goal

-- nothing is claimed of the counts
abbrev pub invariant-loop-cell : goal.invariant-loop-cell
invariant-loop-cell l = l.cell-index ≤ length l.cells
