use Rattle.std.proofs.Common.{◌+◌, ◌-◌, length}
use Rattle.cert_boxes.proofs.row.count_one.Given as goal

abbrev pub decreases-loop-counts : goal.decreases-loop-counts
decreases-loop-counts l = (l.at + 1) - length l.counts.items
