use Rattle.std.proofs.Common.{◌≤◌, ◌-◌, length}
use Rattle.wanted_marks.proofs.peak.Peak.walk_up.Given as goal

abbrev pub invariant-loop-at : goal.invariant-loop-at
invariant-loop-at l = l.at ≤ length l.slabs

abbrev pub decreases-loop-at : goal.decreases-loop-at
decreases-loop-at l = length l.slabs - l.at
