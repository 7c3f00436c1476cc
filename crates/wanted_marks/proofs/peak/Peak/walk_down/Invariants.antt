use Rattle.std.proofs.Common.{◌≤◌}
use Rattle.wanted_marks.proofs.peak.Peak.walk_down.Given as goal

abbrev pub invariant-loop-at : goal.invariant-loop-at
invariant-loop-at l = l.at ≤ l.high

abbrev pub decreases-loop-at : goal.decreases-loop-at
decreases-loop-at l = l.at
