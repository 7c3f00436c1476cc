use Rattle.std.proofs.Common.{◌-◌, ◌≤◌}
use Rattle.ray_runs.proofs.run.last_held.Given as goal

abbrev pub invariant-loop-gap : goal.invariant-loop-gap
invariant-loop-gap l = l.gap ≤ l.to - l.middle

abbrev pub decreases-loop-gap : goal.decreases-loop-gap
decreases-loop-gap l = l.gap
