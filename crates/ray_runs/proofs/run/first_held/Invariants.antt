use Rattle.std.proofs.Common.{◌-◌, ◌≤◌}
use Rattle.ray_runs.proofs.run.first_held.Given as goal

abbrev pub invariant-loop-gap : goal.invariant-loop-gap
invariant-loop-gap l = l.gap ≤ l.middle - l.from

abbrev pub decreases-loop-gap : goal.decreases-loop-gap
decreases-loop-gap l = l.gap
