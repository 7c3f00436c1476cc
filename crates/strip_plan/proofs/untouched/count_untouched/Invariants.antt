use Rattle.std.proofs.Common.{◌-◌, ◌≤◌}
use Rattle.std.specs.List.{AllWithin}
use Rattle.strip_plan.specs.Untouched.{AppliesNone}
use Rattle.strip_plan.proofs.untouched.count_untouched.Given as goal

abbrev pub invariant-loop-at : goal.invariant-loop-at
invariant-loop-at l = record {
  after : l.from ≤ l.at;
  before : l.at ≤ l.to;
  alone : AllWithin (AppliesNone l.hulls l.family l.i) l.edits l.from l.at;
}

abbrev pub decreases-loop-at : goal.decreases-loop-at
decreases-loop-at l = l.to - l.at
