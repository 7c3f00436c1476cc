use Rattle.std.proofs.Common.{◌≡◌, length}
use Rattle.strip_plan.specs.Untouched.{AreGroups}
use Rattle.strip_plan.proofs.untouched.groups_of.Given as goal

abbrev pub invariant-loop-number : goal.invariant-loop-number
invariant-loop-number l = record {
  many : length l.groups.items ≡ l.number;
  groups : AreGroups l.hulls l.edits l.groups.items;
}
