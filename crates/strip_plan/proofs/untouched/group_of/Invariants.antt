use Rattle.std.specs.List.{AllWithin}
use Rattle.strip_plan.specs.Untouched.{IsAppliedIn}
use Rattle.strip_plan.proofs.untouched.group_of.Given as goal

abbrev pub invariant-loop-edit : goal.invariant-loop-edit
invariant-loop-edit l = AllWithin (IsAppliedIn l.hulls l.group) l.edits 0 l.edit-index
