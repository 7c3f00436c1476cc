use Rattle.std.proofs.Common.{◌≡◌, All, length, take}
use Rattle.edit_plan.specs.Edits.{AppliesBelow, lists_after}
use Rattle.job_run.specs.Left.{lists_with}
use Rattle.job_run.proofs.left.left_numbers.Given as goal

abbrev pub invariant-loop-version : goal.invariant-loop-version
invariant-loop-version l =
    (lists_with l.left.items l.dropped.items ≡ lists_after (take l.version l.plan.edits))
    × All (AppliesBelow (length l.plan.moves)) (take l.version l.plan.edits)
