use Rattle.std.proofs.Common.{◌≡◌, ◌++◌, ◌-◌}
use Rattle.edit_plan.specs.Edits.{applied_moves}
use Rattle.edit_plan.proofs.edit.Edits.push_moves.Given as goal

abbrev pub invariant-loop-number : goal.invariant-loop-number
invariant-loop-number l = l.self ≡ l.fn.self ++ applied_moves l.first (l.number - l.first)
