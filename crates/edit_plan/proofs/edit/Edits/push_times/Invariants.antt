use Rattle.std.proofs.Common.{◌≡◌, ◌++◌, replicate}
use Rattle.edit_plan.proofs.edit.Edits.push_times.Given as goal

abbrev pub invariant-loop-done : goal.invariant-loop-done
invariant-loop-done l = l.self ≡ l.fn.self ++ replicate l._done l.edit
