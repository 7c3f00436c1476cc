use Rattle.std.proofs.Common.{◌≡◌, ◌+◌, ◌==◌, drop, not}
use Rattle.std.specs.List.{prefix_len}
use Rattle.edit_plan.specs.Words.{hash}
use Rattle.edit_plan.proofs.words.comment_start.Given as goal

abbrev pub invariant-loop-i : goal.invariant-loop-i
invariant-loop-i l = l.i + prefix_len (λ b. not (b == hash)) (drop l.i l.line) ≡ prefix_len (λ b. not (b == hash)) l.line
