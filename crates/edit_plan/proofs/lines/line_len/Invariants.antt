use Rattle.std.proofs.Common.{◌≡◌, ◌+◌, ◌==◌, drop, not}
use Rattle.std.specs.List.{prefix_len}
use Rattle.vf_io.specs.Pieces.{line_feed}
use Rattle.edit_plan.proofs.lines.line_len.Given as goal

abbrev pub invariant-loop-i : goal.invariant-loop-i
invariant-loop-i l = l.i + prefix_len (λ b. not (b == line_feed)) (drop l.i l.text) ≡ prefix_len (λ b. not (b == line_feed)) l.text
