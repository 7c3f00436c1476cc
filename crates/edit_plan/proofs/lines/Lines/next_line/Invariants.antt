use Rattle.std.proofs.Common.{◌≡◌, ◌≤◌, length, ◌+◌}
use Rattle.vf_text.specs.Lines.{lines_of}
use Rattle.edit_plan.specs.Limits.{most_script_bytes}
use Rattle.edit_plan.specs.Words.{worded_from}
use Rattle.edit_plan.proofs.lines.Lines.next_line.Given as goal

-- what is left has the same lines with words
abbrev pub invariant-loop-self : goal.invariant-loop-self
invariant-loop-self l = record {
  same : worded_from l.self-inside.number (lines_of l.self-inside.rest.now) ≡ l.fn.self;
  small : l.self-inside.number + length l.self-inside.rest.now ≤ most_script_bytes + 1;
}

abbrev pub decreases-loop-self : goal.decreases-loop-self
decreases-loop-self l = length l.self-inside.rest.now
