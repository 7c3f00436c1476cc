use Rattle.std.proofs.Common.{◌≡◌, ◌+◌, ◌≤◌, length}
use Rattle.vf_text.specs.Lines.{lines_of}
use Rattle.cl_lines.specs.Texts.{texts_from, most_bytes}
use Rattle.cl_lines.proofs.text.Lines.next_into.Given as goal

abbrev pub invariant-loop-self : goal.invariant-loop-self
invariant-loop-self l = record {
  same : texts_from l.self-inside.line (lines_of l.self-inside.rest.now) ≡ l.fn.self;
  small : l.self-inside.line + length l.self-inside.rest.now ≤ most_bytes + 1;
}

abbrev pub decreases-loop-self : goal.decreases-loop-self
decreases-loop-self l = length l.self-inside.rest.now
