use Rattle.std.proofs.Common.{◌≡◌, ◌+◌, ◌<◌, ◌≤◌, ◌⊎◌, length, vec_len}
use Rattle.vf_text.specs.Lines.{lines_of}
use Rattle.cl_lines.specs.Texts.{joined_from, lead_text, most_bytes}
use Rattle.cl_lines.proofs.join.join_lines.Given as goal

abbrev pub invariant-loop-rest : goal.invariant-loop-rest
invariant-loop-rest l = record {
  same : joined_from l.line (lines_of l.bytes) ≡ lead_text l.line l.room.items (joined_from l.number (lines_of l.rest));
  short : vec_len l.room ≤ 4096;
  small : l.number + length l.rest ≤ most_bytes + 1;
  less : (l.rest ≡ l.bytes) ⊎ (length l.rest < length l.bytes);
}

abbrev pub decreases-loop-rest : goal.decreases-loop-rest
decreases-loop-rest l = length l.rest
