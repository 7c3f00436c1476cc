use Rattle.std.proofs.Common.{◌≡◌, length}
use Rattle.cert_lines.specs.Words.{words_after}
use Rattle.stock_file.specs.RayLines.{bounds_in, set_judged}
use Rattle.stock_file.specs.Taken.{LieBelow}
use Rattle.stock_file.proofs.TakenLemmas.{ranges_judged}
use Rattle.stock_file.proofs.line.read_bounds.Given as goal

-- the bounds that are left, with the ranges that were read, make the set
abbrev pub invariant-loop-lo : goal.invariant-loop-lo
invariant-loop-lo l = record {
  judged : ranges_judged l.ranges (bounds_in (words_after l.rest)) ≡ set_judged l.is_due l.points (bounds_in (words_after l.text));
  below : LieBelow l.ranges;
}

abbrev pub decreases-loop-lo : goal.decreases-loop-lo
decreases-loop-lo l = length l.rest
