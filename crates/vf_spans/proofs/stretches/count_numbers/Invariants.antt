use Rattle.std.proofs.Common.{◌+◌, ◌-◌, length}
use Rattle.vf_spans.proofs.Tally.{Tallied}
use Rattle.vf_spans.proofs.stretches.count_numbers.Given as goal

abbrev pub invariant-loop-i : goal.invariant-loop-i
invariant-loop-i l = Tallied l.a l.b l.c l.i l.j l.k l.from l.total

abbrev pub decreases-loop-i : goal.decreases-loop-i
decreases-loop-i l = (length l.a - l.i) + (length l.b - l.j) + (length l.c - l.k)
