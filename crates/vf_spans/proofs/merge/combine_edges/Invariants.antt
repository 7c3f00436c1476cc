use Rattle.std.proofs.Common.{ℕ, ◌+◌, ◌-◌, length}
use Rattle.vf_spans.proofs.Walk.{Agrees}
use Rattle.vf_spans.proofs.merge.combine_edges.Given as goal

abbrev pub invariant-loop-i : goal.invariant-loop-i
invariant-loop-i l = (low : ℕ) × Agrees l.operation l.a l.b l.out.items l.i l.j low

abbrev pub decreases-loop-i : goal.decreases-loop-i
decreases-loop-i l = (length l.a - l.i) + (length l.b - l.j)
