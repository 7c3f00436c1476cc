use Rattle.std.proofs.Common.{◌≡◌, ℕ, ◌+◌, ◌<◌, ◌≤◌, pos, int_lt, true}
use Rattle.space.specs.Vectors.{at}
use Rattle.wanted_marks.specs.Lines.{coefficient_at}
use Rattle.wanted_marks.proofs.hull.are_beside.Given as goal

abbrev pub invariant-loop-k : goal.invariant-loop-k
invariant-loop-k s = (i : ℕ) → i < 5 → 5 ≤ i + s.k → (x : ℕ) → s.l ≤ x → x ≤ s.m → int_lt (at s.limits i) (coefficient_at s.line i (pos x)) ≡ true
