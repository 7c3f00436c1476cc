use Rattle.std.proofs.Common.{◌*ℤ◌, ◌≡◌, ℕ, ◌<◌, pos, int_lt, true}
use Rattle.space.specs.Vectors.{at}
use Rattle.wanted_marks.specs.Widths.{quadratic}
use Rattle.wanted_marks.proofs.line.Line.exceed_times.Given as goal

abbrev pub invariant-loop-k : goal.invariant-loop-k
invariant-loop-k x = (i : ℕ) → i < x.k → int_lt (x.factor *ℤ at x.limits i) (quadratic (at x.self.constant.c i) (at x.self.first.c i) (at x.self.second.c i) (pos x.l)) ≡ true
