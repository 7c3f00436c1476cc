use Rattle.std.proofs.Common.{◌≡◌, ℕ, ◌<◌, ◌*ℤ◌, true}
use Rattle.space.specs.Vectors.{at}
use Rattle.box_bisect.specs.Sides.{is_on}
use Rattle.box_bisect.proofs.compare.are_on.Given as goal

abbrev pub invariant-loop-i : goal.invariant-loop-i
invariant-loop-i l = (k : ℕ) → k < l.i → is_on l.side (at l.form.c k) (l.limit *ℤ at l.raised.c k) ≡ true
