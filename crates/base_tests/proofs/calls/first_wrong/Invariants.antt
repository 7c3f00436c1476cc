use Rattle.std.proofs.Common.{ℕ, List}
use Rattle.base_tests.proofs.calls.first_wrong.Given as goal

abbrev pub invariant-loop-call : goal.invariant-loop-call
invariant-loop-call g l = (n : List ℕ) → g.S.Shelf.allows l.shelf n
