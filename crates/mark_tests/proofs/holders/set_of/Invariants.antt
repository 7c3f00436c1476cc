use Rattle.std.proofs.Common.{◌≡◌, ℕ, ◌<◌, length, IsTrue}
use Rattle.vf_spans.specs.Members.{has}
use Rattle.mark_tests.proofs.holders.set_of.Given as goal

abbrev pub invariant-loop-i : goal.invariant-loop-i
invariant-loop-i l = record { bound : length l.set ≡ 8; below : (k : ℕ) → IsTrue (has l.set k) → k < l.i }
