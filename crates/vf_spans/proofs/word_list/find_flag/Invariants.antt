use Rattle.std.proofs.Common.{◌≡◌, ℕ, ◌+◌, ◌-◌, ◌*◌, ◌/◌, ◌<◌, ◌≤◌, leb, not, length}
use Rattle.vf_spans.specs.Words.{has_bit, in_words}
use Rattle.vf_spans.proofs.word_list.find_flag.Given as goal

abbrev pub invariant-loop-n : goal.invariant-loop-n
invariant-loop-n l = record {
  from : l.i / 64 ≤ l.n;
  mask_is : (k : ℕ) → k < 64 → has_bit l.mask k ≡ leb l.i (64 * l.n + k);
  none : (k : ℕ) → l.i ≤ k → k < 64 * l.n → in_words l.words k ≡ not l.sought;
}

abbrev pub decreases-loop-n : goal.decreases-loop-n
decreases-loop-n l = length l.words - l.n
