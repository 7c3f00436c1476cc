use Rattle.std.proofs.Common.{◌≡◌, ℕ, ◌-◌, ◌≤◌, ◌&&◌, nat_lt, length}
use Rattle.vf_spans.specs.Members.{has}
use Rattle.vf_spans.proofs.words.Words.to_spans.Given as goal

abbrev pub invariant-loop-lo : goal.invariant-loop-lo
invariant-loop-lo l = record {
  bound : length l.set ≡ length l.self;
  within : l.i ≤ length l.self;
  done : (k : ℕ) → has l.set k ≡ (nat_lt k l.i && has l.self k);
}

abbrev pub decreases-loop-lo : goal.decreases-loop-lo
decreases-loop-lo l = length l.self - l.i
