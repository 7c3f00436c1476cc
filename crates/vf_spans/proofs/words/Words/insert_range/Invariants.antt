use Rattle.std.proofs.Common.{◌≡◌, ℕ, ◌*◌, ◌<◌, ◌≤◌, ◌&&◌, ◌||◌, nat_le, nat_lt, length}
use Rattle.vf_spans.specs.Members.{has}
use Rattle.vf_spans.proofs.words.Words.insert_range.Given as goal

abbrev pub invariant-loop-n : goal.invariant-loop-n
invariant-loop-n l = record {
  bound : length l.self ≡ length l.fn.self;
  done : (i : ℕ) → i < 64 * l.n → has l.self i ≡ (has l.fn.self i || (nat_le l.lo i && nat_lt i l.hi));
  rest : (i : ℕ) → 64 * l.n ≤ i → has l.self i ≡ has l.fn.self i;
}
