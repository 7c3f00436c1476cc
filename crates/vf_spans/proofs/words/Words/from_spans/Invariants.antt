use Rattle.std.proofs.Common.{◌≡◌, ℕ, take, length}
use Rattle.std.specs.List.{list_any}
use Rattle.vf_spans.specs.Members.{has, in_range, ranges_of}
use Rattle.vf_spans.proofs.words.Words.from_spans.Given as goal

abbrev pub invariant-loop-n : goal.invariant-loop-n
invariant-loop-n l = record {
  bound : length l.words ≡ length l.set;
  done : (i : ℕ) → has l.words i ≡ list_any (in_range i) (take l.n (ranges_of l.set));
}
