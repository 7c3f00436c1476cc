use Rattle.std.proofs.Common.{◌≡◌, ℕ, ◌+◌, ◌*◌, ◌<◌, take}
use Rattle.std.specs.List.{list_any}
use Rattle.vf_spans.specs.Members.{in_range, ranges_of}
use Rattle.vf_spans.specs.Words.{has_bit}
use Rattle.ray_words.proofs.range_word.word_of.Given as goal

-- the bits are those of the ranges so far
abbrev pub invariant-loop-r : goal.invariant-loop-r
invariant-loop-r l = (b : ℕ) → b < 64 → has_bit l.word b ≡ list_any (in_range (64 * l.n + b)) (take l.r (ranges_of l.set))
