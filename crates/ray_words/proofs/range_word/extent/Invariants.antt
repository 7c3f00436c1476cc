use Rattle.std.proofs.Common.{◌≡◌, ℕ, ◌<◌, ◌≤◌, true, take}
use Rattle.std.specs.List.{list_any}
use Rattle.vf_spans.specs.Members.{in_range, ranges_of}
use Rattle.ray_words.proofs.range_word.extent.Given as goal

-- the range has each index of the set's ranges so far
abbrev pub invariant-loop-r : goal.invariant-loop-r
invariant-loop-r l = (i : ℕ) → list_any (in_range i) (take l.r (ranges_of l.set)) ≡ true → (l.lo ≤ i) × (i < l.hi)
