-- The ranges of a ray line that were read so far.
use Rattle.std.specs.Prelude.{ℕ, ◌+◌, ◌<◌, ◌&&◌, ◌||◌, nat_le, nat_lt, Bool, true, false, IsTrue, List, length, map, if◌then◌else◌}
use Rattle.std.specs.List.{range_with_len}
use Rattle.vf_spans.specs.Members.{has}
use Rattle.stock_file.specs.declared.line.Ranges.{Ranges}

-- the set with the indices from lo on and below hi too
abbrev pub with_range : List Bool → ℕ → ℕ → List Bool
with_range set lo hi = map (λ i. has set i || (nat_le lo i && nat_lt i hi)) (range_with_len 0 (length set))

-- a range may follow those that were read
abbrev pub follows : Ranges → ℕ → ℕ → Bool
follows ranges lo hi = ranges.are_ok && (nat_le ranges.least lo && (nat_lt lo hi && nat_le hi (length ranges.set)))

-- the ranges with one more, or with none added and not right
abbrev pub with_pair : Ranges → ℕ → ℕ → Ranges
with_pair ranges lo hi =
    if follows ranges lo hi then record { set = with_range ranges.set lo hi; least = hi + 1; are_ok = true }
    else record { set = ranges.set; least = ranges.least; are_ok = false }

-- between what was read and the least bound that may follow an index is missing
abbrev pub LieBelow : Ranges → Type 0
LieBelow ranges = (i : ℕ) → IsTrue (has ranges.set i) → i + 1 < ranges.least
