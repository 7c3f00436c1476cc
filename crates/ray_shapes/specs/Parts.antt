-- Intervals of indices, and what a list of them covers.
use Rattle.std.specs.Prelude.{ℕ, nat_le, nat_lt, ◌&&◌, Bool, List}
use Rattle.std.specs.List.{list_any}
use Rattle.std.specs.List.Sorted.{IsNonDecreasingBy}
use Rattle.ray_shapes.specs.declared.half_line.IndexRange.{IndexRange}

-- an interval covers its indices from lo on and below hi
abbrev pub is_in : ℕ → IndexRange → Bool
is_in i part = nat_le part.lo i && nat_lt i part.hi

-- some of the intervals covers the index
abbrev pub covers_some : List IndexRange → ℕ → Bool
covers_some parts i = list_any (is_in i) parts

-- the intervals are in the order of their first indices
abbrev pub InOrder : List IndexRange → Type 0
InOrder parts = IsNonDecreasingBy (λ part. part.lo) parts
