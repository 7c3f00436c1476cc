-- A set of indices below a bound, as one flag for each index below it: true where the index is in the set.
use Rattle.std.specs.Prelude.{◌≡◌, ℕ, ◌+◌, Bool, true, false, nat_le, nat_lt, ◌&&◌, List, [], ◌∷◌, length, Option, None, Some, count_by, slice_index_or}
use Rattle.std.specs.List.{range_with_len}

-- the index is in the set; beyond the bound none is
abbrev pub has : List Bool → ℕ → Bool
has set i = slice_index_or set i false

-- how many indices the set has
abbrev pub count_of : List Bool → ℕ
count_of set = count_by (λ flag. flag) set

-- how many indices below the bound meet the test
abbrev pub count_below : ℕ → (ℕ → Bool) → ℕ
count_below bound test = count_by test (range_with_len 0 bound)

-- the ranges of a set from an index on, each as its first index and the first one past it, where a range may have begun before
abbrev pub ranges_from : ℕ → Option ℕ → List Bool → List (ℕ × ℕ)
ranges_from at None [] = []
ranges_from at (Some first) [] = (first, at) ∷ []
ranges_from at None (false ∷ flags) = ranges_from (at + 1) None flags
ranges_from at None (true ∷ flags) = ranges_from (at + 1) (Some at) flags
ranges_from at (Some first) (true ∷ flags) = ranges_from (at + 1) (Some first) flags
ranges_from at (Some first) (false ∷ flags) = (first, at) ∷ ranges_from (at + 1) None flags

-- the ranges of a set in ascending order: its indices that follow each other without a gap
abbrev pub ranges_of : List Bool → List (ℕ × ℕ)
ranges_of set = ranges_from 0 None set

-- the index lies in a range
abbrev pub in_range : ℕ → ℕ × ℕ → Bool
in_range i range = nat_le range.0 i && nat_lt i range.1

-- the sets have one bound and the same indices
pub record SameIndices (a b : List Bool) : Type 0 where
  pub bound : length a ≡ length b
  pub indices : (i : ℕ) → has a i ≡ has b i
