-- Ranges of indices, by their two ends.
use Rattle.std.specs.Prelude.{ℕ, ◌≤◌}
use Rattle.strip_plan.specs.Windows.{IsFrom}

-- the index is in the range: from the one end on and below the other
abbrev pub IsIn : ℕ × ℕ → ℕ → Type 0
IsIn range index = IsFrom range.0 range.1 index

-- a range of the indices below `count`
pub record IsRangeOf (count : ℕ) (range : ℕ × ℕ) : Type 0 where
  pub order : range.0 ≤ range.1
  pub within : range.1 ≤ count

-- a range that has all that two others have, and is of the same number of indices
pub record Joins (one other all : ℕ × ℕ) : Type 0 where
  pub range : (count : ℕ) → IsRangeOf count one → IsRangeOf count other → IsRangeOf count all
  pub of_one : (index : ℕ) → IsIn one index → IsIn all index
  pub of_other : (index : ℕ) → IsIn other index → IsIn all index
