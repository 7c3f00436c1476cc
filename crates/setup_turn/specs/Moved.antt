-- Sets of indices that are moved along a ray, or reversed.
use Rattle.std.specs.Prelude.{◌≡◌, ℕ, ◌+◌, ◌-◌, ◌<◌, ◌≤◌, Bool, true, false, List, Option, Some, None}
use Rattle.vf_spans.specs.Members.{has}

-- the first index of a set from a number on, or there is none
abbrev pub IsFirstFrom : List Bool → ℕ → Option ℕ → Type 0
IsFirstFrom set from None = (i : ℕ) → from ≤ i → has set i ≡ false
IsFirstFrom set from (Some l) = (from ≤ l) × (has set l ≡ true) × ((i : ℕ) → from ≤ i → i < l → has set i ≡ false)

-- the indices of a set lie from `first` on and before `end`
pub record LiesWithin (set : List Bool) (first end : ℕ) : Type 0 where
  pub from : (i : ℕ) → has set i ≡ true → first ≤ i
  pub before : (i : ℕ) → has set i ≡ true → i < end

-- what was at `first` is at `to`, and each index is as far from it as before
pub record IsMovedSet (set : List Bool) (first to : ℕ) (moved : List Bool) : Type 0 where
  pub below : (m : ℕ) → m < to → has moved m ≡ false
  pub same : (k : ℕ) → has moved (to + k) ≡ has set (first + k)

-- the same the other way round
pub record IsReversed (set : List Bool) (first to : ℕ) (moved : List Bool) : Type 0 where
  pub above : (m : ℕ) → to < m → has moved m ≡ false
  pub same : (k : ℕ) → k ≤ to → has moved (to - k) ≡ has set (first + k)

-- the set of an old ray on its new one
abbrev pub IsTurnedSet : Bool → List Bool → ℕ → ℕ → List Bool → Type 0
IsTurnedSet false set first to moved = IsMovedSet set first to moved
IsTurnedSet true set first to moved = IsReversed set first to moved
