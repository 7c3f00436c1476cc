-- What one read of the open file does to the bytes that are left of it.
use Rattle.std.specs.Prelude.{◌≡◌, ℕ, ◌+◌, ◌≤◌, ◌↔◌, min, List, [], length, take, drop, Option, Some, Result, MatchResult}

-- the first n of the unread bytes went to the front of the buffer, and none only where none were left
pub record TakesBytes (old : List ℕ) (new : Option (List ℕ)) (buffer : List ℕ) (n : ℕ) : Type 0 where
  pub front : take n buffer ≡ take n old
  pub within : n ≤ length old
  pub rest : new ≡ Some (drop n old)
  pub at_end : (n ≡ 0) ↔ (old ≡ [])

-- the count of reads that took bytes rises by one at the most, and stays where none were taken
abbrev pub CountsRead : {E : Type 0} → ℕ → ℕ → Result ℕ E → Type 0
CountsRead before now result = MatchResult result (λ n. now ≤ before + min n 1) (λ _. now ≤ before)
