-- When a call may answer a fault: the count of faults of the object that it was handed rose.
use Rattle.std.specs.Prelude.{ℕ, ◌+◌, ◌-◌, ◌^◌, ◌≤◌, min, nat_lt, Option, Some, None, option_and_then, Result, OnErr, if◌then◌else◌}

-- the greatest count, at which a count stays
abbrev pub most_faults : ℕ
most_faults = 2 ^ 64 - 1

-- the count is greater now than it was before, or it is the greatest
abbrev pub Rose : ℕ → ℕ → Type 0
Rose before now = min (before + 1) most_faults ≤ now

-- the count of faults never falls, and a failed call raised it
pub record HasCause {T E : Type 0} (before now : ℕ) (result : Result T E) : Type 0 where
  pub later : before ≤ now
  pub failed : OnErr result (Rose before now)

-- a count of failures is known while it can still rise
abbrev pub told_failures : ℕ → Option ℕ
told_failures count = if nat_lt count most_faults then Some count else None

-- the known count after one more failure
abbrev pub one_more_failure : Option ℕ → Option ℕ
one_more_failure before = option_and_then (λ count. told_failures (count + 1)) before
