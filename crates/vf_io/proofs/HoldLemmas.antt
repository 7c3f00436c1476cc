-- What a call that counts its failure says.
use Rattle.std.proofs.Common.{◌≡◌, ℕ, ◌≤◌, Result, Ok, Err, is_err, arith}
use Rattle.vf_io.specs.Causes.{HasCause}
use Rattle.vf_io.specs.Memory.{faults_behind}

-- a count that stays at an answer, and rises at a failure, has a cause
pub HasCause-counted : {T E : Type 0} (before now : ℕ) (result : Result T E) → now ≡ faults_behind (is_err result) before → before ≤ now → HasCause before now result
HasCause-counted before now (Ok value) counted later = record { later = later; failed = tt }
HasCause-counted before now (Err end) counted later = record { later = later; failed = omega arith }
