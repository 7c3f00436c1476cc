-- The moves that are left.
use Rattle.std.specs.Prelude.{◌≡◌, ℕ, ◌+◌, ◌<◌, List, All, Some, length, slice_get, slice_index}
use Rattle.edit_plan.specs.Edits.{MoveLists, left_of}
use Rattle.job_model.specs.Tasks.{JobMove, PlanOf}
use Rattle.job_report.specs.Tasks.{IsBelow}
use Rattle.strip_plan.specs.Plans.{HasNumber}
use Rattle.job_run.specs.declared.left.LeftMove.{LeftMove}

-- the two lists by which edits are followed
abbrev pub lists_with : List ℕ → List ℕ → MoveLists
lists_with left dropped = record { left = left; dropped = dropped }

-- a move as it is reported: the plan's with that number, which counts from 1 there
pub record IsTold (plan : PlanOf) (number : ℕ) (told : LeftMove) : Type 0 where
  pub number_is : told.number ≡ number + 1
  pub below : number < length plan.moves
  pub line : (move : JobMove) → HasNumber plan number move → told.line ≡ move.line
  pub rapid : (move : JobMove) → HasNumber plan number move → told.rapid ≡ move.rapid

-- the first `count` of the moves with these numbers, each as it is reported
pub record AreFirstTold (plan : PlanOf) (numbers : List ℕ) (count : ℕ) (told : List LeftMove) : Type 0 where
  pub many : length told ≡ count
  pub each : (j : ℕ) (one : LeftMove) → slice_get told j ≡ Some one → IsTold plan (slice_index numbers j) one

-- the moves that are left, each as it is reported, in order
pub record AreTold (plan : PlanOf) (told : List LeftMove) : Type 0 where
  pub named : All (IsBelow (length plan.moves)) (left_of plan.edits)
  pub all : AreFirstTold plan (left_of plan.edits) (length (left_of plan.edits)) told
