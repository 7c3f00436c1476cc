-- A strip as its callers see it, and what it returns.
use Rattle.std.specs.Prelude.{◌≡◌, ℕ, ◌-◌, ◌<◌, ◌^◌, List, Some, length, slice_get, slice_index_or, take}
use Rattle.edit_plan.specs.Edits.{left_at}
use Rattle.job_counts.specs.declared.counts.Counts.{Counts}
use Rattle.job_counts.specs.Counts.{no_counts, plus}
use Rattle.job_model.specs.Findings.{found_over}
use Rattle.job_model.specs.Points.{moves_of, strip_points}
use Rattle.job_model.specs.Tasks.{Job, JobMove}
use Rattle.strip_plan.specs.Plans.{HasNumber}

-- A strip of a job's lattice, and how many of the edits were done on it. What it holds is what the definitions say of these: at each
-- version so far the points that are sure and possible by the moves left there, and what each of them finds.
pub record StripOf : Type 0 where
  pub job : Job
  pub number : ℕ
  pub done : ℕ

-- the counts are what the j-th of the moves that are left finds on the strip, with those that are left before it
pub record IsFoundAt (s : StripOf) (j : ℕ) (counts : Counts) : Type 0 where
  pub is : (number : ℕ) (move : JobMove) → slice_get (left_at s.job.plan.edits s.done) j ≡ Some number → HasNumber s.job.plan number move
      → counts
      ≡ found_over s.job (strip_points s.job.plan.grid s.number) (moves_of s.job.plan (take j (left_at s.job.plan.edits s.done))) move

-- a count of this size leaves room for what a strip has
abbrev pub most_before : ℕ
most_before = 2 ^ 64 - 2 ^ 32

-- each count is what it was and what its move finds
pub record AddsFound (s : StripOf) (before after : List Counts) : Type 0 where
  pub many : length after ≡ length before
  pub each : (j : ℕ) (found : Counts) → j < length before → IsFoundAt s j found
      → slice_index_or after j no_counts ≡ plus (slice_index_or before j no_counts) found
