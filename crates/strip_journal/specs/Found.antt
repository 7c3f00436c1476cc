-- What is added to counts that are kept for the moves that are left.
use Rattle.std.specs.Prelude.{◌≡◌, ℕ, ◌<◌, List, length, slice_index, slice_index_or}
use Rattle.edit_history.specs.Histories.{move_of}
use Rattle.job_counts.specs.declared.counts.Counts.{Counts}
use Rattle.job_counts.specs.Counts.{AreWithin, no_counts, plus}
use Rattle.job_model.specs.Tasks.{JobMove}
use Rattle.strip_plan.specs.Plans.{HasNumber}
use Rattle.strip_journal.specs.declared.journal.Journal.{Journal}
use Rattle.strip_journal.specs.Entries.{edit_at}
use Rattle.strip_journal.specs.Journals.{found_at, job_of}
use Rattle.strip_journal.specs.Strips.{most_before}

-- the count at a place of a list
abbrev pub count_at : List Counts → ℕ → Counts
count_at counts j = slice_index_or counts j no_counts

-- the counts are what the k-th edit of the line found
pub record IsFoundBy (j : Journal) (k : ℕ) (counts : Counts) : Type 0 where
  pub is : (move : JobMove) → HasNumber j.plan.value (move_of j.plan.value.edits (slice_index j.line k)) move
      → counts ≡ found_at (job_of j) j.number (slice_index j.line k) move

-- the count of the move whose edit is that of the entry at a place has room for what a strip has
pub record HasRoomAt (j : Journal) (place : ℕ) (counts : List Counts) : Type 0 where
  pub each : (k : ℕ) → k < length counts → slice_index j.line k ≡ edit_at j.entries.items place
      → AreWithin most_before (count_at counts k)

-- the count of the move whose edit is that of the entry at a place is what it was and what was found; the others are as they were
pub record AddsEntry (j : Journal) (place : ℕ) (before after : List Counts) : Type 0 where
  pub many : length after ≡ length before
  pub its : (k : ℕ) (found : Counts) → k < length before → slice_index j.line k ≡ edit_at j.entries.items place → IsFoundBy j k found
      → count_at after k ≡ plus (count_at before k) found
  pub others : (k : ℕ) → k < length before → (slice_index j.line k ≡ edit_at j.entries.items place → ⊥)
      → count_at after k ≡ count_at before k

-- each count is what it was and what its move found
pub record AddsLeft (j : Journal) (before after : List Counts) : Type 0 where
  pub many : length after ≡ length before
  pub each : (k : ℕ) (found : Counts) → k < length before → IsFoundBy j k found → count_at after k ≡ plus (count_at before k) found

-- of each move whose edit is that of an entry before a place the count is what it was and what the move found; the others are as they
-- were
pub record AddsAhead (j : Journal) (place : ℕ) (before after : List Counts) : Type 0 where
  pub many : length after ≡ length before
  pub its : (k i : ℕ) (found : Counts) → k < length before → i < place → edit_at j.entries.items i ≡ slice_index j.line k
      → IsFoundBy j k found → count_at after k ≡ plus (count_at before k) found
  pub others : (k : ℕ) → k < length before → ((i : ℕ) → i < place → edit_at j.entries.items i ≡ slice_index j.line k → ⊥)
      → count_at after k ≡ count_at before k
