-- What a strip keeps of a job.
use Rattle.std.specs.Prelude.{◌≡◌, ℕ, ◌+◌, ◌^◌, ◌<◌, ◌≤◌, false, Bool, ◌&&◌, All, List, length, slice_index}
use Rattle.vf_spans.specs.Members.{has}
use Rattle.ray_grid.specs.Ranges.{IsGrid}
use Rattle.ray_grid.specs.Strips.{strips_of}
use Rattle.edit_plan.specs.Edits.{AppliesBelow}
use Rattle.edit_plan.specs.Limits.{most_edits}
use Rattle.edit_history.specs.Histories.{History, history_at, move_of}
use Rattle.job_counts.specs.declared.counts.Counts.{Counts}
use Rattle.job_counts.specs.Counts.{no_counts}
use Rattle.dexel_rays.specs.Sets.{Sets}
use Rattle.job_model.specs.Findings.{found_over}
use Rattle.job_model.specs.Points.{is_fixture, is_part, is_stock, left_moves, some_possible, some_sure, strip_points, totals_over}
use Rattle.job_model.specs.Tasks.{IsPlan, Job, JobMove}
use Rattle.strip_plan.specs.Plans.{HasNumber}
use Rattle.strip_marks.specs.declared.change.WordChange.{WordChange}
use Rattle.strip_marks.specs.Marks.{AreInOrder, AreRays, IsChangeOn, among, point_at, points_at, possible_of, sets_of, sure_of}
use Rattle.strip_journal.specs.declared.entry.Entry.{Entry}
use Rattle.strip_journal.specs.declared.journal.Journal.{Journal}
use Rattle.strip_journal.specs.Entries.{AreEntries, HasNo, IsToggled, changes_of, edit_at, entry_at, hits_of}

-- the point of ray n with the index l is stock
abbrev pub stock_at : Job → ℕ → ℕ → ℕ → Bool
stock_at job strip n l = is_stock job (point_at job.plan.grid strip n l)

-- it is stock of which some move that is left at a version is sure, and stock at which one is possible
abbrev pub sure_at : Job → ℕ → ℕ → ℕ → ℕ → Bool
sure_at job strip version n l =
    stock_at job strip n l && some_sure job.plan (left_moves job.plan version) (point_at job.plan.grid strip n l)

abbrev pub possible_at : Job → ℕ → ℕ → ℕ → ℕ → Bool
possible_at job strip version n l =
    stock_at job strip n l && some_possible job.plan (left_moves job.plan version) (point_at job.plan.grid strip n l)

-- the points of a strip's ray in the three bodies
pub record HasBodies (job : Job) (strip n : ℕ) (d : Sets) : Type 0 where
  pub stock : (l : ℕ) → l < points_at job.plan.grid strip n → has d.stock l ≡ is_stock job (point_at job.plan.grid strip n l)
  pub part : (l : ℕ) → l < points_at job.plan.grid strip n → has d.part l ≡ is_part job (point_at job.plan.grid strip n l)
  pub fixture : (l : ℕ) → l < points_at job.plan.grid strip n → has d.fixture l ≡ is_fixture job (point_at job.plan.grid strip n l)

-- Of one of the two sets, whose members at each version a function gives: each entry leads from the version before its edit to the
-- one after it, and back; and an edit without an entry changes nothing.
pub record MatchesEntries (of : ℕ → ℕ → ℕ → Bool) (pick : WordChange → ℕ) (rays : ℕ) (points : ℕ → ℕ) (changes : List WordChange)
    (entries : List Entry) (done : ℕ) : Type 0 where
  pub turned : (i n l : ℕ) → i < length entries → n < rays → l < points n
      → IsToggled (entry_at entries i).is_undo (of (edit_at entries i) n l) (of (edit_at entries i + 1) n l)
      (among pick (changes_of changes (entry_at entries i)) n l)
  pub steady : (v n l : ℕ) → v < done → HasNo entries v → n < rays → l < points n → of v n l ≡ of (v + 1) n l

-- what a move finds on a strip by the moves that are left at a version
abbrev pub found_at : Job → ℕ → ℕ → JobMove → Counts
found_at job strip version move = found_over job (strip_points job.plan.grid strip) (left_moves job.plan version) move

-- Of each edit that applied a move and can still be taken back or given again: its entry didn't take back anything and has what the
-- move finds; and without an entry it finds nothing.
pub record AreFound (job : Job) (strip : ℕ) (line : List ℕ) (entries : List Entry) : Type 0 where
  pub applies : (k i : ℕ) → k < length line → i < length entries → edit_at entries i ≡ slice_index line k
      → (entry_at entries i).is_undo ≡ false
  pub hits : (k i : ℕ) (move : JobMove) → k < length line → i < length entries → edit_at entries i ≡ slice_index line k
      → HasNumber job.plan (move_of job.plan.edits (slice_index line k)) move
      → (entry_at entries i).hits ≡ hits_of (found_at job strip (slice_index line k) move)
  pub none : (k : ℕ) (move : JobMove) → k < length line → HasNo entries (slice_index line k)
      → HasNumber job.plan (move_of job.plan.edits (slice_index line k)) move
      → found_at job strip (slice_index line k) move ≡ no_counts

-- each entry has the totals after its edit
pub record HaveTotals (job : Job) (strip : ℕ) (entries : List Entry) : Type 0 where
  pub removed : (i : ℕ) → i < length entries → (entry_at entries i).removed
      ≡ (totals_over job (strip_points job.plan.grid strip) (left_moves job.plan (edit_at entries i + 1))).removed
  pub possible : (i : ℕ) → i < length entries → (entry_at entries i).possible
      ≡ (totals_over job (strip_points job.plan.grid strip) (left_moves job.plan (edit_at entries i + 1))).possible

-- the rays have the points of the bodies, and in the newest sets those that are sure, and possible, at a version
pub record AreRaysAt (job : Job) (strip done : ℕ) (j : Journal) : Type 0 where
  pub rays : AreRays job.plan.grid strip j.rays
  pub bodies : (n : ℕ) → n < length j.rays → HasBodies job strip n (sets_of j.rays n)
  pub sure : (n l : ℕ) → n < length j.rays → l < points_at job.plan.grid strip n
      → has (sets_of j.rays n).sure l ≡ sure_at job strip done n l
  pub possible : (n l : ℕ) → n < length j.rays → l < points_at job.plan.grid strip n
      → has (sets_of j.rays n).possible l ≡ possible_at job strip done n l

-- the job that a journal is of
abbrev pub job_of : Journal → Job
job_of j = record { plan = j.plan.value; stock = j.stock.value.value; part = j.part.value.value; fixture = j.fixture.value.value }

-- the line of edits that is kept
abbrev pub line_of : Journal → History
line_of j = record { numbers = j.line; at = j.at }

-- the journal is that of a strip of the job after some of its edits
pub record IsJournal (job : Job) (j : Journal) : Type 0 where
  pub valid : IsPlan job.plan
  pub grid : IsGrid job.plan.grid
  pub strip : j.number < length (strips_of job.plan.grid)
  pub few : length job.plan.edits ≤ most_edits
  pub named : All (AppliesBelow (length job.plan.moves)) job.plan.edits
  pub within : j.done ≤ length job.plan.edits
  pub line : line_of j ≡ history_at job.plan.edits j.done
  pub newest : AreRaysAt job j.number j.done j
  pub of : j.of ≡ (totals_over job (strip_points job.plan.grid j.number) (left_moves job.plan 0)).of
  pub kept : AreEntries j.entries.items (length j.changes.items) j.done
  pub sorted : (i : ℕ) → i < length j.entries.items → AreInOrder (changes_of j.changes.items (entry_at j.entries.items i))
  pub on : All (IsChangeOn j.rays) j.changes.items
  pub few_changes : length j.changes.items < 2 ^ 32
  pub tracked_sure : MatchesEntries (sure_at job j.number) sure_of (length j.rays) (points_at job.plan.grid j.number) j.changes.items
      j.entries.items j.done
  pub tracked_possible : MatchesEntries (possible_at job j.number) possible_of (length j.rays) (points_at job.plan.grid j.number)
      j.changes.items j.entries.items j.done
  pub totals : HaveTotals job j.number j.entries.items
  pub found : AreFound job j.number j.line j.entries.items

-- a journal of the same strip after `done` edits
pub record IsAt (j k : Journal) (done : ℕ) : Type 0 where
  pub journal : IsJournal (job_of k) k
  pub job : job_of k ≡ job_of j
  pub number : k.number ≡ j.number
  pub done_is : k.done ≡ done
