-- A journal by what it holds, whatever room it has.
use Rattle.std.proofs.Common.{◌≡◌, ℕ, ◌^◌, ◌<◌, ◌≤◌, All, List, length, sym, subst}
use Rattle.vf_spans.specs.Members.{has}
use Rattle.ray_grid.specs.Ranges.{IsGrid}
use Rattle.ray_grid.specs.Strips.{strips_of}
use Rattle.edit_plan.specs.Edits.{AppliesBelow}
use Rattle.edit_plan.specs.Limits.{most_edits}
use Rattle.edit_history.specs.Histories.{History, history_at}
use Rattle.job_model.specs.Points.{left_moves, strip_points, totals_over}
use Rattle.job_model.specs.Tasks.{IsPlan, Job}
use Rattle.ray_words.specs.Rays.{KeptSets}
use Rattle.strip_marks.specs.declared.change.WordChange.{WordChange}
use Rattle.strip_marks.specs.Marks.{AreInOrder, AreRays, IsChangeOn, points_at, possible_of, sets_of, sure_of}
use Rattle.strip_journal.specs.declared.entry.Entry.{Entry}
use Rattle.strip_journal.specs.declared.journal.Journal.{Journal}
use Rattle.strip_journal.specs.Entries.{AreEntries, changes_of, entry_at}
use Rattle.strip_journal.specs.Journals.{AreFound, HasBodies, HaveTotals, IsJournal, MatchesEntries, job_of, possible_at, sure_at}

-- what a journal holds
pub record Parts : Type 0 where
  pub number : ℕ
  pub of : ℕ
  pub rays : List KeptSets
  pub changes : List WordChange
  pub entries : List Entry
  pub line : List ℕ
  pub at : ℕ
  pub done : ℕ

-- what this journal holds
abbrev pub parts_of : Journal → Parts
parts_of j = record {
  number = j.number;
  of = j.of;
  rays = j.rays;
  changes = j.changes.items;
  entries = j.entries.items;
  line = j.line;
  at = j.at;
  done = j.done;
}

-- the rays have the points of the bodies, and those that are sure, and possible, at a version
pub record AreSetsAt (job : Job) (strip done : ℕ) (kept : List KeptSets) : Type 0 where
  pub rays : AreRays job.plan.grid strip kept
  pub bodies : (n : ℕ) → n < length kept → HasBodies job strip n (sets_of kept n)
  pub sure : (n l : ℕ) → n < length kept → l < points_at job.plan.grid strip n → has (sets_of kept n).sure l ≡ sure_at job strip done n l
  pub possible : (n l : ℕ) → n < length kept → l < points_at job.plan.grid strip n
      → has (sets_of kept n).possible l ≡ possible_at job strip done n l

-- what is held is that of a strip of the job: the parts of `IsJournal`
pub record IsHeld (job : Job) (p : Parts) : Type 0 where
  pub valid : IsPlan job.plan
  pub grid : IsGrid job.plan.grid
  pub strip : p.number < length (strips_of job.plan.grid)
  pub few : length job.plan.edits ≤ most_edits
  pub named : All (AppliesBelow (length job.plan.moves)) job.plan.edits
  pub within : p.done ≤ length job.plan.edits
  pub line : ◌≡◌ {A = History} (record { numbers = p.line; at = p.at }) (history_at job.plan.edits p.done)
  pub newest : AreSetsAt job p.number p.done p.rays
  pub of : p.of ≡ (totals_over job (strip_points job.plan.grid p.number) (left_moves job.plan 0)).of
  pub kept : AreEntries p.entries (length p.changes) p.done
  pub sorted : (i : ℕ) → i < length p.entries → AreInOrder (changes_of p.changes (entry_at p.entries i))
  pub on : All (IsChangeOn p.rays) p.changes
  pub few_changes : length p.changes < 2 ^ 32
  pub tracked_sure : MatchesEntries (sure_at job p.number) sure_of (length p.rays) (points_at job.plan.grid p.number) p.changes p.entries p.done
  pub tracked_possible : MatchesEntries (possible_at job p.number) possible_of (length p.rays) (points_at job.plan.grid p.number) p.changes
      p.entries p.done
  pub totals : HaveTotals job p.number p.entries
  pub found : AreFound job p.number p.line p.entries

-- a journal holds what is that of a strip of its job
pub held_of : (job : Job) (j : Journal) → IsJournal job j → IsHeld job (parts_of j)
held_of job j h = record {
  valid = h.valid;
  grid = h.grid;
  strip = h.strip;
  few = h.few;
  named = h.named;
  within = h.within;
  line = h.line;
  newest = record { rays = h.newest.rays; bodies = h.newest.bodies; sure = h.newest.sure; possible = h.newest.possible };
  of = h.of;
  kept = h.kept;
  sorted = h.sorted;
  on = h.on;
  few_changes = h.few_changes;
  tracked_sure = h.tracked_sure;
  tracked_possible = h.tracked_possible;
  totals = h.totals;
  found = h.found;
}

-- and what holds such things is a journal of the job
pub journal_of : (job : Job) (j : Journal) → IsHeld job (parts_of j) → IsJournal job j
journal_of job j h = record {
  valid = h.valid;
  grid = h.grid;
  strip = h.strip;
  few = h.few;
  named = h.named;
  within = h.within;
  line = h.line;
  newest = record { rays = h.newest.rays; bodies = h.newest.bodies; sure = h.newest.sure; possible = h.newest.possible };
  of = h.of;
  kept = h.kept;
  sorted = h.sorted;
  on = h.on;
  few_changes = h.few_changes;
  tracked_sure = h.tracked_sure;
  tracked_possible = h.tracked_possible;
  totals = h.totals;
  found = h.found;
}

-- so a journal of whose parts that is known is one of its job
pub journal_by : (job : Job) (k : Journal) (p : Parts) → job_of k ≡ job → parts_of k ≡ p → IsHeld job p → IsJournal (job_of k) k
journal_by job k p is holds held =
    subst (λ (x : Job). IsJournal x k) (sym is) (journal_of job k (subst (λ (q : Parts). IsHeld job q) (sym holds) held))
