-- Looking back over the entries, from the newest sets.
use Rattle.std.specs.Prelude.{◌≡◌, ℕ, ◌≤◌, nat_lt, if◌then◌else◌, Bool, List, length}
use Rattle.strip_marks.specs.declared.change.WordChange.{WordChange}
use Rattle.strip_journal.specs.declared.entry.Entry.{Entry}
use Rattle.strip_journal.specs.declared.journal.Journal.{Journal}
use Rattle.strip_journal.specs.Entries.{edit_at}
use Rattle.strip_journal.specs.Journals.{job_of, possible_at, sure_at}

-- a word of a ray, as a change there that changes nothing
abbrev pub at_word : ℕ → ℕ → WordChange
at_word n word = record { ray = n; word = word; sure = 0; possible = 0 }

-- the version up to which nothing changes after the entry before a place: that of the entry there, and past the last the newest
abbrev pub version_at : List Entry → ℕ → ℕ → ℕ
version_at entries done place = if nat_lt place (length entries) then edit_at entries place else done

-- on the way back to a version a place is reached, and it is known whether a point is sure, and possible, at the version there
pub record IsLookingBack (j : Journal) (version n l place : ℕ) (marks : Bool × Bool) : Type 0 where
  pub within : place ≤ length j.entries.items
  pub above : version ≤ version_at j.entries.items j.done place
  pub sure : marks.0 ≡ sure_at (job_of j) j.number (version_at j.entries.items j.done place) n l
  pub possible : marks.1 ≡ possible_at (job_of j) j.number (version_at j.entries.items j.done place) n l
