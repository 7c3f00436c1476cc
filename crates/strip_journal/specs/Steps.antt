-- What one edit makes of what a strip keeps.
use Rattle.std.specs.Prelude.{◌≡◌, ℕ, ◌+◌, ◌-◌, ◌^◌, ◌<◌, ◌≤◌, ◌&&◌, ◌==◌, not, Bool, false, if◌then◌else◌, List, [], ◌∷◌, ◌++◌, length, take}
use Rattle.std.specs.List.{range_with_len}
use Rattle.vf_spans.specs.Members.{has}
use Rattle.edit_plan.specs.Limits.{most_edits}
use Rattle.job_counts.specs.declared.counts.Counts.{Counts}
use Rattle.job_counts.specs.Counts.{AreWithin}
use Rattle.ray_words.specs.Rays.{KeptSets}
use Rattle.ray_words.specs.Rows.{kept_at}
use Rattle.strip_marks.specs.declared.change.WordChange.{WordChange}
use Rattle.strip_marks.specs.Marks.{among, possible_of, sure_of}
use Rattle.strip_journal.specs.declared.entry.Entry.{Entry}
use Rattle.strip_journal.specs.declared.entry.Hits.{Hits}
use Rattle.strip_journal.specs.declared.journal.Journal.{Journal}
use Rattle.strip_journal.specs.Journals.{job_of}
use Rattle.strip_journal.specs.Entries.{HasNo, HasRoomFor, are_none, changes_of, edit_at, entry_at, hits_of, no_hits, possible_ahead, removed_ahead, was}

-- The sets of a ray with changes, or without them: of each set the members are by `was`, and the bodies and the words that are kept
-- stay.
pub record IsRayTurned (before after : KeptSets) (changes : List WordChange) (n : ℕ) (is_undo : Bool) : Type 0 where
  pub stock : after.sets.stock ≡ before.sets.stock
  pub part : after.sets.part ≡ before.sets.part
  pub fixture : after.sets.fixture ≡ before.sets.fixture
  pub sure_bound : length after.sets.sure ≡ length before.sets.sure
  pub possible_bound : length after.sets.possible ≡ length before.sets.possible
  pub sure : (l : ℕ) → has after.sets.sure l ≡ was (not is_undo) (among sure_of changes n l) (has before.sets.sure l)
  pub possible : (l : ℕ) → has after.sets.possible l ≡ was (not is_undo) (among possible_of changes n l) (has before.sets.possible l)
  pub first : after.first ≡ before.first
  pub count : after.count ≡ before.count

-- each ray so
pub record AreRaysTurned (before after : List KeptSets) (changes : List WordChange) (is_undo : Bool) : Type 0 where
  pub many : length after ≡ length before
  pub each : (n : ℕ) → n < length before → IsRayTurned (kept_at before n) (kept_at after n) changes n is_undo

-- a move with these changes and counts changes nothing and finds nothing
abbrev pub does_nothing : List WordChange → Counts → Bool
does_nothing changes counts = length changes == 0 && are_none (hits_of counts)

-- the entries with that of a move, unless it does nothing
abbrev pub noted : Bool → List Entry → Entry → List Entry
noted nothing entries entry = if nothing then entries else entries ++ entry ∷ []

-- the entry of an edit that applies a move with these changes and counts
abbrev pub applied_entry : ℕ → Journal → List WordChange → Counts → Entry
applied_entry edit j changes counts = record {
  edit = edit;
  from = length j.changes.items;
  to = length j.changes.items + length changes;
  is_undo = false;
  hits = hits_of counts;
  removed = removed_ahead j.entries.items (length j.entries.items) + counts.removed;
  possible = possible_ahead j.entries.items (length j.entries.items) + counts.possible;
}

-- the counts of a move, and the totals with them, are what an entry can hold
pub record FitsEntry (j : Journal) (counts : Counts) : Type 0 where
  pub within : AreWithin (2 ^ 32 - 1) counts
  pub removed : removed_ahead j.entries.items (length j.entries.items) + counts.removed < 2 ^ 32
  pub possible : possible_ahead j.entries.items (length j.entries.items) + counts.possible < 2 ^ 32

-- the same strip of the same job
pub record IsSameStrip (j k : Journal) : Type 0 where
  pub job : job_of k ≡ job_of j
  pub number : k.number ≡ j.number
  pub of : k.of ≡ j.of

-- what is kept of the edits stays, and their number
pub record HasSameEdits (j k : Journal) : Type 0 where
  pub strip : IsSameStrip j k
  pub changes : k.changes.items ≡ j.changes.items
  pub entries : k.entries.items ≡ j.entries.items
  pub line : k.line ≡ j.line
  pub at : k.at ≡ j.at
  pub done : k.done ≡ j.done

-- there is room for `changes` changes and for an entry with these hits; a place among the changes has 32 bits
pub record HasRoom (j : Journal) (changes : ℕ) (hits : Hits) : Type 0 where
  pub changes_fit : changes ≤ j.changes.room
  pub few : length j.changes.items + changes < 2 ^ 32
  pub entry : HasRoomFor j.entries hits

-- the line and the number of edits done stay
pub record HasSameLine (j k : Journal) : Type 0 where
  pub line : k.line ≡ j.line
  pub at : k.at ≡ j.at
  pub done : k.done ≡ j.done

-- the edit that comes next can be added to those that are left
pub record CanStand (j : Journal) : Type 0 where
  pub left : j.at ≤ length j.line
  pub few : length j.line ≤ most_edits
  pub next : j.done < most_edits

-- a journal after this edit was added to those that are left
pub record IsStood (j k : Journal) : Type 0 where
  pub strip : IsSameStrip j k
  pub rays : k.rays ≡ j.rays
  pub changes : k.changes.items ≡ j.changes.items
  pub entries : k.entries.items ≡ j.entries.items
  pub line : k.line ≡ take j.at j.line ++ j.done ∷ []
  pub at : k.at ≡ j.at + 1
  pub done : k.done ≡ j.done + 1

-- a journal after `count` edits from this one on were added to those that are left
pub record IsStoodBy (j k : Journal) (count : ℕ) : Type 0 where
  pub strip : IsSameStrip j k
  pub rays : k.rays ≡ j.rays
  pub changes : k.changes.items ≡ j.changes.items
  pub entries : k.entries.items ≡ j.entries.items
  pub line : k.line ≡ take j.at j.line ++ range_with_len j.done count
  pub at : k.at ≡ j.at + count
  pub done : k.done ≡ j.done + count

-- a journal after the changes and counts of an edit's move were entered
pub record IsEntered (j k : Journal) (edit : ℕ) (changes : List WordChange) (counts : Counts) : Type 0 where
  pub strip : IsSameStrip j k
  pub rays : AreRaysTurned j.rays k.rays changes false
  pub changes_are : k.changes.items ≡ j.changes.items ++ changes
  pub entries : k.entries.items ≡ j.entries.items ++ applied_entry edit j changes counts ∷ []
  pub line : HasSameLine j k

-- a journal after this edit applied a move with these changes and counts
pub record IsApplied (j k : Journal) (changes : List WordChange) (counts : Counts) : Type 0 where
  pub strip : IsSameStrip j k
  pub rays : AreRaysTurned j.rays k.rays changes false
  pub changes_are : k.changes.items ≡ j.changes.items ++ changes
  pub entries : k.entries.items ≡ noted (does_nothing changes counts) j.entries.items (applied_entry j.done j changes counts)
  pub line : k.line ≡ take j.at j.line ++ j.done ∷ []
  pub at : k.at ≡ j.at + 1
  pub done : k.done ≡ j.done + 1

-- the entry of an edit that takes back what the entry at a place did, or gives it again
abbrev pub turned_entry : Journal → ℕ → Bool → Entry
turned_entry j place is_undo = record {
  edit = j.done;
  from = (entry_at j.entries.items place).from;
  to = (entry_at j.entries.items place).to;
  is_undo = is_undo;
  hits = no_hits;
  removed = if is_undo then removed_ahead j.entries.items place else removed_ahead j.entries.items (place + 1);
  possible = if is_undo then possible_ahead j.entries.items place else possible_ahead j.entries.items (place + 1);
}

-- a journal after the changes of the entry at a place were taken back, or given again, except for the line and the number of edits done
pub record IsTurnedBy (j k : Journal) (place : ℕ) (is_undo : Bool) : Type 0 where
  pub strip : IsSameStrip j k
  pub rays : AreRaysTurned j.rays k.rays (changes_of j.changes.items (entry_at j.entries.items place)) is_undo
  pub changes : k.changes.items ≡ j.changes.items
  pub entries : k.entries.items ≡ j.entries.items ++ turned_entry j place is_undo ∷ []
  pub line : HasSameLine j k

-- The changes of an edit were taken back, or given again: where it has an entry those of the entry; where it has none there are none,
-- and nothing is kept of it.
pub record IsTurnedFrom (j k : Journal) (source : ℕ) (is_undo : Bool) : Type 0 where
  pub by : (place : ℕ) → place < length j.entries.items → edit_at j.entries.items place ≡ source → IsTurnedBy j k place is_undo
  pub none : HasNo j.entries.items source → HasSameEdits j k × (k.rays ≡ j.rays)

-- a journal that is at another place of its line, after `done` edits
pub record IsMovedTo (j k : Journal) (at done : ℕ) : Type 0 where
  pub strip : IsSameStrip j k
  pub rays : k.rays ≡ j.rays
  pub changes : k.changes.items ≡ j.changes.items
  pub entries : k.entries.items ≡ j.entries.items
  pub line : k.line ≡ j.line
  pub at_is : k.at ≡ at
  pub done_is : k.done ≡ done
