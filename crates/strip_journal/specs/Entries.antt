-- What is kept of the edits that had an effect on a strip.
use Rattle.std.specs.Prelude.{◌≡◌, ℕ, ◌-◌, ◌<◌, ◌≤◌, false, Bool, not, ◌&&◌, ◌||◌, ◌==◌, if◌then◌else◌, List, length, slice_index_or, slice_range}
use Rattle.job_counts.specs.declared.counts.Counts.{Counts}
use Rattle.strip_marks.specs.declared.change.WordChange.{WordChange}
use Rattle.strip_journal.specs.declared.entry.Entry.{Entry}
use Rattle.strip_journal.specs.declared.entry.Hits.{Hits}

abbrev pub no_hits : Hits
no_hits = record { part_sure = 0; part_possible = 0; fix_sure = 0; fix_possible = 0; rapid_sure = 0; rapid_possible = 0 }

-- the counts of a move except for new stock
abbrev pub hits_of : Counts → Hits
hits_of counts = record {
  part_sure = counts.part_sure;
  part_possible = counts.part_possible;
  fix_sure = counts.fix_sure;
  fix_possible = counts.fix_possible;
  rapid_sure = counts.rapid_sure;
  rapid_possible = counts.rapid_possible;
}

-- nothing is found
abbrev pub are_none : Hits → Bool
are_none hits =
    hits.part_sure == 0
    && (hits.part_possible == 0 && (hits.fix_sure == 0 && (hits.fix_possible == 0 && (hits.rapid_sure == 0 && hits.rapid_possible == 0))))

-- with the new stock
abbrev pub counts_of_hits : Hits → ℕ → ℕ → Counts
counts_of_hits hits removed possible = record {
  removed = removed;
  possible = possible;
  part_sure = hits.part_sure;
  part_possible = hits.part_possible;
  fix_sure = hits.fix_sure;
  fix_possible = hits.fix_possible;
  rapid_sure = hits.rapid_sure;
  rapid_possible = hits.rapid_possible;
}

abbrev pub no_entry : Entry
no_entry = record { edit = 0; from = 0; to = 0; is_undo = false; hits = no_hits; removed = 0; possible = 0 }

-- a list of entries, for how many more there is room, and for how many more that have hits
pub record EntryList : Type 0 where
  pub items : List Entry
  pub room : ℕ
  pub hits_room : ℕ

-- there is room for an entry more that has these hits
pub record HasRoomFor (entries : EntryList) (hits : Hits) : Type 0 where
  pub entry : 0 < entries.room
  pub found : are_none hits ≡ false → 0 < entries.hits_room

-- the entry at a place, and its edit
abbrev pub entry_at : List Entry → ℕ → Entry
entry_at entries place = slice_index_or entries place no_entry

abbrev pub edit_at : List Entry → ℕ → ℕ
edit_at entries place = (entry_at entries place).edit

-- the totals before the entry at a place: those of the entry before it
abbrev pub removed_ahead : List Entry → ℕ → ℕ
removed_ahead entries place = if place == 0 then 0 else (entry_at entries (place - 1)).removed

abbrev pub possible_ahead : List Entry → ℕ → ℕ
possible_ahead entries place = if place == 0 then 0 else (entry_at entries (place - 1)).possible

-- no entry is of this edit
abbrev pub HasNo : List Entry → ℕ → Type 0
HasNo entries edit = (place : ℕ) → place < length entries → edit_at entries place ≡ edit → ⊥

-- the entries are in order of their edits
pub record AreAscending (entries : List Entry) : Type 0 where
  pub each : (i k : ℕ) → i < k → k < length entries → edit_at entries i < edit_at entries k

-- the place of the first entry of an edit at or after a version
pub record IsFirstEntryFrom (entries : List Entry) (version place : ℕ) : Type 0 where
  pub within : place ≤ length entries
  pub ahead : (i : ℕ) → i < place → edit_at entries i < version
  pub behind : (i : ℕ) → place ≤ i → i < length entries → version ≤ edit_at entries i

-- they are in order, all their edits are done, and their changes are among the first `changes`
pub record AreEntries (entries : List Entry) (changes done : ℕ) : Type 0 where
  pub ascend : AreAscending entries
  pub early : (i : ℕ) → i < length entries → edit_at entries i < done
  pub order : (i : ℕ) → i < length entries → (entry_at entries i).from ≤ (entry_at entries i).to
  pub within : (i : ℕ) → i < length entries → (entry_at entries i).to ≤ changes

-- the changes of an entry
abbrev pub changes_of : List WordChange → Entry → List WordChange
changes_of changes entry = slice_range changes entry.from entry.to

-- whether an index was in a set before an edit that changed it there or not, by whether it is there after it
abbrev pub was : Bool → Bool → Bool → Bool
was is_undo changed after = if is_undo then (after || changed) else (after && not changed)

-- an edit leads from before to after there, and back
pub record IsToggled (is_undo before after changed : Bool) : Type 0 where
  pub back : before ≡ was is_undo changed after
  pub forth : after ≡ was (not is_undo) changed before
