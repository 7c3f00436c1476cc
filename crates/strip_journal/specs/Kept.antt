-- How the entries of a strip are kept: each with the number of its hits, and the hits that are some in a list of their own.
use Rattle.std.specs.Prelude.{◌≡◌, ℕ, ◌-◌, ◌^◌, ◌<◌, ◌≤◌, false, List, ◌∷◌, length, map, min, slice_index_or}
use Rattle.strip_journal.specs.declared.entries.KeptEntry.{KeptEntry}
use Rattle.strip_journal.specs.declared.entry.Entry.{Entry}
use Rattle.strip_journal.specs.declared.entry.Hits.{Hits}
use Rattle.strip_journal.specs.Entries.{no_hits}

-- the hits of a number: none of 0, and of n the n-th of a list
abbrev pub hits_at : List Hits → ℕ → Hits
hits_at hits number = slice_index_or (no_hits ∷ hits) number no_hits

-- a kept entry with its hits
abbrev pub whole_entry : List Hits → KeptEntry → Entry
whole_entry hits kept = record {
  edit = kept.edit;
  from = kept.from;
  to = kept.to;
  is_undo = kept.is_undo;
  hits = hits_at hits kept.hits;
  removed = kept.removed;
  possible = kept.possible;
}

abbrev pub whole_entries : List Hits → List KeptEntry → List Entry
whole_entries hits kept = map (whole_entry hits) kept

abbrev pub no_kept : KeptEntry
no_kept = record { edit = 0; from = 0; to = 0; removed = 0; possible = 0; hits = 0; is_undo = false }

-- each number is that of hits in the list, or 0
abbrev pub NameHits : List Hits → List KeptEntry → Type 0
NameHits hits kept = (i : ℕ) → i < length kept → (slice_index_or kept i no_kept).hits ≤ length hits

-- for how many hits more there is room and there are numbers of 32 bits
abbrev pub hits_room : ℕ → List Hits → ℕ
hits_room spare hits = min spare (2 ^ 32 - 1 - length hits)

-- each number of a list means the same hits in another
pub record StillNames (before after : List Hits) : Type 0 where
  pub many : length before ≤ length after
  pub same : (number : ℕ) → number ≤ length before → hits_at after number ≡ hits_at before number
