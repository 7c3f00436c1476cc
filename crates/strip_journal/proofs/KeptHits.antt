-- Entries as they are kept, and the whole ones that they are seen as: what is read of them, and what one more makes of them.
use Rattle.std.proofs.Common.{◌≡◌, ℕ, suc, ◌<◌, ◌≤◌, true, false, ltb, List, [], ◌∷◌, ◌++◌, length, slice_index_or, arith, refl, sym, ap, ◌∙◌}
use Rattle.std.specs.List.Sorted.{IsPartitionedBy, IsPartitionPoint}
use Rattle.std.proofs.Math.ListN.{get_or-map}
use Rattle.std.proofs.lemmas.Bool.{ltb-false, ltb-true}
use Rattle.std.proofs.lemmas.List.{get_or_append_left, get_or_default, get_or_push, length-map, length_push, map-append}
use Rattle.std.proofs.lemmas.List.Sorted.{IsNonDecreasingBy-from_default, IsPartitionedBy-ltb}
use native.Mathlib.Decide.{dec_le}
use mathlib.Core.Logic.{dite}
use Rattle.strip_journal.specs.declared.entries.KeptEntry.{KeptEntry}
use Rattle.strip_journal.specs.declared.entry.Entry.{Entry}
use Rattle.strip_journal.specs.declared.entry.Hits.{Hits}
use Rattle.strip_journal.specs.Entries.{AreAscending, IsFirstEntryFrom, edit_at, entry_at}
use Rattle.strip_journal.specs.Kept.{NameHits, StillNames, no_kept, whole_entries, whole_entry}

-- the entry at a place is the kept one with its hits
pub whole_at : (hits : List Hits) (kept : List KeptEntry) (i : ℕ) → entry_at (whole_entries hits kept) i
    ≡ whole_entry hits (slice_index_or kept i no_kept)
whole_at hits kept i = get_or-map (whole_entry hits) kept i no_kept

pub edit_kept : (hits : List Hits) (kept : List KeptEntry) (i : ℕ) → edit_at (whole_entries hits kept) i
    ≡ (slice_index_or kept i no_kept).edit
edit_kept hits kept i = ap (λ (e : Entry). e.edit) (whole_at hits kept i)

-- entries whose hits are named are the same ones by a list that still names them
pub whole_still : (before after : List Hits) (kept : List KeptEntry) → StillNames before after → NameHits before kept
    → whole_entries after kept ≡ whole_entries before kept
whole_still before after [] still named = refl
whole_still before after (k ∷ kept) still named =
    let first : whole_entry after k ≡ whole_entry before k =
    let is = still.same k.hits (named 0 (omega arith)) in λ i. record {
      edit = k.edit;
      from = k.from;
      to = k.to;
      is_undo = k.is_undo;
      hits = is i;
      removed = k.removed;
      possible = k.possible;
    } in
    let rest = whole_still before after kept still (λ i low. named (suc i) (omega (arith, low))) in λ i. first i ∷ rest i

-- with an entry more
pub whole_pushed : (before after : List Hits) (kept : List KeptEntry) (k : KeptEntry) (entry : Entry) → StillNames before after
    → NameHits before kept → whole_entry after k ≡ entry
    → whole_entries after (kept ++ k ∷ []) ≡ whole_entries before kept ++ entry ∷ []
whole_pushed before after kept k entry still named is =
    map-append (whole_entry after) kept (k ∷ []) ∙ (λ i. whole_still before after kept still named i ++ is i ∷ [])

pub named_pushed : (before after : List Hits) (kept : List KeptEntry) (k : KeptEntry) → StillNames before after → NameHits before kept
    → k.hits ≤ length after → NameHits after (kept ++ k ∷ [])
named_pushed before after kept k still named within = λ i low.
    let size = length_push kept k in
    let many = still.many in
    dite (dec_le (length kept) i)
    (λ from.
    let last = ap (λ (e : KeptEntry). e.hits) (get_or_push kept k no_kept i (omega (arith, from, low, size))) in
    omega (arith, last, within))
    (λ ahead.
    let less : i < length kept = omega (arith, ahead) in
    let own = ap (λ (e : KeptEntry). e.hits) (get_or_append_left kept (k ∷ []) no_kept i less) in
    let old = named i less in omega (arith, own, old, many))

-- kept entries whose edits ascend are split by a version
pub kept_parted : (hits : List Hits) (kept : List KeptEntry) (version : ℕ) → AreAscending (whole_entries hits kept)
    → IsPartitionedBy (λ entry. ltb entry.edit version) kept
kept_parted hits kept version ascend =
    IsPartitionedBy-ltb (λ (entry : KeptEntry). entry.edit) kept version
    (IsNonDecreasingBy-from_default (λ (entry : KeptEntry). entry.edit) kept no_kept
    (λ i k up few.
    dite (dec_le k i)
    (λ same.
    let is : (slice_index_or kept i no_kept).edit ≡ (slice_index_or kept k no_kept).edit =
    let e : i ≡ k = omega (arith, up, same) in ap (λ n. (slice_index_or kept n no_kept).edit) e in
    omega (arith, is))
    (λ later.
    let size = length-map kept (whole_entry hits) in
    let order = ascend.each i k (omega (arith, later)) (omega (arith, few, size)) in
    let low = edit_kept hits kept i in let high = edit_kept hits kept k in omega (arith, order, low, high))))

-- where they are split is the place of the version
pub kept_place : (hits : List Hits) (kept : List KeptEntry) (version place : ℕ) → place ≤ length kept
    → IsPartitionPoint (λ entry. ltb entry.edit version ≡ true) (λ entry. ltb entry.edit version ≡ false) kept place
    → IsFirstEntryFrom (whole_entries hits kept) version place
kept_place hits kept version place within point =
    let size = length-map kept (whole_entry hits) in
    record {
      within = omega (arith, within, size);
      ahead = λ i low.
          let is = edit_kept hits kept i in
          let below = ltb-true (slice_index_or kept i no_kept).edit version (point.0 i no_kept (omega arith) low) in
          omega (arith, is, below);
      behind = λ i from few.
          let is = edit_kept hits kept i in
          let above = ltb-false (slice_index_or kept i no_kept).edit version (point.1 i no_kept from (omega (arith, few, size))) in
          omega (arith, is, above);
    }

-- no entry names hits
pub none_named : (hits : List Hits) (kept : List KeptEntry) → kept ≡ [] → NameHits hits kept
none_named hits kept is = λ i low. let size = ap (λ (l : List KeptEntry). length l) is in absurd (omega (arith, low, size))

-- entries that are seen as a list of whole ones
module _ (hits : List Hits) (kept : List KeptEntry) (entries : List Entry) (seen : whole_entries hits kept ≡ entries) where
  pub seen_length : length entries ≡ length kept
  seen_length = sym (ap (λ (l : List Entry). length l) seen) ∙ length-map kept (whole_entry hits)

  -- the kept one that is read
  pub seen_kept : (place : ℕ) (read : KeptEntry) → place < length entries → read ≡ slice_index_or kept place read
      → read ≡ slice_index_or kept place no_kept
  seen_kept place read low is =
      let size = seen_length in is ∙ get_or_default kept place read no_kept (omega (arith, low, size))

  pub seen_within : (place : ℕ) (read : KeptEntry) → NameHits hits kept → place < length entries → read ≡ slice_index_or kept place read
      → read.hits ≤ length hits
  seen_within place read named low is =
      let size = seen_length in
      let same = ap (λ (k : KeptEntry). k.hits) (seen_kept place read low is) in
      let within = named place (omega (arith, low, size)) in omega (arith, same, within)

  pub seen_edit : (place : ℕ) (read : KeptEntry) → place < length entries → read ≡ slice_index_or kept place read
      → read.edit ≡ edit_at entries place
  seen_edit place read low is =
      ap (λ (k : KeptEntry). k.edit) (seen_kept place read low is)
      ∙ sym (edit_kept hits kept place)
      ∙ ap (λ (l : List Entry). edit_at l place) seen

  pub seen_entry : (place : ℕ) (read : KeptEntry) → place < length entries → read ≡ slice_index_or kept place read
      → whole_entry hits read ≡ entry_at entries place
  seen_entry place read low is =
      ap (whole_entry hits) (seen_kept place read low is)
      ∙ sym (whole_at hits kept place)
      ∙ ap (λ (l : List Entry). entry_at l place) seen
