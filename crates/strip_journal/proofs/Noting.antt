-- A list of entries with one more, and the changes of its entries in a longer list of changes.
use Rattle.std.proofs.Common.{◌≡◌, ℕ, ◌+◌, ◌-◌, ◌<◌, ◌≤◌, List, [], ◌∷◌, ◌++◌, length, take, drop, slice_range, arith, refl, ap, ◌∙◌, length-drop}
use Rattle.std.proofs.lemmas.List.{drop-append-le, drop_at, get_or_append_left, get_or_push, length_push, take-append-le, take_all}
use Rattle.strip_marks.specs.declared.change.WordChange.{WordChange}
use Rattle.strip_journal.specs.declared.entry.Entry.{Entry}
use Rattle.strip_journal.specs.Entries.{AreEntries, HasNo, changes_of, entry_at, no_entry}

-- the entries that were there stay
pub entry_still : (entries : List Entry) (e : Entry) (i : ℕ) → i < length entries → entry_at (entries ++ e ∷ []) i ≡ entry_at entries i
entry_still entries e i low = get_or_append_left entries (e ∷ []) no_entry i low

-- the new one comes after them
pub entry_new : (entries : List Entry) (e : Entry) (i : ℕ) → length entries ≡ i → entry_at (entries ++ e ∷ []) i ≡ e
entry_new entries e i is = get_or_push entries e no_entry i is

-- an edit without an entry in the longer list has none in the shorter one
pub none_before : (entries : List Entry) (e : Entry) (v : ℕ) → HasNo (entries ++ e ∷ []) v → HasNo entries v
none_before entries e v none place low is =
    none place (omega (arith, low, length_push entries e)) (ap (λ (x : Entry). x.edit) (entry_still entries e place low) ∙ is)

-- and it isn't that of the new entry
pub not_noted : (entries : List Entry) (e : Entry) (v : ℕ) → e.edit ≡ v → HasNo (entries ++ e ∷ []) v → ⊥
not_noted entries e v is none =
    none (length entries) (omega (arith, length_push entries e))
    (ap (λ (x : Entry). x.edit) (entry_new entries e (length entries) refl) ∙ is)

-- what is in a list is in a longer one
pub range_still : {X : Type 0} (xs ys : List X) (from to : ℕ) → from ≤ to → to ≤ length xs
    → slice_range (xs ++ ys) from to ≡ slice_range xs from to
range_still xs ys from to order within =
    ap (λ l. take (to - from) l) (drop-append-le from xs ys (omega (arith, order, within)))
    ∙ take-append-le (to - from) (drop from xs) ys (omega (arith, order, within, length-drop from xs))

-- and what is added comes after it
pub range_new : {X : Type 0} (xs ys : List X) → slice_range (xs ++ ys) (length xs) (length xs + length ys) ≡ ys
range_new xs ys =
    ap (λ l. take (length xs + length ys - length xs) l) (drop_at xs ys (length xs) refl)
    ∙ take_all (length xs + length ys - length xs) ys (omega arith)

-- the changes of an entry stay when changes are added
pub changes_still : (changes more : List WordChange) (entries : List Entry) (done i : ℕ) → AreEntries entries (length changes) done
    → i < length entries → changes_of (changes ++ more) (entry_at entries i) ≡ changes_of changes (entry_at entries i)
changes_still changes more entries done i kept low =
    range_still changes more (entry_at entries i).from (entry_at entries i).to (kept.order i low) (kept.within i low)
