-- The entries with one more, or with the same ones, after one edit more.
use Rattle.std.proofs.Common.{◌≡◌, ℕ, ◌+◌, ◌<◌, ◌≤◌, List, [], ◌∷◌, ◌++◌, length, arith, sym, ap, subst}
use Rattle.std.proofs.lemmas.List.{length_push}
use native.Mathlib.Decide.{dec_le}
use mathlib.Core.Logic.{dite}
use Rattle.job_model.specs.Tasks.{Job}
use Rattle.strip_marks.specs.declared.change.WordChange.{WordChange}
use Rattle.strip_marks.specs.Marks.{AreInOrder}
use Rattle.strip_journal.specs.declared.entry.Entry.{Entry}
use Rattle.strip_journal.specs.Entries.{AreEntries, changes_of, entry_at}
use Rattle.strip_journal.specs.Journals.{HaveTotals}
use Rattle.strip_journal.proofs.Ahead.{possible_by, removed_by}
use Rattle.strip_journal.proofs.Noting.{changes_still, entry_new, entry_still}

-- what holds of each entry, and of a new one, holds of each of the longer list
pub each_entry : (P : Entry → Type 0) (entries : List Entry) (e : Entry) → ((i : ℕ) → i < length entries → P (entry_at entries i)) → P e
    → (i : ℕ) → i < length (entries ++ e ∷ []) → P (entry_at (entries ++ e ∷ []) i)
each_entry P entries e old new i low =
    dite (dec_le (length entries) i)
    (λ last.
    let here : length entries ≡ i = omega (arith, last, low, length_push entries e) in
    subst P (sym (entry_new entries e i here)) new)
    (λ early.
    let before : i < length entries = omega (arith, early) in
    subst P (sym (entry_still entries e i before)) (old i before))

-- an entry of an edit that is done, whose changes are among the first `many`
pub record IsEntry (many done : ℕ) (e : Entry) : Type 0 where
  pub early : e.edit < done
  pub order : e.from ≤ e.to
  pub within : e.to ≤ many

-- the entries stay so after one edit more, among more changes
pub kept_unnoted : (entries : List Entry) (changes more done : ℕ) → changes ≤ more → AreEntries entries changes done
    → AreEntries entries more (done + 1)
kept_unnoted entries changes more done order kept = record {
  ascend = kept.ascend;
  early = λ i low. let old = kept.early i low in omega (arith, old);
  order = kept.order;
  within = λ i low. let old = kept.within i low in omega (arith, old, order);
}

-- and so they do with its entry
pub kept_noted : (entries : List Entry) (changes more done : ℕ) (e : Entry) → changes ≤ more → AreEntries entries changes done
    → e.edit ≡ done → e.from ≤ e.to → e.to ≤ more → AreEntries (entries ++ e ∷ []) more (done + 1)
kept_noted entries changes more done e few kept is order within =
    let all : (i : ℕ) → i < length (entries ++ e ∷ []) → IsEntry more (done + 1) (entry_at (entries ++ e ∷ []) i) =
    each_entry (IsEntry more (done + 1)) entries e
    (λ i low.
    let old = kept.early i low in
    let end = kept.within i low in
    record { early = omega (arith, old); order = kept.order i low; within = omega (arith, end, few) })
    (record { early = omega (arith, is); order = order; within = within }) in
    record {
      ascend = record {
        each = λ i k before low.
            dite (dec_le (length entries) k)
            (λ last.
            let here : length entries ≡ k = omega (arith, last, low, length_push entries e) in
            let new = ap (λ (x : Entry). x.edit) (entry_new entries e k here) in
            let first : i < length entries = omega (arith, before, here) in
            let old = ap (λ (x : Entry). x.edit) (entry_still entries e i first) in
            let early = kept.early i first in omega (arith, new, old, early, is))
            (λ no.
            let second : k < length entries = omega (arith, no) in
            let first : i < length entries = omega (arith, before, second) in
            let new = ap (λ (x : Entry). x.edit) (entry_still entries e k second) in
            let old = ap (λ (x : Entry). x.edit) (entry_still entries e i first) in
            let ascend = kept.ascend.each i k before second in omega (arith, new, old, ascend));
      };
      early = λ i low. (all i low).early;
      order = λ i low. (all i low).order;
      within = λ i low. (all i low).within;
    }

-- the changes of each entry stay in order when changes are added
pub sorted_unnoted : (changes more : List WordChange) (entries : List Entry) (done : ℕ) → AreEntries entries (length changes) done
    → ((i : ℕ) → i < length entries → AreInOrder (changes_of changes (entry_at entries i))) → (i : ℕ) → i < length entries
    → AreInOrder (changes_of (changes ++ more) (entry_at entries i))
sorted_unnoted changes more entries done kept sorted i low =
    subst (λ (c : List WordChange). AreInOrder c) (sym (changes_still changes more entries done i kept low)) (sorted i low)

-- and with an entry whose changes are
pub sorted_noted : (changes more : List WordChange) (entries : List Entry) (done : ℕ) (e : Entry) → AreEntries entries (length changes) done
    → ((i : ℕ) → i < length entries → AreInOrder (changes_of changes (entry_at entries i))) → AreInOrder (changes_of (changes ++ more) e)
    → (i : ℕ) → i < length (entries ++ e ∷ []) → AreInOrder (changes_of (changes ++ more) (entry_at (entries ++ e ∷ []) i))
sorted_noted changes more entries done e kept sorted new i low =
    each_entry (λ x. AreInOrder (changes_of (changes ++ more) x)) entries e (sorted_unnoted changes more entries done kept sorted) new i low

-- the entries have their totals with one that has its own
pub totals_noted : (job : Job) (strip : ℕ) (entries : List Entry) (e : Entry) → HaveTotals job strip entries
    → e.removed ≡ removed_by job strip (e.edit + 1) → e.possible ≡ possible_by job strip (e.edit + 1)
    → HaveTotals job strip (entries ++ e ∷ [])
totals_noted job strip entries e totals removed possible = record {
  removed = each_entry (λ x. x.removed ≡ removed_by job strip (x.edit + 1)) entries e totals.removed removed;
  possible = each_entry (λ x. x.possible ≡ possible_by job strip (x.edit + 1)) entries e totals.possible possible;
}
