-- Entries with one more after them, of the edit that came next.
use Rattle.std.proofs.Common.{◌≡◌, ℕ, ◌+◌, ◌<◌, ◌≤◌, Bool, false, List, [], ◌∷◌, ◌++◌, length, slice_index, arith, sym, ap, subst}
use Rattle.std.proofs.lemmas.List.{append-nil, length_push}
use native.Mathlib.Decide.{dec_le}
use mathlib.Core.Logic.{dite}
use Rattle.job_model.specs.Points.{left_moves, strip_points, totals_over}
use Rattle.job_model.specs.Tasks.{Job}
use Rattle.strip_marks.specs.declared.change.WordChange.{WordChange}
use Rattle.strip_marks.specs.Marks.{among}
use Rattle.strip_journal.specs.declared.entry.Entry.{Entry}
use Rattle.strip_journal.specs.Entries.{AreAscending, AreEntries, IsToggled, changes_of, edit_at, entry_at, hits_of}
use Rattle.strip_journal.specs.Journals.{AreFound, HaveTotals, MatchesEntries, found_at}
use Rattle.strip_journal.proofs.Noting.{entry_new, entry_still, none_before}
use Rattle.strip_journal.proofs.Tracking.{tracked_noted, tracked_unnoted}

-- what holds of each entry and of the new one holds of each
pub each_pushed : (P : Entry → Type 0) (entries : List Entry) (e : Entry)
    → ((i : ℕ) → i < length entries → P (entry_at entries i)) → P e
    → (i : ℕ) → i < length (entries ++ e ∷ []) → P (entry_at (entries ++ e ∷ []) i)
each_pushed P entries e old new i low =
    dite (dec_le (length entries) i)
    (λ last.
    let here : length entries ≡ i = omega (arith, last, low, length_push entries e) in
    subst P (sym (entry_new entries e i here)) new)
    (λ early.
    let few : i < length entries = omega (arith, early) in
    subst P (sym (entry_still entries e i few)) (old i few))

ascending_pushed : (entries : List Entry) (e : Entry) → AreAscending entries
    → ((i : ℕ) → i < length entries → edit_at entries i < e.edit) → AreAscending (entries ++ e ∷ [])
ascending_pushed entries e ascend early = record {
  each = λ i k before low.
      let size = length_push entries e in
      let first = ap (λ (x : Entry). x.edit) (entry_still entries e i (omega (arith, before, low, size))) in
      dite (dec_le (length entries) k)
      (λ last.
      let here = ap (λ (x : Entry). x.edit) (entry_new entries e k (omega (arith, last, low, size))) in
      let old = early i (omega (arith, before, low, size)) in omega (arith, first, here, old))
      (λ ahead.
      let here = ap (λ (x : Entry). x.edit) (entry_still entries e k (omega (arith, ahead))) in
      let old = ascend.each i k before (omega (arith, ahead)) in omega (arith, first, here, old));
}

-- entries in order stay so
pub entries_pushed : (entries : List Entry) (changes done : ℕ) (e : Entry) → AreEntries entries changes done
    → e.edit ≡ done → e.from ≤ e.to → e.to ≤ changes
    → AreEntries (entries ++ e ∷ []) changes (done + 1)
entries_pushed entries changes done e h is order within = record {
  ascend = ascending_pushed entries e h.ascend (λ i low. let old = h.early i low in omega (arith, old, is));
  early =
      each_pushed (λ (x : Entry). x.edit < done + 1) entries e (λ i low. let old = h.early i low in omega (arith, old))
      (omega (arith, is));
  order = each_pushed (λ (x : Entry). x.from ≤ x.to) entries e h.order order;
  within = each_pushed (λ (x : Entry). x.to ≤ changes) entries e h.within within;
}

-- a set is tracked on by an entry of the next edit whose changes are there
pub tracked_pushed : (of : ℕ → ℕ → ℕ → Bool) (pick : WordChange → ℕ) (rays : ℕ) (points : ℕ → ℕ) (changes : List WordChange)
    (entries : List Entry) (done : ℕ) (e : Entry) → AreEntries entries (length changes) done
    → MatchesEntries of pick rays points changes entries done → e.edit ≡ done
    → ((n l : ℕ) → n < rays → l < points n
    → IsToggled e.is_undo (of done n l) (of (done + 1) n l) (among pick (changes_of changes e) n l))
    → MatchesEntries of pick rays points changes (entries ++ e ∷ []) (done + 1)
tracked_pushed of pick rays points changes entries done e kept old is =
    subst
    (λ (c : List WordChange). ((n l : ℕ) → n < rays → l < points n
    → IsToggled e.is_undo (of done n l) (of (done + 1) n l) (among pick (changes_of c e) n l))
    → MatchesEntries of pick rays points c (entries ++ e ∷ []) (done + 1))
    (append-nil changes)
    (tracked_noted of pick rays points changes [] entries done e kept old is)

-- and without one by an edit that changes nothing
pub tracked_still : (of : ℕ → ℕ → ℕ → Bool) (pick : WordChange → ℕ) (rays : ℕ) (points : ℕ → ℕ) (changes : List WordChange)
    (entries : List Entry) (done : ℕ) → AreEntries entries (length changes) done
    → MatchesEntries of pick rays points changes entries done
    → ((n l : ℕ) → n < rays → l < points n → of done n l ≡ of (done + 1) n l)
    → MatchesEntries of pick rays points changes entries (done + 1)
tracked_still of pick rays points changes entries done kept old same =
    subst (λ (c : List WordChange). MatchesEntries of pick rays points c entries (done + 1)) (append-nil changes)
    (tracked_unnoted of pick rays points changes [] entries done kept old same)

-- the totals of each entry
pub totals_pushed : (job : Job) (strip : ℕ) (entries : List Entry) (e : Entry) → HaveTotals job strip entries
    → e.removed ≡ (totals_over job (strip_points job.plan.grid strip) (left_moves job.plan (e.edit + 1))).removed
    → e.possible ≡ (totals_over job (strip_points job.plan.grid strip) (left_moves job.plan (e.edit + 1))).possible
    → HaveTotals job strip (entries ++ e ∷ [])
totals_pushed job strip entries e h removed possible = record {
  removed =
      each_pushed
      (λ (x : Entry). x.removed ≡ (totals_over job (strip_points job.plan.grid strip) (left_moves job.plan (x.edit + 1))).removed)
      entries e h.removed removed;
  possible =
      each_pushed
      (λ (x : Entry). x.possible ≡ (totals_over job (strip_points job.plan.grid strip) (left_moves job.plan (x.edit + 1))).possible)
      entries e h.possible possible;
}

-- an entry of an edit after those of the line leaves what they found
pub found_pushed : (job : Job) (strip : ℕ) (line : List ℕ) (entries : List Entry) (e : Entry) → AreFound job strip line entries
    → ((k : ℕ) → k < length line → slice_index line k < e.edit)
    → AreFound job strip line (entries ++ e ∷ [])
found_pushed job strip line entries e h behind = record {
  applies = λ k i low within is.
      each_pushed (λ (x : Entry). x.edit ≡ slice_index line k → x.is_undo ≡ false) entries e (λ m few. h.applies k m low few)
      (λ same. let below = behind k low in absurd (omega (arith, same, below))) i within is;
  hits = λ k i move low within is number.
      each_pushed (λ (x : Entry). x.edit ≡ slice_index line k → x.hits ≡ hits_of (found_at job strip (slice_index line k) move))
      entries e (λ m few same. h.hits k m move low few same number)
      (λ same. let below = behind k low in absurd (omega (arith, same, below))) i within is;
  none = λ k move low none number. h.none k move low (none_before entries e (slice_index line k) none) number;
}
