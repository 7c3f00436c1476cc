-- A set that is tracked from version to version: one edit more, and versions between which there is no entry.
use Rattle.std.proofs.Common.{◌≡◌, ℕ, zero, suc, ◌+◌, ◌<◌, ◌≤◌, Bool, List, [], ◌∷◌, ◌++◌, length, arith, sym, ap, ◌∙◌, subst}
use Rattle.std.proofs.lemmas.List.{length_push}
use native.Mathlib.Decide.{dec_le}
use mathlib.Core.Logic.{dite}
use Rattle.strip_marks.specs.declared.change.WordChange.{WordChange}
use Rattle.strip_marks.specs.Marks.{among}
use Rattle.strip_journal.specs.declared.entry.Entry.{Entry}
use Rattle.strip_journal.specs.Entries.{AreEntries, HasNo, IsToggled, changes_of, entry_at}
use Rattle.strip_journal.specs.Journals.{MatchesEntries}
use Rattle.strip_journal.proofs.Noting.{changes_still, entry_new, entry_still, none_before, not_noted}

-- of the same number of rays
pub tracked_rays : (of : ℕ → ℕ → ℕ → Bool) (pick : WordChange → ℕ) (rays others : ℕ) (points : ℕ → ℕ) (changes : List WordChange)
    (entries : List Entry) (done : ℕ) → others ≡ rays → MatchesEntries of pick rays points changes entries done
    → MatchesEntries of pick others points changes entries done
tracked_rays of pick rays others points changes entries done many tracked =
    subst (λ (r : ℕ). MatchesEntries of pick r points changes entries done) (sym many) tracked

-- an entry leads from the version before its edit to the one after it, at a point
abbrev pub Turns : (ℕ → ℕ → ℕ → Bool) → (WordChange → ℕ) → List WordChange → Entry → ℕ → ℕ → Type 0
Turns of pick changes e n l =
    IsToggled e.is_undo (of e.edit n l) (of (e.edit + 1) n l) (among pick (changes_of changes e) n l)

-- the entries that were there do so still
turned_still : (of : ℕ → ℕ → ℕ → Bool) (pick : WordChange → ℕ) (changes more : List WordChange) (entries : List Entry) (done i n l : ℕ)
    → AreEntries entries (length changes) done → i < length entries → Turns of pick changes (entry_at entries i) n l
    → Turns of pick (changes ++ more) (entry_at entries i) n l
turned_still of pick changes more entries done i n l kept low old =
    let e = entry_at entries i in
    subst (λ (c : List WordChange). IsToggled e.is_undo (of e.edit n l) (of (e.edit + 1) n l) (among pick c n l))
    (sym (changes_still changes more entries done i kept low)) old

-- one edit more, with an entry, whose changes may be new ones
pub tracked_noted : (of : ℕ → ℕ → ℕ → Bool) (pick : WordChange → ℕ) (rays : ℕ) (points : ℕ → ℕ) (changes more : List WordChange)
    (entries : List Entry) (done : ℕ) (e : Entry) → AreEntries entries (length changes) done
    → MatchesEntries of pick rays points changes entries done → e.edit ≡ done
    → ((n l : ℕ) → n < rays → l < points n
    → IsToggled e.is_undo (of done n l) (of (done + 1) n l) (among pick (changes_of (changes ++ more) e) n l))
    → MatchesEntries of pick rays points (changes ++ more) (entries ++ e ∷ []) (done + 1)
tracked_noted of pick rays points changes more entries done e kept old is new = record {
  turned = λ i n l low ray point.
      dite (dec_le (length entries) i)
      (λ last.
      let here : length entries ≡ i = omega (arith, last, low, length_push entries e) in
      subst (λ (x : Entry). Turns of pick (changes ++ more) x n l) (sym (entry_new entries e i here))
      (subst (λ (v : ℕ). IsToggled e.is_undo (of v n l) (of (v + 1) n l) (among pick (changes_of (changes ++ more) e) n l)) (sym is)
      (new n l ray point)))
      (λ early.
      let before : i < length entries = omega (arith, early) in
      subst (λ (x : Entry). Turns of pick (changes ++ more) x n l) (sym (entry_still entries e i before))
      (turned_still of pick changes more entries done i n l kept before (old.turned i n l before ray point)));
  steady = λ v n l low none ray point.
      dite (dec_le done v)
      (λ last. absurd (not_noted entries e v (omega (arith, is, last, low)) none))
      (λ early. old.steady v n l (omega (arith, early)) (none_before entries e v none) ray point);
}

-- one edit more, without an entry, that changes nothing
pub tracked_unnoted : (of : ℕ → ℕ → ℕ → Bool) (pick : WordChange → ℕ) (rays : ℕ) (points : ℕ → ℕ) (changes more : List WordChange)
    (entries : List Entry) (done : ℕ) → AreEntries entries (length changes) done
    → MatchesEntries of pick rays points changes entries done → ((n l : ℕ) → n < rays → l < points n → of done n l ≡ of (done + 1) n l)
    → MatchesEntries of pick rays points (changes ++ more) entries (done + 1)
tracked_unnoted of pick rays points changes more entries done kept old same = record {
  turned = λ i n l low ray point. turned_still of pick changes more entries done i n l kept low (old.turned i n l low ray point);
  steady = λ v n l low none ray point.
      dite (dec_le done v)
      (λ last.
      let here : done ≡ v = omega (arith, last, low) in subst (λ (w : ℕ). of w n l ≡ of (w + 1) n l) here (same n l ray point))
      (λ early. old.steady v n l (omega (arith, early)) none ray point);
}

-- versions between which no edit has an entry have the same sets
pub gap : (of : ℕ → ℕ → ℕ → Bool) (pick : WordChange → ℕ) (rays : ℕ) (points : ℕ → ℕ) (changes : List WordChange) (entries : List Entry)
    (done a b n l : ℕ) → MatchesEntries of pick rays points changes entries done → a ≤ b → b ≤ done
    → ((v : ℕ) → a ≤ v → v < b → HasNo entries v) → n < rays → l < points n → of a n l ≡ of b n l
gap of pick rays points changes entries done a zero n l tracked order within none ray point =
    let same : a ≡ 0 = omega (arith, order) in ap (λ v. of v n l) same
gap of pick rays points changes entries done a (suc b) n l tracked order within none ray point =
    dite (dec_le a b)
    (λ early.
    let more : b + 1 ≡ suc b = omega arith in
    gap of pick rays points changes entries done a b n l tracked early (omega (arith, within))
    (λ v from below. none v from (omega (arith, below))) ray point
    ∙ tracked.steady b n l (omega (arith, within)) (none b early (omega arith)) ray point
    ∙ ap (λ v. of v n l) more)
    (λ late. let same : a ≡ suc b = omega (arith, late, order) in ap (λ v. of v n l) same)
