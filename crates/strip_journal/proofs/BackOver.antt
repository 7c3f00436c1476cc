-- What going back over the entries of a journal needs, and what it makes of it.
use Rattle.std.proofs.Common.{◌≡◌, ℕ, ◌+◌, ◌-◌, ◌<◌, ◌≤◌, true, List, length, slice_index, arith, refl, sym, ap, ◌∙◌, subst}
use native.Mathlib.Decide.{dec_le}
use mathlib.Core.Logic.{dite}
use Rattle.vf_spans.specs.Edges.{Ascends}
use Rattle.ray_words.specs.Rays.{KeptSets}
use Rattle.strip_journal.specs.declared.entry.Entry.{Entry}
use Rattle.strip_journal.specs.declared.journal.Journal.{Journal}
use Rattle.strip_journal.specs.Entries.{changes_of, edit_at, entry_at}
use Rattle.strip_journal.specs.Journals.{job_of}
use Rattle.strip_journal.specs.LookedBack.{IsBackAt}
use Rattle.strip_journal.specs.Steps.{AreRaysTurned, HasSameEdits}
use Rattle.strip_journal.proofs.GoneBack.{back_in, gone_of, none_from, passed_over, reached, taken_back}
use Rattle.strip_journal.proofs.KeptParts.{parts_of}
use Rattle.strip_journal.proofs.KeptSame.{same_edits_through}
use Rattle.strip_journal.proofs.LeftPlaces.{left_few, line_ascends}
use Rattle.strip_journal.proofs.Looked.{IsEntryOf, entry_of_journal}

-- the line ascends, and has the edits of all moves before the place
pub record CanGoBack (j : Journal) (left : ℕ) : Type 0 where
  pub within : left ≤ length j.line
  pub ascends : Ascends j.line

pub can_go : (j : Journal) (place left : ℕ) → IsBackAt j place left → CanGoBack j left
can_go j place left b =
    let few = left_few (record j { rays = b.newest }) b.journal in
    let within = b.within in
    record { within = omega (arith, few, within); ascends = line_ascends (record j { rays = b.newest }) b.journal }

pub entry_back : (j : Journal) (place left : ℕ) (entry : Entry) → IsBackAt j (place + 1) left → entry ≡ entry_at j.entries.items place
    → IsEntryOf j entry
entry_back j place left entry b read =
    let few = b.few in
    let one = entry_of_journal (record j { rays = b.newest }) place entry b.journal (omega (arith, few)) read in
    record { order = one.order; within = one.within; sorted = one.sorted }

-- an entry that is of none of the moves
pub none_back : (j : Journal) (place left edit : ℕ) → IsBackAt j (place + 1) left → edit ≡ edit_at j.entries.items place
    → ((m : ℕ) → m < left → slice_index j.line m ≡ edit → ⊥) → IsBackAt j place left
none_back j place left edit b read none =
    back_in j place left
    (passed_over (job_of j) (parts_of j) place left (gone_of j (place + 1) left b) (λ m low is. none m low (is ∙ sym read)))

-- an entry that is of one of them
pub some_back : (j : Journal) (place left k : ℕ) (entry : Entry) (after : List KeptSets) → IsBackAt j (place + 1) left
    → entry ≡ entry_at j.entries.items place → k < left → slice_index j.line k ≡ entry.edit
    → AreRaysTurned j.rays after (changes_of j.changes.items entry) true → IsBackAt (record j { rays = after }) place k
some_back j place left k entry after b read low is turned =
    back_in (record j { rays = after }) place k
    (taken_back (job_of j) (parts_of j) place left k after (gone_of j (place + 1) left b) low (is ∙ ap (λ (e : Entry). e.edit) read)
    (subst (λ (e : Entry). AreRaysTurned j.rays after (changes_of j.changes.items e) true) read turned))

-- an edit of the line up to that of the entry is before it or the same
pub some_before : (j : Journal) (place left k m edit : ℕ) → IsBackAt j (place + 1) left → edit ≡ edit_at j.entries.items place
    → slice_index j.line k ≡ edit → m < length j.line → slice_index j.line m ≤ edit_at j.entries.items place → m ≤ k
some_before j place left k m edit b read is low early =
    dite (dec_le m k) (λ up. up)
    (λ more.
    let order = (can_go j (place + 1) left b).ascends k m (omega (arith, more)) low in
    absurd (omega (arith, order, early, is, read)))

-- the walk from one place to another: it is at a place that is not before that other
pub record IsGoingBack (j k : Journal) (place here left : ℕ) : Type 0 where
  pub back : IsBackAt k place here
  pub edits : HasSameEdits j k
  pub order : left ≤ here

-- a journal has its own edits
pub own_edits : (j : Journal) → HasSameEdits j j
own_edits j = record {
  strip = record { job = refl; number = refl; of = refl };
  changes = refl;
  entries = refl;
  line = refl;
  at = refl;
  done = refl;
}

-- it begins where it is
pub going_start : (j : Journal) (place at left : ℕ) → IsBackAt j place at → left ≤ at → IsGoingBack j j place at left
going_start j place at left b order = record { back = b; edits = own_edits j; order = order }

-- it may go back over the entry before its place
pub going_may : (j k : Journal) (place here left : ℕ) → IsGoingBack j k place here left → 0 < place → IsBackAt k (place - 1 + 1) here
going_may j k place here left going some =
    let is : place - 1 + 1 ≡ place = omega (arith, some) in subst (λ (p : ℕ). IsBackAt k p here) (sym is) going.back

-- and stays on the way
pub going_on : (j k m : Journal) (place here next left : ℕ) → IsGoingBack j k place here left → HasSameEdits k m
    → IsBackAt m (place - 1) next → left < length j.line → slice_index j.line left ≤ edit_at k.entries.items (place - 1)
    → ((i : ℕ) → i ≤ here → i < length k.line → slice_index k.line i ≤ edit_at k.entries.items (place - 1) → i ≤ next)
    → IsGoingBack j m (place - 1) next left
going_on j k m place here next left going same back low early before = record {
  back = back;
  edits = same_edits_through j k m going.edits same;
  order =
      let line = going.edits.line in
      before left going.order (subst (λ (l : List ℕ). left < length l) (sym line) low)
      (subst (λ (l : List ℕ). slice_index l left ≤ edit_at k.entries.items (place - 1)) (sym line) early);
}

-- it ends where no entry is left, or the next is of an earlier edit
pub going_end : (j k : Journal) (place here left : ℕ) → IsGoingBack j k place here left
    → (0 < place → edit_at k.entries.items (place - 1) < slice_index j.line left) → IsBackAt k place left
going_end j k place here left going last =
    let g = gone_of k place here going.back in
    let line = going.edits.line in
    back_in k place left
    (reached (job_of k) (parts_of k) place here left g going.order
    (λ i from few.
    none_from (job_of k) (parts_of k) place here left i g
    (subst (λ (l : List ℕ). 0 < place → edit_at k.entries.items (place - 1) < slice_index l left) (sym line) last) from few))
