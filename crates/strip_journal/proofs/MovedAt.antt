-- Journals at which only the place in the line, or nothing that a caller sees, is another.
use Rattle.std.proofs.Common.{◌≡◌, ℕ, ◌+◌, ◌<◌, Bool, List, Some, length, slice_get, arith, refl, sym, subst}
use Rattle.std.specs.Prelude.{Result, Ok, Err, OnErr, OnOk}
use Rattle.vf_io.specs.declared.answers.NoMemory.{NoMemory}
use mathlib.Core.Logic.{dite}
use native.Mathlib.Decide.{dec_le}
use Rattle.std.proofs.lemmas.Option.{slice_get_within}
use Rattle.edit_plan.specs.declared.edit.Edit.{Edit}
use Rattle.ray_words.specs.Rays.{KeptSets}
use Rattle.strip_marks.specs.Marks.{HaveSameSets}
use Rattle.strip_journal.specs.declared.journal.Journal.{Journal}
use Rattle.strip_journal.specs.declared.entry.Entry.{Entry}
use Rattle.strip_journal.specs.Entries.{AreAscending, edit_at}
use Rattle.strip_journal.specs.Journals.{IsAt, IsJournal, job_of}
use Rattle.strip_journal.specs.Steps.{CanStand, HasSameEdits, IsMovedTo, IsTurnedBy, IsTurnedFrom}
use Rattle.strip_journal.proofs.EnteredRoom.{same_at, stands_so}

-- what follows from a fact of an Ok
pub on_ok : (r : Result (Unit {0}) NoMemory) (P Q : Type 0) → (P → Q) → OnOk r P → OnOk r Q
on_ok (Ok u) P Q f p = f p
on_ok (Err e) P Q f p = tt

-- what follows from two facts of an Ok, and of an Err
pub on_ok_both : (r : Result (Unit {0}) NoMemory) (P Q R : Type 0) → (P → Q → R) → OnOk r P → OnOk r Q → OnOk r R
on_ok_both (Ok u) P Q R f p q = f p q
on_ok_both (Err e) P Q R f p q = tt

pub on_err_both : (r : Result (Unit {0}) NoMemory) (P Q R : Type 0) → (P → Q → R) → OnErr r P → OnErr r Q → OnErr r R
on_err_both (Ok u) P Q R f p q = tt
on_err_both (Err e) P Q R f p q = f p q

-- the same rays have the same sets
same_sets_of : (rays : List KeptSets) → HaveSameSets rays rays
same_sets_of rays = record { many = refl; sets = λ n low. refl; kept = λ n k low kept. kept }

-- nothing of the journal changed
pub unmoved_at : (j k : Journal) → IsJournal (job_of j) j → HasSameEdits j k → k.rays ≡ j.rays → IsAt j k j.done
unmoved_at j k h edits rays =
    same_at j k h (subst (λ (z : List KeptSets). HaveSameSets j.rays z) (sym rays) (same_sets_of j.rays)) edits

-- where an edit comes next there is a place for it
pub stands_next : (j : Journal) (edit : Edit) → IsJournal (job_of j) j → slice_get (job_of j).plan.edits j.done ≡ Some edit → CanStand j
stands_next j edit h next = stands_so j h (slice_get_within (job_of j).plan.edits j.done edit next)

-- the same with the number of edits done of the journal before
pub moved_on : (k l : Journal) (at done before : ℕ) → done ≡ before → IsMovedTo k l at (done + 1) → IsMovedTo k l at (before + 1)
moved_on k l at done before same moved = subst (λ d. IsMovedTo k l at (d + 1)) same moved

-- no two entries are of one edit
one_place : (entries : List Entry) (p q edit : ℕ) → AreAscending entries → p < length entries → q < length entries
    → edit_at entries p ≡ edit → edit_at entries q ≡ edit → q ≡ p
one_place entries p q edit ascend low low' is is' =
    dite (dec_le q p)
    (λ before.
    dite (dec_le p q) (λ same. omega (arith, before, same))
    (λ behind. let up = ascend.each q p (omega (arith, behind)) low in absurd (omega (arith, up, is, is'))))
    (λ behind. let up = ascend.each p q (omega (arith, behind)) low' in absurd (omega (arith, up, is, is')))

-- an edit was turned by its only entry
pub turned_from : (j k : Journal) (place source : ℕ) (is_undo : Bool) → AreAscending j.entries.items → place < length j.entries.items
    → edit_at j.entries.items place ≡ source → IsTurnedBy j k place is_undo → IsTurnedFrom j k source is_undo
turned_from j k place source is_undo ascend low is turned = record {
  by = λ other low' is'.
      subst (λ p. IsTurnedBy j k p is_undo) (sym (one_place j.entries.items place other source ascend low low' is is')) turned;
  none = λ has_no. absurd (has_no place low is);
}
