-- An Undo where no move is left, and a Redo where none is dropped, change nothing.
use Rattle.std.proofs.Common.{◌≡◌, ◌+◌, ◌<◌, ◌≤◌, length, slice_get, Some, sym, ap, ◌∙◌, subst}
use Rattle.std.proofs.lemmas.Option.{slice_get_within}
use Rattle.edit_plan.specs.declared.edit.Edit.TheVariants.{Redo, Undo}
use Rattle.edit_plan.specs.Edits.{left_at}
use Rattle.edit_history.specs.Histories.{History, history_at}
use Rattle.edit_history.proofs.HistorySteps.{history_redo_none, history_undo_none, left_redo_none, left_undo_none}
use Rattle.job_model.specs.Tasks.{Job}
use Rattle.strip_journal.specs.declared.journal.Journal.{Journal}
use Rattle.strip_journal.specs.Journals.{IsJournal, job_of}
use Rattle.strip_journal.specs.Steps.{IsMovedTo}
use Rattle.strip_journal.proofs.KeptParts.{IsHeld, Parts, held_of, journal_by, parts_of}
use Rattle.strip_journal.proofs.MovesLeft.{possible_same, sure_same}
use Rattle.strip_journal.proofs.NextEdit.{still_held}

-- an edit that leaves the line and the moves that are left
unmoved_held : (job : Job) (p : Parts) → IsHeld job p → p.done < length job.plan.edits
    → history_at job.plan.edits (p.done + 1) ≡ history_at job.plan.edits p.done
    → left_at job.plan.edits (p.done + 1) ≡ left_at job.plan.edits p.done
    → IsHeld job (record p { done = p.done + 1 })
unmoved_held job p h within line left =
    still_held job p p.at h (record { within = within; line = h.line ∙ sym line })
    (record {
      sure = λ n l ray point. sure_same job p.number p.done (p.done + 1) n l (sym left);
      possible = λ n l ray point. possible_same job p.number p.done (p.done + 1) n l (sym left);
    })

unmoved_journal : (j l : Journal) → IsJournal (job_of j) j → j.done < length (job_of j).plan.edits
    → history_at (job_of j).plan.edits (j.done + 1) ≡ history_at (job_of j).plan.edits j.done
    → left_at (job_of j).plan.edits (j.done + 1) ≡ left_at (job_of j).plan.edits j.done
    → IsMovedTo j l j.at (j.done + 1) → IsJournal (job_of l) l
unmoved_journal j l h within line left moved =
    let p = parts_of j in
    let q : Parts = record p { done = p.done + 1 } in
    let holds : parts_of l ≡ q = λ i. record {
      number = moved.strip.number i;
      of = moved.strip.of i;
      rays = moved.rays i;
      changes = moved.changes i;
      entries = moved.entries i;
      line = moved.line i;
      at = moved.at_is i;
      done = moved.done_is i;
    } in
    journal_by (job_of j) l q moved.strip.job holds (unmoved_held (job_of j) p (held_of (job_of j) j h) within line left)

-- the journal after an Undo where no move is left
pub undo_none_journal : (j l : Journal) → IsJournal (job_of j) j → slice_get (job_of j).plan.edits j.done ≡ Some Undo → j.at ≡ 0
    → IsMovedTo j l j.at (j.done + 1) → IsJournal (job_of l) l
undo_none_journal j l h e none moved =
    let edits = (job_of j).plan.edits in
    let at : (history_at edits j.done).at ≡ 0 = ap (λ (line : History). line.at) (sym h.line) ∙ none in
    unmoved_journal j l h (slice_get_within edits j.done Undo e) (history_undo_none edits j.done e at) (left_undo_none edits j.done e at) moved

-- and after a Redo where none is dropped
pub redo_none_journal : (j l : Journal) → IsJournal (job_of j) j → slice_get (job_of j).plan.edits j.done ≡ Some Redo
    → length j.line ≤ j.at → IsMovedTo j l j.at (j.done + 1) → IsJournal (job_of l) l
redo_none_journal j l h e none moved =
    let edits = (job_of j).plan.edits in
    let at : length (history_at edits j.done).numbers ≤ (history_at edits j.done).at =
    subst (λ (line : History). length line.numbers ≤ line.at) h.line none in
    unmoved_journal j l h (slice_get_within edits j.done Redo e) (history_redo_none edits j.done e at) (left_redo_none edits j.done e at) moved
