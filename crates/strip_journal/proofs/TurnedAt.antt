-- What an Undo and a Redo promise: the same strip, one edit on.
use Rattle.std.proofs.Common.{◌≡◌, ◌+◌, ◌-◌, ◌<◌, ◌≤◌, ℕ, Bool, true, false, length, slice_get, slice_index, Some, ◌∙◌, ⊎_elim}
use Rattle.edit_plan.specs.declared.edit.Edit.TheVariants.{Redo, Undo}
use Rattle.strip_journal.specs.declared.journal.Journal.{Journal}
use Rattle.strip_journal.specs.Entries.{HasNo}
use Rattle.strip_journal.specs.Journals.{IsAt, IsJournal, job_of}
use Rattle.strip_journal.specs.Steps.{IsMovedTo, IsSameStrip, IsTurnedFrom}
use Rattle.strip_journal.proofs.Turned.{IsAmong, look_for, redone_journal, undone_journal}
use Rattle.strip_journal.proofs.Unmoved.{redo_none_journal, undo_none_journal}

-- turned or not, it is the same strip
pub turned_strip : (j k : Journal) (u : ℕ) (is_undo : Bool) → IsTurnedFrom j k u is_undo → IsSameStrip j k
turned_strip j k u is_undo turned =
    ⊎_elim
    (λ (found : IsAmong j.entries.items u (length j.entries.items)). (turned.by found.place found.low found.is).strip)
    (λ (none : HasNo j.entries.items u). (turned.none none).0.strip)
    (look_for j.entries.items u (length j.entries.items))

-- a journal of the same strip that is elsewhere in the line
pub moved_at : (j k l : Journal) (at done : ℕ) → IsSameStrip j k → IsMovedTo k l at done → IsJournal (job_of l) l → IsAt j l done
moved_at j k l at done strip moved journal = record {
  journal = journal;
  job = moved.strip.job ∙ strip.job;
  number = moved.strip.number ∙ strip.number;
  done_is = moved.done_is;
}

-- an Undo
pub undone_at : (j k l : Journal) → IsJournal (job_of j) j → slice_get (job_of j).plan.edits j.done ≡ Some Undo → 0 < j.at
    → IsTurnedFrom j k (slice_index j.line (j.at - 1)) true → IsMovedTo k l (j.at - 1) (j.done + 1) → IsAt j l (j.done + 1)
undone_at j k l h e some turned moved =
    moved_at j k l _ _ (turned_strip j k _ true turned) moved (undone_journal j k l h e some turned moved)

pub undo_none_at : (j l : Journal) → IsJournal (job_of j) j → slice_get (job_of j).plan.edits j.done ≡ Some Undo → j.at ≡ 0
    → IsMovedTo j l j.at (j.done + 1) → IsAt j l (j.done + 1)
undo_none_at j l h e none moved = record {
  journal = undo_none_journal j l h e none moved;
  job = moved.strip.job;
  number = moved.strip.number;
  done_is = moved.done_is;
}

-- a Redo
pub redone_at : (j k l : Journal) → IsJournal (job_of j) j → slice_get (job_of j).plan.edits j.done ≡ Some Redo
    → j.at < length j.line → IsTurnedFrom j k (slice_index j.line j.at) false → IsMovedTo k l (j.at + 1) (j.done + 1)
    → IsAt j l (j.done + 1)
redone_at j k l h e some turned moved =
    moved_at j k l _ _ (turned_strip j k _ false turned) moved (redone_journal j k l h e some turned moved)

pub redo_none_at : (j l : Journal) → IsJournal (job_of j) j → slice_get (job_of j).plan.edits j.done ≡ Some Redo
    → length j.line ≤ j.at → IsMovedTo j l j.at (j.done + 1) → IsAt j l (j.done + 1)
redo_none_at j l h e none moved = record {
  journal = redo_none_journal j l h e none moved;
  job = moved.strip.job;
  number = moved.strip.number;
  done_is = moved.done_is;
}
