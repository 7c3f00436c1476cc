-- What a move that is applied finds, and the totals after it, fit; there is a place for its edit; and what `IsAt` says of the journal.
use Rattle.std.proofs.Common.{◌≡◌, ℕ, ◌+◌, ◌-◌, ◌^◌, ◌<◌, ◌≤◌, ◌&&◌, List, Some, length, slice_get, arith, sym, ap, ◌∙◌, subst}
use Rattle.std.proofs.lemmas.List.Sums.{count_by-le-length}
use Rattle.edit_history.specs.Histories.{History}
use Rattle.edit_history.proofs.HistoryOrder.{at_within, history_short}
use Rattle.edit_plan.specs.declared.edit.Edit.TheVariants.{Apply}
use Rattle.job_counts.specs.declared.counts.Counts.{Counts}
use Rattle.job_counts.specs.Counts.{AreWithin}
use Rattle.job_model.specs.Points.{is_stock, left_moves, some_possible, some_sure, strip_points}
use Rattle.job_model.specs.Tasks.{Job, JobMove}
use Rattle.strip_plan.specs.Plans.{HasNumber}
use Rattle.strip_marks.specs.declared.change.WordChange.{WordChange}
use Rattle.strip_marks.specs.Marks.{HaveSameSets, IsMarkedStrip}
use Rattle.strip_journal.specs.declared.entry.Entry.{Entry}
use Rattle.strip_journal.specs.declared.journal.Journal.{Journal}
use Rattle.strip_journal.specs.Entries.{possible_ahead, removed_ahead}
use Rattle.strip_journal.specs.Journals.{IsAt, IsJournal, found_at, job_of}
use Rattle.strip_journal.specs.Steps.{CanStand, FitsEntry, HasSameEdits, IsApplied}
use Rattle.strip_journal.proofs.Ahead.{possible_by, possible_totals_ahead_are, removed_by, totals_ahead_are}
use Rattle.strip_journal.proofs.Entered.{applied_journal, counts_are, named_move}
use Rattle.strip_journal.proofs.EnteredParts.{at_end, possible_step, removed_step}
use Rattle.strip_journal.proofs.KeptSame.{same_journal}
use Rattle.strip_journal.proofs.StripSizes.{found_few, points_few}

-- no total of a strip is above how many points it has
removed_few : (job : Job) (j : Journal) (version : ℕ) → IsJournal job j → removed_by job j.number version < 2 ^ 32
removed_few job j version h =
    let points = strip_points job.plan.grid j.number in
    let few = points_few job.plan.grid j.number h.grid h.strip in
    let within = count_by-le-length (λ p. is_stock job p && some_sure job.plan (left_moves job.plan version) p) points in
    omega (arith, few, within)

possible_few : (job : Job) (j : Journal) (version : ℕ) → IsJournal job j → possible_by job j.number version < 2 ^ 32
possible_few job j version h =
    let points = strip_points job.plan.grid j.number in
    let few = points_few job.plan.grid j.number h.grid h.strip in
    let within = count_by-le-length (λ p. is_stock job p && some_possible job.plan (left_moves job.plan version) p) points in
    omega (arith, few, within)

-- the move with the number fits
move_fits : (j : Journal) (number : ℕ) (move : JobMove) (counts : Counts) → IsJournal (job_of j) j
    → slice_get (job_of j).plan.edits j.done ≡ Some (Apply number) → HasNumber (job_of j).plan number move
    → counts ≡ found_at (job_of j) j.number j.done move → FitsEntry j counts
move_fits j number move counts h applies named found =
    let job = job_of j in
    let place = at_end j.entries.items (length j.changes.items) j.done h.kept in
    let ahead = totals_ahead_are j j.done (length j.entries.items) h place (omega arith) in
    let ahead_possible = possible_totals_ahead_are j j.done (length j.entries.items) h place (omega arith) in
    let step = removed_step job j.number j.done number move applies named in
    let step_possible = possible_step job j.number j.done number move applies named in
    let few = removed_few job j (j.done + 1) h in
    let few_possible = possible_few job j (j.done + 1) h in
    let removed : counts.removed ≡ (found_at job j.number j.done move).removed = ap (λ (c : Counts). c.removed) found in
    let possible : counts.possible ≡ (found_at job j.number j.done move).possible = ap (λ (c : Counts). c.possible) found in
    record {
      within =
          subst (λ (c : Counts). AreWithin (2 ^ 32 - 1) c) (sym found) (found_few job j.number j.done move h.grid h.strip);
      removed = omega (arith, ahead, step, few, removed);
      possible = omega (arith, ahead_possible, step_possible, few_possible, possible);
    }

-- so do the counts that were marked, for a journal with the same edits
pub fits_same : (j m : Journal) (counts : Counts) → HasSameEdits j m → FitsEntry j counts → FitsEntry m counts
fits_same j m counts edits fits = record {
  within = fits.within;
  removed = subst (λ (l : List Entry). removed_ahead l (length l) + counts.removed < 2 ^ 32) (sym edits.entries) fits.removed;
  possible = subst (λ (l : List Entry). possible_ahead l (length l) + counts.possible < 2 ^ 32) (sym edits.entries) fits.possible;
}

pub marked_fits : (j m : Journal) (number : ℕ) (changes : List WordChange) (counts : Counts) → IsJournal (job_of j) j
    → slice_get (job_of j).plan.edits j.done ≡ Some (Apply number) → number < length (job_of j).plan.moves → HasSameEdits j m
    → ((move : JobMove) → HasNumber (job_of j).plan number move
    → IsMarkedStrip (job_of j).plan move j.number j.rays m.rays changes counts)
    → FitsEntry m counts
marked_fits j m number changes counts h applies low edits marked =
    let found = named_move (job_of j).plan.moves number low in
    fits_same j m counts edits
    (move_fits j number found.0 counts h applies found.1 (counts_are (job_of j) j m found.0 changes counts h (marked found.0 found.1)))

-- there is a place for the edit
pub stands_so : (j : Journal) → IsJournal (job_of j) j → j.done < length (job_of j).plan.edits → CanStand j
stands_so j h low =
    let edits = (job_of j).plan.edits in
    let short : length j.line ≤ j.done = subst (λ (l : History). length l.numbers ≤ j.done) (sym h.line) (history_short edits j.done) in
    let few = h.few in
    record {
      left = subst (λ (l : History). l.at ≤ length l.numbers) (sym h.line) (at_within edits j.done);
      few = omega (arith, short, few, low);
      next = omega (arith, few, low);
    }

-- so is there for a journal with the same edits
pub stands_same : (j m : Journal) → HasSameEdits j m → CanStand j → CanStand m
stands_same j m edits old =
    let size : length m.line ≡ length j.line = ap (λ (l : List ℕ). length l) edits.line in
    record {
      left = let left = old.left in let at = edits.at in omega (arith, left, at, size);
      few = let few = old.few in omega (arith, few, size);
      next = let next = old.next in let done = edits.done in omega (arith, next, done);
    }

-- the journal as it is after the edit, and, with the same sets and the same edits, as it was before
pub applied_at : (j m l : Journal) (number : ℕ) (changes : List WordChange) (counts : Counts) → IsJournal (job_of j) j
    → slice_get (job_of j).plan.edits j.done ≡ Some (Apply number) → number < length (job_of j).plan.moves
    → HaveSameSets j.rays m.rays → HasSameEdits j m
    → ((move : JobMove) → HasNumber (job_of j).plan number move
    → IsMarkedStrip (job_of j).plan move j.number j.rays m.rays changes counts)
    → length j.changes.items + length changes < 2 ^ 32 → IsApplied m l changes counts → IsAt j l (j.done + 1)
applied_at j m l number changes counts h applies low same edits marked few applied = record {
  journal = applied_journal j m l number changes counts h applies low same edits marked few applied;
  job = applied.strip.job ∙ edits.strip.job;
  number = applied.strip.number ∙ edits.strip.number;
  done_is = applied.done ∙ ap (λ n. n + 1) edits.done;
}

pub same_at : (j k : Journal) → IsJournal (job_of j) j → HaveSameSets j.rays k.rays → HasSameEdits j k → IsAt j k j.done
same_at j k h same edits = record {
  journal = same_journal j k h same edits;
  job = edits.strip.job;
  number = edits.strip.number;
  done_is = edits.done;
}
