-- A journal after a move was applied is that of its strip after one edit more.
use Rattle.std.proofs.Common.{◌≡◌, ℕ, zero, suc, ◌+◌, ◌^◌, ◌<◌, false, not, ◌&&◌, List, [], ◌∷◌, ◌++◌, length, take, Some, slice_get, arith, refl, ap, ap₂, ◌∙◌}
use Rattle.edit_plan.specs.declared.edit.Edit.TheVariants.{Apply}
use Rattle.job_counts.specs.declared.counts.Counts.{Counts}
use Rattle.job_model.specs.Tasks.{Job, JobMove}
use Rattle.strip_plan.specs.Plans.{HasNumber}
use Rattle.strip_marks.specs.declared.change.WordChange.{WordChange}
use Rattle.strip_marks.specs.Marks.{HaveSameSets, IsMarkedStrip, possible_there, sure_there}
use Rattle.strip_journal.specs.declared.journal.Journal.{Journal}
use Rattle.strip_journal.specs.Entries.{hits_of, possible_ahead, removed_ahead}
use Rattle.strip_journal.specs.Journals.{IsJournal, found_at, job_of}
use Rattle.strip_journal.specs.Steps.{HasSameEdits, IsApplied, applied_entry, does_nothing, noted}
use Rattle.strip_journal.proofs.EnteredParts.{IsNextMove, entered_held, entered_parts, new_entry}
use Rattle.strip_journal.proofs.KeptParts.{Parts, held_of, journal_by, parts_of}
use Rattle.strip_journal.proofs.KeptSame.{same_held}
use Rattle.strip_journal.proofs.NewMarks.{AreMarked}
use Rattle.strip_journal.proofs.StripSums.{strip_found_is}

-- what a journal holds, with rays of the same sets
abbrev with_rays : Journal → Journal → Parts
with_rays j m = record (parts_of j) { rays = m.rays }

-- what the move marks on the strip, by its own sets, is what it marks by the moves that are left
marked_is : (job : Job) (j m : Journal) (move : JobMove) (changes : List WordChange) (counts : Counts) → IsJournal job j
    → HaveSameSets j.rays m.rays → IsMarkedStrip job.plan move j.number j.rays m.rays changes counts
    → AreMarked job j.number j.done (length m.rays) move changes
marked_is job j m move changes counts h same marked = record {
  sure = λ n l ray point.
      let old : n < length j.rays = let many = same.many in omega (arith, ray, many) in
      marked.sure n l old point
      ∙ ap₂ (λ a b. a && (sure_there job.plan move j.number n l && not b)) ((h.newest.bodies n old).stock l point)
      (h.newest.sure n l old point);
  possible = λ n l ray point.
      let old : n < length j.rays = let many = same.many in omega (arith, ray, many) in
      marked.possible n l old point
      ∙ ap₂ (λ a b. a && (possible_there job.plan move j.number n l && not b)) ((h.newest.bodies n old).stock l point)
      (h.newest.possible n l old point);
}

-- what is found on the strip by its own sets is what the move finds by the moves that are left
pub counts_are : (job : Job) (j m : Journal) (move : JobMove) (changes : List WordChange) (counts : Counts) → IsJournal job j
    → IsMarkedStrip job.plan move j.number j.rays m.rays changes counts → counts ≡ found_at job j.number j.done move
counts_are job j m move changes counts h marked = marked.found ∙ strip_found_is job j.number j.done j move h.newest h.strip

-- the next move, with what it changes and finds
next_is : (job : Job) (j m : Journal) (number : ℕ) (move : JobMove) (changes : List WordChange) (counts : Counts) → IsJournal job j
    → slice_get job.plan.edits j.done ≡ Some (Apply number) → HasNumber job.plan number move
    → HaveSameSets j.rays m.rays → IsMarkedStrip job.plan move j.number j.rays m.rays changes counts
    → length j.changes.items + length changes < 2 ^ 32
    → IsNextMove job (with_rays j m) number move changes counts
next_is job j m number move changes counts h applies named same marked few = record {
  applies = applies;
  named = named;
  marked = marked_is job j m move changes counts h same marked;
  on = marked.on;
  order = marked.order;
  found = counts_are job j m move changes counts h marked;
  few = few;
}

-- the entry of a journal with the same edits
same_entry : (j m : Journal) (changes : List WordChange) (counts : Counts) → HasSameEdits j m
    → applied_entry m.done m changes counts ≡ new_entry (with_rays j m) changes counts
same_entry j m changes counts edits = λ i. record {
  edit = edits.done i;
  from = length (edits.changes i);
  to = length (edits.changes i) + length changes;
  is_undo = false;
  hits = hits_of counts;
  removed = removed_ahead (edits.entries i) (length (edits.entries i)) + counts.removed;
  possible = possible_ahead (edits.entries i) (length (edits.entries i)) + counts.possible;
}

-- what is held after the move was applied
applied_is : (j m l : Journal) (changes : List WordChange) (counts : Counts) → HasSameEdits j m → IsApplied m l changes counts
    → parts_of l ≡ entered_parts (with_rays j m) l.rays changes counts
applied_is j m l changes counts edits applied =
    let number = applied.strip.number ∙ edits.strip.number in
    let of = applied.strip.of ∙ edits.strip.of in
    let all = applied.changes_are ∙ ap (λ (c : List WordChange). c ++ changes) edits.changes in
    let entries = applied.entries ∙ ap₂ (noted (does_nothing changes counts)) edits.entries (same_entry j m changes counts edits) in
    let stands : l.line ≡ take j.at j.line ++ j.done ∷ [] =
    applied.line ∙ (λ i. take (edits.at i) (edits.line i) ++ edits.done i ∷ []) in
    let next : l.at ≡ j.at + 1 = applied.at ∙ ap (λ n. n + 1) edits.at in
    let more : l.done ≡ j.done + 1 = applied.done ∙ ap (λ n. n + 1) edits.done in
    λ i. record {
      number = number i;
      of = of i;
      rays = l.rays;
      changes = all i;
      entries = entries i;
      line = stands i;
      at = next i;
      done = more i;
    }

-- there is a move with the number
pub named_move : (moves : List JobMove) (number : ℕ) → number < length moves → (move : JobMove) × (slice_get moves number ≡ Some move)
named_move [] number low = absurd (omega (arith, low))
named_move (move ∷ moves) zero low = (move, refl)
named_move (move ∷ moves) (suc number) low = named_move moves number (omega (arith, low))

-- by the move itself
applied_by : (job : Job) (j m l : Journal) (number : ℕ) (move : JobMove) (changes : List WordChange) (counts : Counts)
    → job_of j ≡ job → IsJournal job j → slice_get job.plan.edits j.done ≡ Some (Apply number) → HasNumber job.plan number move
    → HaveSameSets j.rays m.rays → HasSameEdits j m
    → IsMarkedStrip job.plan move j.number j.rays m.rays changes counts
    → length j.changes.items + length changes < 2 ^ 32 → IsApplied m l changes counts → IsJournal (job_of l) l
applied_by job j m l number move changes counts of h applies named same edits marked few applied =
    journal_by job l (entered_parts (with_rays j m) l.rays changes counts)
    (applied.strip.job ∙ edits.strip.job ∙ of) (applied_is j m l changes counts edits applied)
    (entered_held job (with_rays j m) l.rays number move changes counts
    (same_held job (parts_of j) m.rays same (held_of job j h))
    (next_is job j m number move changes counts h applies named same marked few) applied.rays)

-- A journal whose next edit applies a move, after the move was marked and applied, is that of its strip.
pub applied_journal : (j m l : Journal) (number : ℕ) (changes : List WordChange) (counts : Counts) → IsJournal (job_of j) j
    → slice_get (job_of j).plan.edits j.done ≡ Some (Apply number) → number < length (job_of j).plan.moves
    → HaveSameSets j.rays m.rays → HasSameEdits j m
    → ((move : JobMove) → HasNumber (job_of j).plan number move
    → IsMarkedStrip (job_of j).plan move j.number j.rays m.rays changes counts)
    → length j.changes.items + length changes < 2 ^ 32 → IsApplied m l changes counts → IsJournal (job_of l) l
applied_journal j m l number changes counts h applies low same edits marked few applied =
    let found = named_move (job_of j).plan.moves number low in
    applied_by (job_of j) j m l number found.0 changes counts refl h applies found.1 same edits (marked found.0 found.1) few applied
