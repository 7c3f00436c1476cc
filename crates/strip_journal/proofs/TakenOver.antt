-- A move is taken over: there is room for it, its edit is in the line, and what it changes is entered.
use Rattle.std.proofs.Common.{◌≡◌, ◌∙◌, ℕ, ◌+◌, ◌^◌, ◌<◌, ◌≤◌, Bool, false, List, [], ◌∷◌, ◌++◌, length, take, ap, subst, sym}
use Rattle.std.specs.Prelude.{Result, Ok, Err, OnErr}
use Rattle.vf_io.specs.declared.answers.NoMemory.{NoMemory}
use Rattle.edit_plan.specs.Limits.{most_edits}
use Rattle.job_counts.specs.declared.counts.Counts.{Counts}
use Rattle.ray_words.specs.Rays.{KeptSets}
use Rattle.strip_marks.specs.declared.change.WordChange.{WordChange}
use Rattle.strip_journal.specs.declared.entry.Entry.{Entry}
use Rattle.strip_journal.specs.declared.journal.Journal.{Journal}
use Rattle.strip_journal.specs.Entries.{hits_of, possible_ahead, removed_ahead}
use Rattle.strip_journal.specs.Steps.{AreRaysTurned, CanStand, FitsEntry, HasSameEdits, IsApplied, IsEntered, IsStood, applied_entry, does_nothing, noted}

-- room for it changes nothing for its edit
pub stands_still : (j m : Journal) → CanStand j → HasSameEdits j m → CanStand m
stands_still j m stands same = record {
  left =
      subst (λ (n : ℕ). n ≤ length m.line) (sym same.at) (subst (λ (line : List ℕ). j.at ≤ length line) (sym same.line) stands.left);
  few = subst (λ (line : List ℕ). length line ≤ most_edits) (sym same.line) stands.few;
  next = subst (λ (n : ℕ). n < most_edits) (sym same.done) stands.next;
}

-- what holds in any case holds of an Err
pub on_err_held : (r : Result (Unit {0}) NoMemory) (P : Type 0) → P → OnErr r P
on_err_held (Ok u) P p = tt
on_err_held (Err e) P p = p

-- nor for its entry
pub fits_still : (j m k : Journal) (counts : Counts) → FitsEntry j counts → HasSameEdits j m → IsStood m k → FitsEntry k counts
fits_still j m k counts fits same stood =
    let entries = sym (stood.entries ∙ same.entries) in
    record {
      within = fits.within;
      removed = subst (λ (l : List Entry). removed_ahead l (length l) + counts.removed < 2 ^ 32) entries fits.removed;
      possible = subst (λ (l : List Entry). possible_ahead l (length l) + counts.possible < 2 ^ 32) entries fits.possible;
    }

-- with its changes entered it is applied
pub taken_over : (j m k l : Journal) (changes : List WordChange) (counts : Counts) → does_nothing changes counts ≡ false → HasSameEdits j m
    → m.rays ≡ j.rays → IsStood m k → IsEntered k l m.done changes counts → IsApplied j l changes counts
taken_over j m k l changes counts some same rays stood entered =
    let before = stood.entries ∙ same.entries in
    let kept = stood.changes ∙ same.changes in
    record {
      strip = record {
        job = entered.strip.job ∙ stood.strip.job ∙ same.strip.job;
        number = entered.strip.number ∙ stood.strip.number ∙ same.strip.number;
        of = entered.strip.of ∙ stood.strip.of ∙ same.strip.of;
      };
      rays = subst (λ (z : List KeptSets). AreRaysTurned z l.rays changes false) (stood.rays ∙ rays) entered.rays;
      changes_are = entered.changes_are ∙ ap (λ (z : List WordChange). z ++ changes) kept;
      entries = entered.entries
          ∙ (λ i. before i ++ record {
            edit = same.done i;
            from = length (kept i);
            to = length (kept i) + length changes;
            is_undo = false;
            hits = hits_of counts;
            removed = removed_ahead (before i) (length (before i)) + counts.removed;
            possible = possible_ahead (before i) (length (before i)) + counts.possible;
          } ∷ [])
          ∙ ap (λ (b : Bool). noted b j.entries.items (applied_entry j.done j changes counts)) (sym some);
      line = entered.line.line ∙ stood.line ∙ (λ i. take (same.at i) (same.line i) ++ same.done i ∷ []);
      at = entered.line.at ∙ stood.at ∙ ap (λ n. n + 1) same.at;
      done = entered.line.done ∙ stood.done ∙ ap (λ n. n + 1) same.done;
    }
