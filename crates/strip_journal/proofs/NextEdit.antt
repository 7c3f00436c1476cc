-- What a journal holds after one edit more that applies no move: with no entry of it, and with one.
use Rattle.std.proofs.Common.{◌≡◌, ℕ, ◌+◌, ◌<◌, ◌≤◌, true, List, [], ◌∷◌, ◌++◌, length, slice_index, arith, sym, ap, ◌∙◌, subst}
use Rattle.edit_history.specs.Histories.{History, history_at}
use Rattle.edit_history.proofs.HistoryOrder.{numbers_below}
use Rattle.job_model.specs.Points.{left_moves, strip_points, totals_over}
use Rattle.job_model.specs.Tasks.{Job}
use Rattle.ray_words.specs.Rays.{KeptSets}
use Rattle.strip_marks.specs.Marks.{AreInOrder, among, points_at, possible_of, sure_of}
use Rattle.strip_journal.specs.declared.entry.Entry.{Entry}
use Rattle.strip_journal.specs.Entries.{AreEntries, IsToggled, changes_of}
use Rattle.strip_journal.specs.Journals.{MatchesEntries, possible_at, sure_at}
use Rattle.strip_journal.specs.Steps.{AreRaysTurned}
use Rattle.strip_journal.proofs.KeptParts.{AreSetsAt, IsHeld, Parts}
use Rattle.strip_journal.proofs.Pushed.{each_pushed, entries_pushed, found_pushed, totals_pushed, tracked_pushed, tracked_still}
use Rattle.strip_journal.proofs.RaysTurned.{changes_turned, marked_turned}

-- the edit is one of the job's, and leaves the line, except for the place in it
pub record ComesNext (job : Job) (p : Parts) (at : ℕ) : Type 0 where
  pub within : p.done < length job.plan.edits
  pub line : ◌≡◌ {A = History} (record { numbers = p.line; at = at }) (history_at job.plan.edits (p.done + 1))

-- it changes nothing on the strip
pub record IsStill (job : Job) (p : Parts) : Type 0 where
  pub sure : (n l : ℕ) → n < length p.rays → l < points_at job.plan.grid p.number n
      → sure_at job p.number p.done n l ≡ sure_at job p.number (p.done + 1) n l
  pub possible : (n l : ℕ) → n < length p.rays → l < points_at job.plan.grid p.number n
      → possible_at job p.number p.done n l ≡ possible_at job p.number (p.done + 1) n l

-- its entry has what it changes on the strip, and the totals after it
pub record IsTurnOf (job : Job) (p : Parts) (e : Entry) : Type 0 where
  pub edit : e.edit ≡ p.done
  pub order : e.from ≤ e.to
  pub few : e.to ≤ length p.changes
  pub sorted : AreInOrder (changes_of p.changes e)
  pub sure : (n l : ℕ) → n < length p.rays → l < points_at job.plan.grid p.number n
      → IsToggled e.is_undo (sure_at job p.number p.done n l) (sure_at job p.number (p.done + 1) n l)
      (among sure_of (changes_of p.changes e) n l)
  pub possible : (n l : ℕ) → n < length p.rays → l < points_at job.plan.grid p.number n
      → IsToggled e.is_undo (possible_at job p.number p.done n l) (possible_at job p.number (p.done + 1) n l)
      (among possible_of (changes_of p.changes e) n l)
  pub removed : e.removed ≡ (totals_over job (strip_points job.plan.grid p.number) (left_moves job.plan (p.done + 1))).removed
  pub possible_total : e.possible ≡ (totals_over job (strip_points job.plan.grid p.number) (left_moves job.plan (p.done + 1))).possible

-- entries that are there stay in order after an edit that has none
entries_later : (entries : List Entry) (changes done : ℕ) → AreEntries entries changes done → AreEntries entries changes (done + 1)
entries_later entries changes done h = record {
  ascend = h.ascend;
  early = λ i low. let old = h.early i low in omega (arith, old);
  order = h.order;
  within = h.within;
}

-- each edit of the line came before those to come
pub line_early : (job : Job) (p : Parts) → IsHeld job p → (k : ℕ) → k < length p.line → slice_index p.line k < p.done
line_early job p h =
    subst (λ (line : History). (k : ℕ) → k < length line.numbers → slice_index line.numbers k < p.done) (sym h.line)
    (numbers_below job.plan.edits p.done)

-- the sets are those of the next version where it changes nothing
sets_still : (job : Job) (p : Parts) → AreSetsAt job p.number p.done p.rays → IsStill job p → AreSetsAt job p.number (p.done + 1) p.rays
sets_still job p h still = record {
  rays = h.rays;
  bodies = h.bodies;
  sure = λ n l ray point. h.sure n l ray point ∙ still.sure n l ray point;
  possible = λ n l ray point. h.possible n l ray point ∙ still.possible n l ray point;
}

-- an edit that changes nothing and has no entry
pub still_held : (job : Job) (p : Parts) (at : ℕ) → IsHeld job p → ComesNext job p at → IsStill job p
    → IsHeld job (record p { at = at; done = p.done + 1 })
still_held job p at h next still = record {
  valid = h.valid;
  grid = h.grid;
  strip = h.strip;
  few = h.few;
  named = h.named;
  within = omega (arith, next.within);
  line = next.line;
  newest = sets_still job p h.newest still;
  of = h.of;
  kept = entries_later p.entries (length p.changes) p.done h.kept;
  sorted = h.sorted;
  on = h.on;
  few_changes = h.few_changes;
  tracked_sure = tracked_still (sure_at job p.number) sure_of _ _ p.changes p.entries p.done h.kept h.tracked_sure still.sure;
  tracked_possible =
      tracked_still (possible_at job p.number) possible_of _ _ p.changes p.entries p.done h.kept h.tracked_possible still.possible;
  totals = h.totals;
  found = h.found;
}

-- an edit with an entry, whose changes were taken away or given again
pub turned_held : (job : Job) (p : Parts) (at : ℕ) (after : List KeptSets) (e : Entry) → IsHeld job p → ComesNext job p at
    → AreRaysTurned p.rays after (changes_of p.changes e) e.is_undo
    → ((n l : ℕ) → sure_at job p.number (p.done + 1) n l ≡ true → possible_at job p.number (p.done + 1) n l ≡ true)
    → IsTurnOf job p e
    → IsHeld job (record p { rays = after; entries = p.entries ++ e ∷ []; at = at; done = p.done + 1 })
turned_held job p at after e h next rays more turn =
    let behind : p.done + 1 ≡ e.edit + 1 = omega (arith, turn.edit) in
    record {
      valid = h.valid;
      grid = h.grid;
      strip = h.strip;
      few = h.few;
      named = h.named;
      within = omega (arith, next.within);
      line = next.line;
      newest =
          marked_turned job p.number p.done (p.done + 1) p.rays after (changes_of p.changes e) e.is_undo h.newest rays more turn.sure
          turn.possible;
      of = h.of;
      kept = entries_pushed p.entries (length p.changes) p.done e h.kept turn.edit turn.order turn.few;
      sorted = each_pushed (λ (x : Entry). AreInOrder (changes_of p.changes x)) p.entries e h.sorted turn.sorted;
      on = changes_turned p.rays after (changes_of p.changes e) p.changes e.is_undo rays h.on;
      few_changes = h.few_changes;
      tracked_sure =
          subst
          (λ (r : ℕ). MatchesEntries (sure_at job p.number) sure_of r (points_at job.plan.grid p.number) p.changes (p.entries ++ e ∷ [])
          (p.done + 1))
          (sym rays.many)
          (tracked_pushed (sure_at job p.number) sure_of _ _ p.changes p.entries p.done e h.kept h.tracked_sure turn.edit turn.sure);
      tracked_possible =
          subst
          (λ (r : ℕ). MatchesEntries (possible_at job p.number) possible_of r (points_at job.plan.grid p.number) p.changes
          (p.entries ++ e ∷ []) (p.done + 1))
          (sym rays.many)
          (tracked_pushed (possible_at job p.number) possible_of _ _ p.changes p.entries p.done e h.kept h.tracked_possible turn.edit
          turn.possible);
      totals =
          totals_pushed job p.number p.entries e h.totals
          (turn.removed
          ∙ ap (λ v. (totals_over job (strip_points job.plan.grid p.number) (left_moves job.plan v)).removed) behind)
          (turn.possible_total
          ∙ ap (λ v. (totals_over job (strip_points job.plan.grid p.number) (left_moves job.plan v)).possible) behind);
      found =
          found_pushed job p.number p.line p.entries e h.found
          (λ k low. let early = line_early job p h k low in omega (arith, early, turn.edit));
    }
