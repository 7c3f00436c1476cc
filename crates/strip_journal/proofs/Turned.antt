-- An Undo takes back the changes of an edit of the line, and a Redo gives them again.
use Rattle.std.proofs.Common.{◌≡◌, ℕ, zero, suc, ◌+◌, ◌-◌, ◌<◌, ◌≤◌, Bool, true, false, if◌then◌else◌, List, [], ◌∷◌, ◌++◌, length, slice_get, slice_index, Some, arith, refl, sym, ap, ◌∙◌, subst, inl, inr, ⊎_elim}
use mathlib.Core.Logic.{◌⊎◌}
use Rattle.std.proofs.lemmas.Bool.{cases_eq}
use Rattle.std.proofs.lemmas.Option.{slice_get_within}
use Rattle.edit_plan.specs.declared.edit.Edit.TheVariants.{Redo, Undo}
use Rattle.edit_plan.specs.Edits.{left_at}
use Rattle.edit_history.specs.Histories.{History, history_at}
use Rattle.edit_history.proofs.HistoryOrder.{at_within}
use Rattle.edit_history.proofs.HistorySteps.{history_redone, history_undone, left_at_last, left_at_next, left_redone, left_undone}
use Rattle.job_model.specs.Points.{strip_points, totals_over}
use Rattle.job_model.specs.Tasks.{Job}
use Rattle.strip_marks.specs.Marks.{among, possible_of, sure_of}
use Rattle.strip_journal.specs.declared.entry.Entry.{Entry}
use Rattle.strip_journal.specs.declared.journal.Journal.{Journal}
use Rattle.strip_journal.specs.Entries.{AreEntries, HasNo, IsFirstEntryFrom, IsToggled, changes_of, edit_at, entry_at, no_hits, possible_ahead, removed_ahead}
use Rattle.strip_journal.specs.Journals.{IsJournal, job_of, possible_at, sure_at}
use Rattle.strip_journal.specs.Steps.{HasSameEdits, IsMovedTo, IsTurnedBy, IsTurnedFrom}
use Rattle.strip_journal.proofs.Ahead.{possible_ahead_is, removed_ahead_is}
use Rattle.strip_journal.proofs.KeptParts.{IsHeld, Parts, held_of, journal_by, parts_of}
use Rattle.strip_journal.proofs.MovesLeft.{possible_same, same_moves, sure_is_possible, sure_same}
use Rattle.strip_journal.proofs.NextEdit.{ComesNext, IsTurnOf, line_early, still_held, turned_held}

-- the version from which edit number u is taken back, or given again, and the one to which that leads
abbrev pub version_from : Bool → ℕ → ℕ
version_from is_undo u = if is_undo then u + 1 else u

abbrev pub version_to : Bool → ℕ → ℕ
version_to is_undo u = if is_undo then u else u + 1

-- The edit that comes next takes back edit number u of the line, or gives it again: the moves that are left are those of the one
-- version, and after it those of the other.
pub record IsTurning (job : Job) (p : Parts) (is_undo : Bool) (u at : ℕ) : Type 0 where
  pub next : ComesNext job p at
  pub place : ℕ
  pub among_line : place < length p.line
  pub is : slice_index p.line place ≡ u
  pub from : left_at job.plan.edits p.done ≡ left_at job.plan.edits (version_from is_undo u)
  pub to : left_at job.plan.edits (p.done + 1) ≡ left_at job.plan.edits (version_to is_undo u)

-- an Undo
pub undoing : (job : Job) (p : Parts) → IsHeld job p → slice_get job.plan.edits p.done ≡ Some Undo → 0 < p.at → p.at ≤ length p.line
    → IsTurning job p true (slice_index p.line (p.at - 1)) (p.at - 1)
undoing job p h e some within =
    let edits = job.plan.edits in
    record {
      next = record {
        within = slice_get_within edits p.done Undo e;
        line =
            ap (λ (line : History). let moved : History = record { numbers = line.numbers; at = line.at - 1 } in moved) h.line
            ∙ sym (history_undone edits p.done e);
      };
      place = p.at - 1;
      among_line = omega (arith, some, within);
      is = refl;
      from =
          subst
          (λ (line : History). 0 < line.at → left_at edits p.done ≡ left_at edits (slice_index line.numbers (line.at - 1) + 1))
          (sym h.line) (left_at_last edits p.done) some;
      to =
          subst
          (λ (line : History). 0 < line.at → left_at edits (p.done + 1) ≡ left_at edits (slice_index line.numbers (line.at - 1)))
          (sym h.line) (left_undone edits p.done e) some;
    }

-- a Redo
pub redoing : (job : Job) (p : Parts) → IsHeld job p → slice_get job.plan.edits p.done ≡ Some Redo → p.at < length p.line
    → IsTurning job p false (slice_index p.line p.at) (p.at + 1)
redoing job p h e some =
    let edits = job.plan.edits in
    record {
      next = record {
        within = slice_get_within edits p.done Redo e;
        line =
            subst
            (λ (line : History). line.at < length line.numbers
            → ◌≡◌ {A = History} (record { numbers = line.numbers; at = line.at + 1 }) (history_at edits (p.done + 1)))
            (sym h.line) (λ more. sym (history_redone edits p.done e more)) some;
      };
      place = p.at;
      among_line = some;
      is = refl;
      from =
          subst (λ (line : History). line.at < length line.numbers → left_at edits p.done ≡ left_at edits (slice_index line.numbers line.at))
          (sym h.line) (left_at_next edits p.done) some;
      to =
          subst
          (λ (line : History). line.at < length line.numbers
          → left_at edits (p.done + 1) ≡ left_at edits (slice_index line.numbers line.at + 1))
          (sym h.line) (left_redone edits p.done e) some;
    }

-- where an edit changes nothing at a point, neither does taking it back or giving it again
still_between : (is_undo : Bool) (f : ℕ → Bool) (u done : ℕ) → f u ≡ f (u + 1) → f done ≡ f (version_from is_undo u)
    → f (done + 1) ≡ f (version_to is_undo u)
    → f done ≡ f (done + 1)
still_between true f u done same from to = from ∙ sym same ∙ sym to
still_between false f u done same from to = from ∙ same ∙ sym to

-- where an edit leads from the version before it to the one after it, an Undo of it leads back, and a Redo there again
turned_again : (is_undo : Bool) (f : ℕ → Bool) (u done : ℕ) (changed : Bool) → IsToggled false (f u) (f (u + 1)) changed
    → f done ≡ f (version_from is_undo u) → f (done + 1) ≡ f (version_to is_undo u)
    → IsToggled is_undo (f done) (f (done + 1)) changed
turned_again true f u done changed turned from to = rw (from, to) (record { back = turned.forth; forth = turned.back })
turned_again false f u done changed turned from to = rw (from, to) turned

-- edit number u came before
turned_early : (job : Job) (p : Parts) (is_undo : Bool) (u at : ℕ) → IsHeld job p → IsTurning job p is_undo u at → u < p.done
turned_early job p is_undo u at h turning =
    let early = line_early job p h turning.place turning.among_line in omega (arith, early, turning.is)

-- an edit without an entry
pub turned_none : (job : Job) (p : Parts) (is_undo : Bool) (u at : ℕ) → IsHeld job p → IsTurning job p is_undo u at → HasNo p.entries u
    → IsHeld job (record p { at = at; done = p.done + 1 })
turned_none job p is_undo u at h turning none =
    let early = turned_early job p is_undo u at h turning in
    still_held job p at h turning.next
    (record {
      sure = λ n l ray point.
          still_between is_undo (λ v. sure_at job p.number v n l) u p.done (h.tracked_sure.steady u n l early none ray point)
          (sure_same job p.number p.done (version_from is_undo u) n l turning.from)
          (sure_same job p.number (p.done + 1) (version_to is_undo u) n l turning.to);
      possible = λ n l ray point.
          still_between is_undo (λ v. possible_at job p.number v n l) u p.done (h.tracked_possible.steady u n l early none ray point)
          (possible_same job p.number p.done (version_from is_undo u) n l turning.from)
          (possible_same job p.number (p.done + 1) (version_to is_undo u) n l turning.to);
    })

-- the place of the version to which that leads, by the place of the edit's entry
abbrev pub place_to : Bool → ℕ → ℕ
place_to is_undo place = if is_undo then place else place + 1

pub place_there : (entries : List Entry) (changes done : ℕ) (is_undo : Bool) (u place : ℕ) → AreEntries entries changes done
    → place < length entries → edit_at entries place ≡ u → IsFirstEntryFrom entries (version_to is_undo u) (place_to is_undo place)
place_there entries changes done true u place h low is = record {
  within = omega (arith, low);
  ahead = λ i before. let old = h.ascend.each i place before low in omega (arith, old, is);
  behind = λ i from few.
      ⊎_elim (λ (same : place ≡ i). subst (λ (k : ℕ). u ≤ edit_at entries k) same (omega (arith, is)))
      (λ (other : place ≡ i → ⊥).
      let later : place < i = omega (arith, from, other) in
      let old = h.ascend.each place i later few in omega (arith, old, is))
      (cases_eq place i);
}
place_there entries changes done false u place h low is = record {
  within = omega (arith, low);
  ahead = λ i before.
      ⊎_elim (λ (same : place ≡ i). subst (λ (k : ℕ). edit_at entries k < u + 1) same (omega (arith, is)))
      (λ (other : place ≡ i → ⊥).
      let sooner : i < place = omega (arith, before, other) in
      let old = h.ascend.each i place sooner low in omega (arith, old, is))
      (cases_eq place i);
  behind = λ i from few. let old = h.ascend.each place i (omega (arith, from)) few in omega (arith, old, is);
}

version_within : (is_undo : Bool) (u done : ℕ) → u < done → version_to is_undo u ≤ done
version_within true u done early = omega (arith, early)
version_within false u done early = omega (arith, early)

-- the entry of an edit that takes back what the entry at a place did, or gives it again
abbrev pub turned_of : Parts → ℕ → Bool → Entry
turned_of p place is_undo = record {
  edit = p.done;
  from = (entry_at p.entries place).from;
  to = (entry_at p.entries place).to;
  is_undo = is_undo;
  hits = no_hits;
  removed = if is_undo then removed_ahead p.entries place else removed_ahead p.entries (place + 1);
  possible = if is_undo then possible_ahead p.entries place else possible_ahead p.entries (place + 1);
}

-- a choice of arguments is one of values
chosen : {X : Type 0} → (is_undo : Bool) (f : ℕ → X) (a b : ℕ) → (if is_undo then f a else f b) ≡ f (if is_undo then a else b)
chosen true f a b = refl
chosen false f a b = refl

-- the entry has what the edit changes, and the totals after it
pub turn_of : (job : Job) (p : Parts) (is_undo : Bool) (u at place : ℕ) → IsHeld job p → IsTurning job p is_undo u at
    → place < length p.entries → edit_at p.entries place ≡ u → IsTurnOf job p (turned_of p place is_undo)
turn_of job p is_undo u at place h turning low is =
    let early = turned_early job p is_undo u at h turning in
    let applied : (entry_at p.entries place).is_undo ≡ false =
    h.found.applies turning.place place turning.among_line low (is ∙ sym turning.is) in
    let there = place_there p.entries (length p.changes) p.done is_undo u place h.kept low is in
    let within = version_within is_undo u p.done early in
    record {
      edit = refl;
      order = h.kept.order place low;
      few = h.kept.within place low;
      sorted = h.sorted place low;
      sure = λ n l ray point.
          turned_again is_undo (λ v. sure_at job p.number v n l) u p.done
          (among sure_of (changes_of p.changes (entry_at p.entries place)) n l)
          (rw (is, applied) at (h.tracked_sure.turned place n l low ray point))
          (sure_same job p.number p.done (version_from is_undo u) n l turning.from)
          (sure_same job p.number (p.done + 1) (version_to is_undo u) n l turning.to);
      possible = λ n l ray point.
          turned_again is_undo (λ v. possible_at job p.number v n l) u p.done
          (among possible_of (changes_of p.changes (entry_at p.entries place)) n l)
          (rw (is, applied) at (h.tracked_possible.turned place n l low ray point))
          (possible_same job p.number p.done (version_from is_undo u) n l turning.from)
          (possible_same job p.number (p.done + 1) (version_to is_undo u) n l turning.to);
      removed =
          chosen is_undo (removed_ahead p.entries) place (place + 1)
          ∙ removed_ahead_is job p (version_to is_undo u) (place_to is_undo place) h there within
          ∙ ap (λ moves. (totals_over job (strip_points job.plan.grid p.number) moves).removed)
          (sym (same_moves job.plan (p.done + 1) (version_to is_undo u) turning.to));
      possible_total =
          chosen is_undo (possible_ahead p.entries) place (place + 1)
          ∙ possible_ahead_is job p (version_to is_undo u) (place_to is_undo place) h there within
          ∙ ap (λ moves. (totals_over job (strip_points job.plan.grid p.number) moves).possible)
          (sym (same_moves job.plan (p.done + 1) (version_to is_undo u) turning.to));
    }

-- an entry of an edit among the first `many`
pub record IsAmong (entries : List Entry) (edit many : ℕ) : Type 0 where
  pub place : ℕ
  pub low : place < many
  pub is : edit_at entries place ≡ edit

-- the first `many` entries have one of an edit, or they don't
pub look_for : (entries : List Entry) (edit many : ℕ)
    → IsAmong entries edit many ⊎ ((place : ℕ) → place < many → edit_at entries place ≡ edit → ⊥)
look_for entries edit zero = inr (λ place low is. absurd (omega (arith, low)))
look_for entries edit (suc many) =
    ⊎_elim
    (λ (here : edit_at entries many ≡ edit). inl (record { place = many; low = omega arith; is = here }))
    (λ (other : edit_at entries many ≡ edit → ⊥).
    ⊎_elim
    (λ (found : IsAmong entries edit many). inl (record { place = found.place; low = omega (arith, found.low); is = found.is }))
    (λ (none : (place : ℕ) → place < many → edit_at entries place ≡ edit → ⊥).
    inr (λ place low is.
    ⊎_elim (λ (same : place ≡ many). other (subst (λ (k : ℕ). edit_at entries k ≡ edit) same is))
    (λ (less : place ≡ many → ⊥). none place (omega (arith, low, less)) is) (cases_eq place many)))
    (look_for entries edit many))
    (cases_eq (edit_at entries many) edit)

-- what is left of the line is within it
pub left_within : (job : Job) (p : Parts) → IsHeld job p → p.at ≤ length p.line
left_within job p h = subst (λ (line : History). line.at ≤ length line.numbers) (sym h.line) (at_within job.plan.edits p.done)

-- the journal after an edit whose entry another has
turned_by : (j k l : Journal) (is_undo : Bool) (u at place : ℕ) → IsJournal (job_of j) j
    → IsTurning (job_of j) (parts_of j) is_undo u at → place < length j.entries.items → edit_at j.entries.items place ≡ u
    → IsTurnedBy j k place is_undo → IsMovedTo k l at (j.done + 1) → IsJournal (job_of l) l
turned_by j k l is_undo u at place h turning low is turned moved =
    let job = job_of j in
    let p = parts_of j in
    let held = held_of job j h in
    let q : Parts =
    record p { rays = k.rays; entries = p.entries ++ turned_of p place is_undo ∷ []; at = at; done = p.done + 1 } in
    let holds : parts_of l ≡ q = λ i. record {
      number = (moved.strip.number ∙ turned.strip.number) i;
      of = (moved.strip.of ∙ turned.strip.of) i;
      rays = moved.rays i;
      changes = (moved.changes ∙ turned.changes) i;
      entries = (moved.entries ∙ turned.entries) i;
      line = (moved.line ∙ turned.line.line) i;
      at = moved.at_is i;
      done = moved.done_is i;
    } in
    journal_by job l q (moved.strip.job ∙ turned.strip.job) holds
    (turned_held job p at k.rays (turned_of p place is_undo) held turning.next turned.rays
    (λ n l sure. sure_is_possible job p.number (p.done + 1) n l held.valid sure)
    (turn_of job p is_undo u at place held turning low is))

-- and after one without an entry
unturned_by : (j k l : Journal) (is_undo : Bool) (u at : ℕ) → IsJournal (job_of j) j → IsTurning (job_of j) (parts_of j) is_undo u at
    → HasNo j.entries.items u → HasSameEdits j k → k.rays ≡ j.rays → IsMovedTo k l at (j.done + 1) → IsJournal (job_of l) l
unturned_by j k l is_undo u at h turning none same rays moved =
    let job = job_of j in
    let p = parts_of j in
    let held = held_of job j h in
    let q : Parts = record p { at = at; done = p.done + 1 } in
    let holds : parts_of l ≡ q = λ i. record {
      number = (moved.strip.number ∙ same.strip.number) i;
      of = (moved.strip.of ∙ same.strip.of) i;
      rays = (moved.rays ∙ rays) i;
      changes = (moved.changes ∙ same.changes) i;
      entries = (moved.entries ∙ same.entries) i;
      line = (moved.line ∙ same.line) i;
      at = moved.at_is i;
      done = moved.done_is i;
    } in
    journal_by job l q (moved.strip.job ∙ same.strip.job) holds (turned_none job p is_undo u at held turning none)

-- the journal after an Undo, or a Redo
pub turned_journal : (j k l : Journal) (is_undo : Bool) (u at : ℕ) → IsJournal (job_of j) j
    → IsTurning (job_of j) (parts_of j) is_undo u at → IsTurnedFrom j k u is_undo → IsMovedTo k l at (j.done + 1)
    → IsJournal (job_of l) l
turned_journal j k l is_undo u at h turning turned moved =
    ⊎_elim
    (λ (found : IsAmong j.entries.items u (length j.entries.items)).
    turned_by j k l is_undo u at found.place h turning found.low found.is (turned.by found.place found.low found.is) moved)
    (λ (none : HasNo j.entries.items u).
    unturned_by j k l is_undo u at h turning none (turned.none none).0 (turned.none none).1 moved)
    (look_for j.entries.items u (length j.entries.items))

-- after an Undo where some move is left
pub undone_journal : (j k l : Journal) → IsJournal (job_of j) j → slice_get (job_of j).plan.edits j.done ≡ Some Undo → 0 < j.at
    → IsTurnedFrom j k (slice_index j.line (j.at - 1)) true → IsMovedTo k l (j.at - 1) (j.done + 1) → IsJournal (job_of l) l
undone_journal j k l h e some turned moved =
    let job = job_of j in
    let held = held_of job j h in
    turned_journal j k l true (slice_index j.line (j.at - 1)) (j.at - 1) h
    (undoing job (parts_of j) held e some (left_within job (parts_of j) held)) turned moved

-- after a Redo where some move is dropped
pub redone_journal : (j k l : Journal) → IsJournal (job_of j) j → slice_get (job_of j).plan.edits j.done ≡ Some Redo
    → j.at < length j.line → IsTurnedFrom j k (slice_index j.line j.at) false → IsMovedTo k l (j.at + 1) (j.done + 1)
    → IsJournal (job_of l) l
redone_journal j k l h e some turned moved =
    turned_journal j k l false (slice_index j.line j.at) (j.at + 1) h
    (redoing (job_of j) (parts_of j) (held_of (job_of j) j h) e some) turned moved
