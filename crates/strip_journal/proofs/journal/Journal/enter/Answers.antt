-- What is entered are the changes and counts of the move.
use Rattle.std.proofs.Common.{◌∙◌, ℕ, ◌+◌, ◌≤◌, false, List, [], ◌∷◌, ◌++◌, length, length-append, ap, refl, subst, sym}
use Rattle.strip_marks.specs.declared.change.WordChange.{WordChange}
use Rattle.strip_journal.specs.declared.entry.Hits.{Hits}
use Rattle.strip_journal.specs.Entries.{HasRoomFor, possible_ahead, removed_ahead}
use Rattle.strip_journal.specs.Steps.{AreRaysTurned}
use Rattle.strip_journal.proofs.journal.Journal.enter.Goals as goal

pub append-requires-clause-room : goal.append-requires-clause-room
append-requires-clause-room c =
    subst (λ (l : List WordChange). length l ≤ c.args.self.now.changes.room) (sym c.as_slice.ensures.value) c.requires.room.changes_fit

pub push-requires : goal.push-requires
push-requires c = subst (λ (hits : Hits). HasRoomFor c.args.self.now.entries hits) (sym c.of_counts.ensures) c.requires.room.entry

pub returns : goal.returns
returns c =
    let j = c.args.self.now in
    let counts = c.args.marked.counts in
    let all = c.append.ensures ∙ ap (λ (l : List WordChange). j.changes.items ++ l) c.as_slice.ensures.value in
    let to = c.len-to.ensures ∙ ap (λ (l : List WordChange). length l) all ∙ length-append j.changes.items c.args.marked.changes.items in
    let removed = c.totals_ahead-removed.ensures.removed ∙ ap (λ (n : ℕ). removed_ahead j.entries.items n) c.len.ensures in
    let possible = c.totals_ahead-removed.ensures.possible ∙ ap (λ (n : ℕ). possible_ahead j.entries.items n) c.len.ensures in
    record {
      strip = record { job = refl; number = refl; of = refl };
      rays = subst (λ (l : List WordChange). AreRaysTurned j.rays c.give_all.new.rays l false) c.as_slice-2.ensures.value c.give_all.ensures;
      changes_are = all;
      entries = c.push.ensures
          ∙ (λ i. j.entries.items ++ record {
            edit = c.args.edit;
            from = c.len-from.ensures i;
            to = to i;
            is_undo = false;
            hits = c.of_counts.ensures i;
            removed = removed i + counts.removed;
            possible = possible i + counts.possible;
          } ∷ []);
      line = record { line = refl; at = refl; done = refl };
    }
