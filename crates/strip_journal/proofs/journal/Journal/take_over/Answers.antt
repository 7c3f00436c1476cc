-- The room that was made is still there when the edit is added.
use Rattle.std.proofs.Common.{◌∙◌, ℕ, ◌+◌, ◌^◌, ◌<◌, All, List, length, sym, subst}
use Rattle.ray_words.specs.Rays.{KeptSets}
use Rattle.strip_marks.specs.declared.change.WordChange.{WordChange}
use Rattle.strip_marks.specs.Marks.{IsChangeOn}
use Rattle.strip_journal.specs.declared.entry.Hits.{Hits}
use Rattle.strip_journal.specs.Entries.{hits_of}
use Rattle.strip_journal.specs.Steps.{HasRoom}
use Rattle.strip_journal.proofs.KeptSame.{same_edits_through}
use Rattle.strip_journal.proofs.MovedAt.{on_ok}
use Rattle.strip_journal.proofs.TakenOver.{fits_still, on_err_held, stands_still, taken_over}
use Rattle.strip_journal.proofs.Unentered.{idle_applied}
use Rattle.strip_journal.proofs.journal.Journal.take_over.Goals as goal

pub enter-requires-clause-room : goal.enter-requires-clause-room
enter-requires-clause-room c =
    let many = c.len.ensures ∙ c.args.marked.changes.ok.0 in
    subst (λ (n : ℕ). HasRoom c.push_edit-2.new.self n (hits_of c.args.marked.counts)) many
    (subst (λ (hits : Hits). HasRoom c.push_edit-2.new.self c.len.result hits) c.of_counts.ensures
    (c.push_edit-2.ensures.room c.len.result c.of_counts.result c.in_ok-make_room.ensures.room))

pub returns-then-does_nothing-clause-applied : goal.returns-then-does_nothing-clause-applied
returns-then-does_nothing-clause-applied c =
    let before = c.args.self.now in
    let nothing = sym c.does_nothing.ensures ∙ c.if-does_nothing.true in
    on_ok c.push_edit.result _ _
    (λ stood. idle_applied before c.push_edit.new.self c.args.marked.changes.items c.args.marked.counts nothing
    (record {
      strip = record { job = stood.strip.job; number = stood.strip.number; of = stood.strip.of };
      rays = stood.rays;
      changes = stood.changes;
      entries = stood.entries;
      line = stood.line;
      at = stood.at;
      done = stood.done;
    })) c.push_edit.ensures.ok

pub push_edit-requires-2 : goal.push_edit-requires-2
push_edit-requires-2 c = stands_still c.args.self.now c.make_room.new.self c.requires.stands c.make_room.ensures.edits

pub enter-requires-clause-on : goal.enter-requires-clause-on
enter-requires-clause-on c =
    subst (λ (rays : List KeptSets). All (IsChangeOn rays) c.args.marked.changes.items)
    (sym (c.in_ok-push_edit.ensures.ok.rays ∙ c.in_ok-make_room.ensures.rays)) c.requires.on

pub enter-requires-clause-fits : goal.enter-requires-clause-fits
enter-requires-clause-fits c =
    fits_still c.args.self.now c.make_room.new.self c.push_edit-2.new.self c.args.marked.counts c.requires.fits c.make_room.ensures.edits
    c.in_ok-push_edit.ensures.ok

pub enter-requires-clause-some : goal.enter-requires-clause-some
enter-requires-clause-some c = sym c.does_nothing.ensures ∙ c.if-does_nothing.false

pub returns-clause-applied : goal.returns-clause-applied
returns-clause-applied c =
    taken_over c.args.self.now c.make_room.new.self c.push_edit-2.new.self c.enter.new.self c.args.marked.changes.items c.args.marked.counts
    (sym c.does_nothing.ensures ∙ c.if-does_nothing.false) c.make_room.ensures.edits c.in_ok-make_room.ensures.rays
    c.in_ok-push_edit.ensures.ok c.enter.ensures

pub returns-clause-few : goal.returns-clause-few
returns-clause-few c =
    subst (λ (n : ℕ). length c.args.self.now.changes.items + n < 2 ^ 32) (c.len.ensures ∙ c.args.marked.changes.ok.0)
    (subst (λ (l : List WordChange). length l + c.len.result < 2 ^ 32) c.make_room.ensures.edits.changes c.in_ok-make_room.ensures.room.few)

pub returns-in_err-make_room-clause-edits : goal.returns-in_err-make_room-clause-edits
returns-in_err-make_room-clause-edits c = on_err_held c.from_residual.result _ c.make_room.ensures.edits

pub returns-in_err-make_room-clause-rays : goal.returns-in_err-make_room-clause-rays
returns-in_err-make_room-clause-rays c = on_err_held c.from_residual.result _ c.make_room.ensures.rays

pub returns-in_err-push_edit-clause-edits : goal.returns-in_err-push_edit-clause-edits
returns-in_err-push_edit-clause-edits c =
    on_err_held c.from_residual-in_err-push_edit.result _
    (same_edits_through c.args.self.now c.make_room.new.self c.push_edit-2.new.self c.make_room.ensures.edits c.in_err-push_edit.ensures.edits)

pub returns-in_err-push_edit-clause-rays : goal.returns-in_err-push_edit-clause-rays
returns-in_err-push_edit-clause-rays c =
    on_err_held c.from_residual-in_err-push_edit.result _ (c.in_err-push_edit.ensures.rays ∙ c.make_room.ensures.rays)
