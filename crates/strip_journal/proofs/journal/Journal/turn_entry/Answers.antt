-- The entry that is read is the one of the place, since room for one more leaves the entries as they are.
use Rattle.std.proofs.Common.{◌≡◌, ◌∙◌, ℕ, ◌+◌, ◌≤◌, List, [], ◌∷◌, ◌++◌, length, ap, refl, subst, sym}
use Rattle.std.specs.Prelude.{if◌then◌else◌}
use Rattle.strip_journal.specs.declared.entry.Entry.{Entry}
use Rattle.strip_journal.specs.Entries.{changes_of, entry_at, possible_ahead, removed_ahead}
use Rattle.strip_journal.specs.Steps.{AreRaysTurned}
use Rattle.strip_journal.proofs.journal.Journal.turn_entry.Goals as goal

at_place : (found : Entry) (entries before : List Entry) (place : ℕ) → found ≡ entry_at entries place → entries ≡ before
    → found ≡ entry_at before place
at_place found entries before place is same = is ∙ ap (λ (l : List Entry). entry_at l place) same

pub turn_changes-requires-clause-order : goal.turn_changes-requires-clause-order
turn_changes-requires-clause-order c =
    let same = at_place c.get-source.result c.reserve.new.self.items c.args.self.now.entries.items c.args.place c.get-source.ensures c.reserve.ensures.items in
    subst (λ (e : Entry). e.from ≤ e.to) (sym same) (c.requires.journal.kept.order c.args.place c.requires.place)

pub turn_changes-requires-clause-within : goal.turn_changes-requires-clause-within
turn_changes-requires-clause-within c =
    let same = at_place c.get-source.result c.reserve.new.self.items c.args.self.now.entries.items c.args.place c.get-source.ensures c.reserve.ensures.items in
    subst (λ (e : Entry). e.to ≤ length c.args.self.now.changes.items) (sym same) (c.requires.journal.kept.within c.args.place c.requires.place)

pub turn_changes-requires-clause-on : goal.turn_changes-requires-clause-on
turn_changes-requires-clause-on c = c.requires.journal.on

pub push-requires : goal.push-requires
push-requires c = c.in_ok-reserve.ensures.room

pub returns-clause-ok : goal.returns-clause-ok
returns-clause-ok c =
    let j = c.args.self.now in
    let place = c.args.place in
    let undo = c.args.is_undo in
    let kept = c.reserve.ensures.items in
    let same = at_place c.get-source.result c.reserve.new.self.items j.entries.items place c.get-source.ensures kept in
    let removed = c.totals_again-removed.ensures.removed
    ∙ ap (λ (l : List Entry). if undo then removed_ahead l place else removed_ahead l (place + 1)) kept in
    let possible = c.totals_again-removed.ensures.possible
    ∙ ap (λ (l : List Entry). if undo then possible_ahead l place else possible_ahead l (place + 1)) kept in
    record {
      strip = record { job = refl; number = refl; of = refl };
      rays =
          subst (λ (e : Entry). AreRaysTurned j.rays c.turn_changes.new.rays (changes_of j.changes.items e) undo) same
          c.turn_changes.ensures;
      changes = refl;
      entries = c.push.ensures
          ∙ (λ i. kept i ++ record {
            edit = j.done;
            from = (same i).from;
            to = (same i).to;
            is_undo = undo;
            hits = c.none-hits.ensures i;
            removed = removed i;
            possible = possible i;
          } ∷ []);
      line = record { line = refl; at = refl; done = refl };
    }
