-- The entry that was found is the edit's only one.
use Rattle.strip_journal.specs.Steps.{IsTurnedBy}
use Rattle.strip_journal.proofs.MovedAt.{on_ok, turned_from}
use Rattle.strip_journal.proofs.journal.Journal.turn.Goals as goal

pub returns-in-Some-clause-ok : goal.returns-in-Some-clause-ok
returns-in-Some-clause-ok c =
    let there = c.in-Some.ensures in
    let turned = λ (by : IsTurnedBy c.args.self.now c.turn_entry.new.self c.in-Some.place c.args.is_undo).
    turned_from c.args.self.now c.turn_entry.new.self c.in-Some.place c.args.source c.args.is_undo c.requires.journal.kept.ascend
    there.0 there.1 by in
    on_ok c.turn_entry.result _ _ turned c.turn_entry.ensures.ok
