-- An Undo goes one back in the line, and takes back what the edit there changed.
use Rattle.std.proofs.Common.{true, rules, arith, subst}
use Rattle.strip_journal.specs.Steps.{IsTurnedFrom}
use Rattle.strip_journal.proofs.MovedAt.{moved_on, stands_next, unmoved_at}
use Rattle.strip_journal.proofs.TurnedAt.{undo_none_at, undone_at}
use Rattle.edit_plan.specs.declared.edit.Edit.TheVariants.{Undo}
use Rattle.strip_journal.proofs.journal.Journal.undo.Goals as goal

pub returns-then-at-eq0-clause-ok : goal.returns-then-at-eq0-clause-ok
returns-then-at-eq0-clause-ok c =
    undo_none_at c.args.self.now c.move_to.new.self c.requires.journal c.requires.edit c.if-at-eq0.true c.move_to.ensures

pub get-source-requires : goal.get-source-requires
get-source-requires c =
    let stands = stands_next c.args.self.now Undo c.requires.journal c.requires.edit in
    let left = stands.left in omega arith

pub returns-in_err-turn-clause-unchanged : goal.returns-in_err-turn-clause-unchanged
returns-in_err-turn-clause-unchanged c =
    let at = unmoved_at c.args.self.now c.turn.new.self c.requires.journal c.in_err-turn.ensures.edits c.in_err-turn.ensures.rays in
    search (rules, at)

pub move_to-requires-2 : goal.move_to-requires-2
move_to-requires-2 c =
    let stands = stands_next c.args.self.now Undo c.requires.journal c.requires.edit in
    let next = stands.next in let done = c.turn.ensures.line.done in omega arith

pub returns-clause-ok : goal.returns-clause-ok
returns-clause-ok c =
    let source = c.get-source.ensures in
    let turned = subst (λ u. IsTurnedFrom c.args.self.now c.turn.new.self u true) source c.in_ok-turn.ensures.ok in
    undone_at c.args.self.now c.turn.new.self c.move_to-2.new.self c.requires.journal c.requires.edit (omega arith) turned
    (moved_on c.turn.new.self c.move_to-2.new.self _ _ c.args.self.now.done c.turn.ensures.line.done c.move_to-2.ensures)

pub move_to-requires : goal.move_to-requires
move_to-requires c = (stands_next c.args.self.now Undo c.requires.journal c.requires.edit).next

pub turn-requires : goal.turn-requires
turn-requires c = record { journal = c.requires.journal }
