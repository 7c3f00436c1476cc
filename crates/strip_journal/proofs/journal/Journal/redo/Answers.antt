-- A Redo goes one forward in the line, and gives again what the edit there changed.
use Rattle.std.proofs.Common.{false, rules, arith, subst}
use Rattle.strip_journal.specs.Steps.{IsTurnedFrom}
use Rattle.strip_journal.proofs.MovedAt.{moved_on, stands_next, unmoved_at}
use Rattle.strip_journal.proofs.TurnedAt.{redo_none_at, redone_at}
use Rattle.edit_plan.specs.declared.edit.Edit.TheVariants.{Redo}
use Rattle.strip_journal.proofs.journal.Journal.redo.Goals as goal

pub returns-then-at-len-clause-ok : goal.returns-then-at-len-clause-ok
returns-then-at-len-clause-ok c =
    redo_none_at c.args.self.now c.move_to.new.self c.requires.journal c.requires.edit (omega arith) c.move_to.ensures

pub returns-in_err-turn-clause-unchanged : goal.returns-in_err-turn-clause-unchanged
returns-in_err-turn-clause-unchanged c =
    let at = unmoved_at c.args.self.now c.turn.new.self c.requires.journal c.in_err-turn.ensures.edits c.in_err-turn.ensures.rays in
    search (rules, at)

pub overflow_add-at : goal.overflow_add-at
overflow_add-at c =
    let stands = stands_next c.args.self.now Redo c.requires.journal c.requires.edit in
    let left = stands.left in let few = stands.few in omega arith

pub move_to-requires-2 : goal.move_to-requires-2
move_to-requires-2 c =
    let stands = stands_next c.args.self.now Redo c.requires.journal c.requires.edit in
    let next = stands.next in let done = c.turn.ensures.line.done in omega arith

pub returns-clause-ok : goal.returns-clause-ok
returns-clause-ok c =
    let source = c.get-source.ensures in
    let turned = subst (λ u. IsTurnedFrom c.args.self.now c.turn.new.self u false) source c.in_ok-turn.ensures.ok in
    redone_at c.args.self.now c.turn.new.self c.move_to-2.new.self c.requires.journal c.requires.edit (omega arith) turned
    (moved_on c.turn.new.self c.move_to-2.new.self _ _ c.args.self.now.done c.turn.ensures.line.done c.move_to-2.ensures)

pub move_to-requires : goal.move_to-requires
move_to-requires c = (stands_next c.args.self.now Redo c.requires.journal c.requires.edit).next

pub get-source-requires : goal.get-source-requires
get-source-requires c = omega (arith, c.if-at-len.false, c.len.ensures)

pub turn-requires : goal.turn-requires
turn-requires c = record { journal = c.requires.journal }
