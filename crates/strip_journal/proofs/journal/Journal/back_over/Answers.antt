-- The edit of the entry is one of those of the moves before the place, or it isn't.
use Rattle.std.proofs.Common.{arith}
use Rattle.strip_journal.proofs.BackOver.{can_go, entry_back, none_back, own_edits, some_back, some_before}
use Rattle.strip_journal.proofs.journal.Journal.back_over.Goals as goal

pub get-entry-requires : goal.get-entry-requires
get-entry-requires c = let few = c.requires.few in omega (arith, few)

pub place_of-requires-clause-within : goal.place_of-requires-clause-within
place_of-requires-clause-within c = (can_go c.args.self.now _ c.args.left c.requires).within

pub place_of-requires-clause-ascends : goal.place_of-requires-clause-ascends
place_of-requires-clause-ascends c = (can_go c.args.self.now _ c.args.left c.requires).ascends

pub turn_changes-requires-clause-order : goal.turn_changes-requires-clause-order
turn_changes-requires-clause-order c =
    (entry_back c.args.self.now c.args.place c.args.left c.get-entry.result c.requires c.get-entry.ensures).order

pub turn_changes-requires-clause-within : goal.turn_changes-requires-clause-within
turn_changes-requires-clause-within c =
    (entry_back c.args.self.now c.args.place c.args.left c.get-entry.result c.requires c.get-entry.ensures).within

pub turn_changes-requires-clause-on : goal.turn_changes-requires-clause-on
turn_changes-requires-clause-on c = c.requires.on

pub returns-in-None-clause-back : goal.returns-in-None-clause-back
returns-in-None-clause-back c = none_back c.args.self.now c.args.place c.args.left _ c.requires (λ i. (c.get-entry.ensures i).edit) c.in-None.ensures

pub returns-in-None-clause-edits : goal.returns-in-None-clause-edits
returns-in-None-clause-edits c = own_edits c.args.self.now

pub returns-in-Some-clause-back : goal.returns-in-Some-clause-back
returns-in-Some-clause-back c =
    some_back c.args.self.now c.args.place c.args.left c.in-Some.k c.get-entry.result c.turn_changes.new.rays c.requires c.get-entry.ensures
    c.in-Some.ensures.0 c.in-Some.ensures.1 c.turn_changes.ensures

pub returns-in-Some-clause-before : goal.returns-in-Some-clause-before
returns-in-Some-clause-before c = λ m within low early.
    some_before c.args.self.now c.args.place c.args.left c.in-Some.k m c.get-entry.result.edit c.requires (λ i. (c.get-entry.ensures i).edit)
    c.in-Some.ensures.1 low early
