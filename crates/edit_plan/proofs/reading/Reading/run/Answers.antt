use Rattle.std.proofs.Common.{◌≡◌, ◌+◌, ◌-◌, ◌≤◌, ◌++◌, length, true, false, arith, rules, refl}
use Rattle.edit_plan.specs.Edits.{applied_moves}
use Rattle.edit_plan.specs.Limits.{most_edits}
use Rattle.edit_plan.specs.Script.{are_too_many}
use Rattle.edit_plan.proofs.CountLemmas.{counted_applied, counted_few, has_room, with_run-full, with_run-room}
use Rattle.edit_plan.proofs.reading.Reading.run.Goals as goal

pub returns-then-is_full_for : goal.returns-then-is_full_for
returns-then-is_full_for c =
    let full : are_too_many (c.args.last + 1 - c.args.first) c.args.self.now ≡ true = search rules in
    with_run-full c.args.moves c.args.first c.args.last (c.args.last + 1 - c.args.first) c.args.self.now (omega arith) (omega arith) (omega arith) refl full

pub overflow_add-self : goal.overflow_add-self
overflow_add-self c =
    let few = counted_few c.self.inside.left c.self.inside.dropped c.self.inside.edits c.self.invariant in omega (arith, few)

pub invariant_of-self-2 : goal.invariant_of-self-2
invariant_of-self-2 c =
    let first = c.args.first in
    let count = c.args.last + 1 - first in
    let edits = c.self.inside.edits in
    let is : c.args.self.now.edits ≡ edits = search rules in
    let open_room : are_too_many count c.args.self.now ≡ false = search rules in
    let room : length edits + count ≤ most_edits = has_room count edits c.args.self.now is open_room in
    let pushed : c.push_moves.new.self ≡ edits ++ applied_moves (first - 1) (c.args.last - (first - 1)) = search rules in
    let same : c.args.last - (first - 1) ≡ count = omega arith in
    let counted = counted_applied c.self.inside.left c.self.inside.dropped (first - 1) count edits (omega arith) room c.self.invariant in
    rw (pushed, same) counted

pub returns : goal.returns
returns c =
    let first = c.args.first in
    let count = c.args.last + 1 - first in
    let edits = c.self.inside.edits in
    let view : c.args.self.now ≡ record { edits = edits; queries = c.self.inside.queries } = search rules in
    let open_room : are_too_many count c.args.self.now ≡ false = search rules in
    let pushed : c.push_moves.new.self ≡ edits ++ applied_moves (first - 1) (c.args.last - (first - 1)) = search rules in
    rw pushed (with_run-room c.args.moves first c.args.last count c.args.self.now edits c.self.inside.queries view (omega arith) (omega arith) (omega arith) refl open_room)
