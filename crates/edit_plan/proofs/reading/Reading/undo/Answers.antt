use Rattle.std.proofs.Common.{arith, rules}
use Rattle.edit_plan.proofs.CountLemmas.{counted_few, undone_counts}
use Rattle.edit_plan.proofs.reading.Reading.undo.Goals as goal

pub overflow_add-self : goal.overflow_add-self
overflow_add-self c =
    let few = counted_few c.self.inside.left c.self.inside.dropped c.self.inside.edits c.self.invariant in omega (arith, few)

pub invariant_of-self-2 : goal.invariant_of-self-2
invariant_of-self-2 c =
    undone_counts c.self.inside.left c.self.inside.dropped c.args.times c.self.inside.edits c.push_times.new.self c.args.self.now
    (record { same = search rules; room = search rules; made = search rules }) (omega arith) c.self.invariant
