use Rattle.strip_plan.proofs.Grouped.{one_more}
use Rattle.strip_plan.proofs.untouched.group_of.Goals as goal

pub loop-edit-preserved : goal.loop-edit-preserved
loop-edit-preserved c =
    one_more c.args.hulls.now c.args.edits.now c.loop-edit.group c.hull-group.result c.loop-edit.edit-index c.in-Apply.number _ _ c.requires c.loop-edit.invariant
    c.loop-edit-test.true c.in-Apply.is c.hull-group.ensures
