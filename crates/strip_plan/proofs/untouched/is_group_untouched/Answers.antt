use Rattle.strip_plan.proofs.Grouped.{group_off}
use Rattle.strip_plan.proofs.untouched.is_group_untouched.Goals as goal

pub returns-in-Some : goal.returns-in-Some
returns-in-Some c hulls edits are off =
    group_off hulls edits c.args.groups.now c.args.number _ c.in-Some.group c.args.family c.args.i are c.if-number-groups.false c.in-Some.is
    (c.is_off.ensures off)
