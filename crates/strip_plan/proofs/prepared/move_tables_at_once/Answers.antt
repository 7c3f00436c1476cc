use Rattle.std.proofs.Common.{rules}
use Rattle.strip_plan.proofs.prepared.move_tables_at_once.Goals as goal

-- the cylinders are those of every depth, so of the plan's
pub returns : goal.returns
returns g c =
    let held = c.join-cylinders.ensures.first c.args.depth in search (rules, held)
