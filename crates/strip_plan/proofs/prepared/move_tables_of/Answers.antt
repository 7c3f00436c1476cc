use Rattle.std.proofs.Common.{length}
use Rattle.strip_plan.proofs.Tables.{all_ready_moves}
use Rattle.strip_plan.proofs.prepared.move_tables_of.Goals as goal

-- the cylinders are those of every depth, so of the plan's
pub returns : goal.returns
returns c =
    let moves = c.args.moves.now in
    let all = all_ready_moves c.args.cutters.now.slabs c.args.depth moves 0 (length moves) c.in_ok-early.early.items c.new.result.items c.in_ok-early.ensures c.new.ensures.items in
    (c.in_ok-cylinders.ensures c.args.depth, all)
