use Rattle.std.proofs.Common.{◌/◌, length, rules}
use Rattle.strip_plan.specs.ReadyMoves.{HasReadyMoves}
use Rattle.strip_plan.proofs.Tables.{both_ready_moves}
use Rattle.strip_plan.proofs.prepared.halves_at_once.Goals as goal

pub returns : goal.returns
returns g c =
    let slabs = c.args.cutters.now.slabs in
    let depth = c.args.depth in
    let moves = c.args.moves.now in
    let early = c.in_ok-early.early.items in
    let late = c.in_ok-late.late.items in
    let front = c.join-early.ensures.first in
    let back = c.join-early.ensures.second in
    let first : HasReadyMoves slabs depth moves 0 (length moves / 2) early = search (rules, front) in
    let rest : HasReadyMoves slabs depth moves (length moves / 2) (length moves) late = search (rules, back) in
    both_ready_moves slabs depth moves 0 (length moves / 2) (length moves) early late first rest
