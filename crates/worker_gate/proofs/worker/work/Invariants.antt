use Rattle.std.proofs.Common.{◌≡◌, ◌-◌, length}
use Rattle.ray_grid.specs.Strips.{strips_of}
use Rattle.strip_turns.specs.Passes.{card}
use Rattle.worker_gate.specs.Workers.{IsWorking}
use Rattle.worker_gate.proofs.worker.work.Given as goal

abbrev pub invariant-loop-ticket : goal.invariant-loop-ticket
invariant-loop-ticket g l =
    IsWorking l.fn.board l.fn.worker.pass.seat.me.0.number l.ticket l.worker
    × (l.round.strips ≡ length (strips_of (card l.fn.board).plan.grid))

abbrev pub decreases-loop-ticket : goal.decreases-loop-ticket
decreases-loop-ticket g l = l.due - l.ticket
