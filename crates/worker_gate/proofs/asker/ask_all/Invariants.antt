use Rattle.std.proofs.Common.{◌≡◌, ◌≤◌, take, length, vec_capacity}
use Rattle.strip_turns.specs.Passes.{card, IsPass}
use Rattle.worker_gate.specs.Asking.{AskedAll}
use Rattle.worker_gate.proofs.asker.ask_all.Given as goal

abbrev pub invariant-loop-query : goal.invariant-loop-query
invariant-loop-query g l =
    IsPass l.board l.pass
    × AskedAll (card l.board) (take l.query-index l.queries) l.answers.items l.initial.pass.seat.me.0 l.pass.seat.me.0
    × (length l.answers.items ≡ l.query-index) × (length l.queries ≤ vec_capacity l.answers)
