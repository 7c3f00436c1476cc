use Rattle.std.proofs.Common.{◌≡◌, ◌+◌, ℕ, length, true}
use Rattle.strip_turns.specs.Passes.{card, IsPass}
use Rattle.worker_gate.specs.Workers.{AreDone}
use Rattle.worker_gate.specs.Crew.{IsTeam, Merged}
use Rattle.worker_gate.proofs.team.merge_all.Given as goal

abbrev pub invariant-loop-worker : goal.invariant-loop-worker
invariant-loop-worker l =
    IsPass l.board l.pass × (l.pass.seat.me.0.first ≡ true) × AreDone l.board l.team.items
    × IsTeam l.pass.seat.me.0 l.team.items
    × ((n : ℕ) × (n + length l.team.items ≡ length l.fn.team.items) × Merged (card l.board) n l.short l.initial.pass.seat.me.0 l.pass.seat.me.0)

abbrev pub decreases-loop-worker : goal.decreases-loop-worker
decreases-loop-worker l = length l.team.items
