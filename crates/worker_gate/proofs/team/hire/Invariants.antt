use Rattle.std.proofs.Common.{◌≡◌, ◌≤◌, length, vec_capacity}
use Rattle.strip_turns.specs.Passes.{IsPass}
use Rattle.worker_gate.specs.Workers.{AreFresh, AreNumbered}
use Rattle.worker_gate.specs.Crew.{with_splits}
use Rattle.worker_gate.proofs.team.hire.Given as goal

abbrev pub invariant-loop-i : goal.invariant-loop-i
invariant-loop-i l =
    IsPass l.board l.pass × (l.pass.seat.me.0 ≡ with_splits l._i l.initial.pass.seat.me.0)
    × AreFresh l.board l.team.items × (length l.team.items ≡ l._i)
    × (l.workers ≤ vec_capacity l.team) × AreNumbered l.initial.pass.seat.me.0.splits l.team.items
