use Rattle.std.proofs.Common.{◌≡◌, length}
use Rattle.job_counts.specs.Totals.{TotalsWithin}
use Rattle.job_model.specs.Points.{left_moves, totals_over}
use Rattle.job_model.specs.Tasks.{Job}
use Rattle.turn_core.specs.World.{AreStrips}
use Rattle.turn_core.proofs.Parts.{first_points}
use Rattle.strip_turns.specs.Passes.{card, IsIdleSeat}
use Rattle.strip_turns.specs.Asks.{AllRaised}
use Rattle.strip_turns.proofs.reading.counted.Given as goal

abbrev pub invariant-loop-strip : goal.invariant-loop-strip
invariant-loop-strip g l = record {
  idle : IsIdleSeat l.board l.seat;
  raised : AllRaised (card l.board) l.version l.strip l.initial.seat.me.0 l.seat.me.0;
  totals : (job : Job) → AreStrips job (card l.board).strips
      → l.totals ≡ totals_over job (first_points (card l.board).plan.grid l.strip) (left_moves job.plan l.version);
  within : TotalsWithin (length (first_points (card l.board).plan.grid l.strip)) l.totals;
}
