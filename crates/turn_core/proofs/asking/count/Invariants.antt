use Rattle.std.proofs.Common.{◌≡◌, length, map, max}
use Rattle.job_counts.specs.Totals.{TotalsWithin}
use Rattle.job_model.specs.Points.{left_moves, totals_over}
use Rattle.job_model.specs.Tasks.{Job}
use Rattle.turn_core.specs.World.{AreBetween, AreOfPlan, AreStrips, versions_of}
use Rattle.turn_core.proofs.Parts.{first_points}
use Rattle.turn_core.proofs.Versions.{first_raised}
use Rattle.turn_core.proofs.asking.count.Given as goal

abbrev pub invariant-loop-k : goal.invariant-loop-k
invariant-loop-k l = record {
  plan : AreOfPlan l.plan l.strips;
  still : (job : Job) → AreStrips job l.initial.strips → AreStrips job l.strips;
  versions : versions_of l.strips ≡ first_raised l.version l.k (versions_of l.initial.strips);
  between : AreBetween (versions_of l.initial.strips) (map (λ v. max v l.version) (versions_of l.initial.strips)) (versions_of l.strips);
  totals : (job : Job) → AreStrips job l.initial.strips
      → l.totals ≡ totals_over job (first_points l.plan.grid l.k) (left_moves job.plan l.version);
  within : TotalsWithin (length (first_points l.plan.grid l.k)) l.totals;
}
