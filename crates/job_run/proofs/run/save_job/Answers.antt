use Rattle.std.proofs.Common.{sym}
use Rattle.job_run.specs.Jobs.{job_with}
use Rattle.job_run.specs.Remaining.{AreFinishedOn}
use Rattle.job_run.proofs.Leftovers.{at_job}
use Rattle.job_run.proofs.run.save_job.Goals as goal

pub stock_of-requires : goal.stock_of-requires
stock_of-requires g c = record {
  job = job_with c.args.plan c.args.bodies.now;
  so = record { grid_is = sym c.grid-grid.ensures; strips_are = c.in_ok-finished.ensures.brought.strips_are };
}

pub returns : goal.returns
returns g c =
    at_job c.stock_of.result (job_with c.args.plan c.args.bodies.now) c.grid-grid.result.now c.in_ok-finished.finished.strips.items
    (record { grid_is = sym c.grid-grid.ensures; strips_are = c.in_ok-finished.ensures.brought.strips_are }) c.stock_of.ensures
