use Rattle.std.proofs.Common.{ap}
use Rattle.job_run.specs.declared.bodies.JobBodies.{JobBodies}
use Rattle.job_run.proofs.Leftovers.{of_stock_alone}
use Rattle.job_run.proofs.run.remaining_stock.Goals as goal

pub returns : goal.returns
returns g c = record {
  stock = of_stock_alone c.save_job.result c.args.task.plan c.args.task.bodies c.stock_alone-bodies.result
      (ap (λ (bodies : JobBodies). bodies.stock) c.stock_alone-bodies.ensures) c.save_job.ensures;
}
