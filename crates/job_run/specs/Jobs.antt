-- The job of a plan and its solids.
use Rattle.ray_grid.specs.Grids.{GridSize}
use Rattle.ray_shapes.specs.Sets.{IsSolidOver}
use Rattle.job_model.specs.Tasks.{Job, PlanOf}
use Rattle.job_run.specs.declared.bodies.JobBodies.{JobBodies}

abbrev pub job_with : PlanOf → JobBodies → Job
job_with plan bodies = record { plan = plan; stock = bodies.stock; part = bodies.part; fixture = bodies.fixture }

-- each of the three solids fits the grid
pub record AreOver (grid : GridSize) (bodies : JobBodies) : Type 0 where
  pub stock : IsSolidOver grid bodies.stock
  pub part : IsSolidOver grid bodies.part
  pub fixture : IsSolidOver grid bodies.fixture

-- something is true of some plan
pub record OfSomePlan (P : PlanOf → Type 0) : Type 0 where
  pub plan : PlanOf
  pub so : P plan

-- something is true of some job
pub record OfSomeJob (P : Job → Type 0) : Type 0 where
  pub job : Job
  pub so : P job
