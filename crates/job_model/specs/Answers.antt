-- The answer to a query after moves.
use Rattle.edit_plan.specs.declared.query.Ask.{Ask}
use Rattle.edit_plan.specs.declared.query.Ask.TheVariants as asks
use Rattle.std.specs.Prelude.{List}
use Rattle.job_counts.specs.declared.totals.Answer.{Answer}
use Rattle.job_counts.specs.declared.totals.Answer.TheVariants as answers
use Rattle.ray_grid.specs.Points.{point_in}
use Rattle.job_model.specs.Points.{state_after, totals_after}
use Rattle.job_model.specs.Tasks.{Job, JobMove}

-- the state of the point that is probed, or the totals
abbrev pub answer_after : Job → List JobMove → Ask → Answer
answer_after job moves (asks.Probe ray l) = answers.Probe (state_after job moves (point_in job.plan.grid ray l))
answer_after job moves asks.Count = answers.Count (totals_after job moves)
