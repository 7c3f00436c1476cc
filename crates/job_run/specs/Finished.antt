-- A job that is done.
use Rattle.std.specs.Prelude.{◌≡◌, List, length, map}
use Rattle.edit_plan.specs.declared.query.Query.{Query}
use Rattle.job_model.specs.Tasks.{Job}
use Rattle.turn_core.specs.World.{answer_of}
use Rattle.job_run.specs.Founds.{AreBroughtUp}
use Rattle.job_run.specs.declared.finished.FinishedJob.{FinishedJob}

-- How many moves and edits there are, the moves that are left, the answers to the queries in order, and all strips after all edits.
pub record IsFinished (job : Job) (queries : List Query) (finished : FinishedJob) : Type 0 where
  pub moves : finished.moves ≡ length job.plan.moves
  pub edits : finished.edits ≡ length job.plan.edits
  pub brought : AreBroughtUp job finished.left.items finished.strips.items
  pub answers : finished.answers.items ≡ map (answer_of job) queries
