-- A task as the three files give it.
use Rattle.std.specs.Prelude.{ℕ, ◌<◌, All, List, length}
use Rattle.edit_plan.specs.Edits.{AppliesBelow}
use Rattle.edit_plan.specs.declared.query.Query.{Query}
use Rattle.job_model.specs.Tasks.{IsPlan, Job}

-- What is verified: the job; how many records of the program were passed over; and the queries.
pub record Task : Type 0 where
  pub job : Job
  pub passed : ℕ
  pub queries : List Query

-- a number below another
abbrev pub IsBelow : ℕ → ℕ → Type 0
IsBelow most number = number < most

-- a valid task: its plan is valid, and each edit applies a move of it
pub record IsTask (task : Task) : Type 0 where
  pub plan : IsPlan task.job.plan
  pub named : All (AppliesBelow (length task.job.plan.moves)) task.job.plan.edits
