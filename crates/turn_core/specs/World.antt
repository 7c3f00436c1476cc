-- The core: a version for each strip, and what steps do.
use Rattle.std.specs.Prelude.{◌≡◌, ℕ, ◌+◌, ◌<◌, ◌≤◌, List, [], ◌∷◌, Some, length, map, max, min}
use Rattle.std.specs.Prelude.{slice_get, slice_index, slice_index_or, slice_set}
use Rattle.ray_grid.specs.Strips.{strip_number, strips_of}
use Rattle.edit_plan.specs.declared.query.Ask.{Ask}
use Rattle.edit_plan.specs.declared.query.Ask.TheVariants as asks
use Rattle.edit_plan.specs.declared.query.Query.{Query}
use Rattle.job_counts.specs.declared.totals.Answer.{Answer}
use Rattle.job_model.specs.Points.{left_moves}
use Rattle.job_model.specs.Answers.{answer_after}
use Rattle.job_model.specs.Tasks.{Job, PlanOf}
use Rattle.strip_journal.specs.Strips.{StripOf}
use Rattle.turn_core.specs.declared.step.Step.{Step}
use Rattle.turn_core.specs.declared.step.Step.TheVariants.{Ask as ask_step, Turn as turn_step}

-- the strip of that number of the job, after some of its edits
pub record IsStrip (job : Job) (number : ℕ) (s : StripOf) : Type 0 where
  pub job_is : s.job ≡ job
  pub number_is : s.number ≡ number
  pub within : s.done ≤ length job.plan.edits

-- all strips of the job, in order
pub record AreStrips (job : Job) (strips : List StripOf) : Type 0 where
  pub many : length strips ≡ length (strips_of job.plan.grid)
  pub each : (k : ℕ) (s : StripOf) → slice_get strips k ≡ Some s → IsStrip job k s

-- all strips of a plan, in order, whatever the bodies are
pub record AreOfPlan (plan : PlanOf) (strips : List StripOf) : Type 0 where
  pub many : length strips ≡ length (strips_of plan.grid)
  pub plans : (k : ℕ) (s : StripOf) → slice_get strips k ≡ Some s → s.job.plan ≡ plan
  pub numbers : (k : ℕ) (s : StripOf) → slice_get strips k ≡ Some s → s.number ≡ k

-- their versions
abbrev pub versions_of : List StripOf → List ℕ
versions_of strips = map (λ s. s.done) strips

-- a step is about a strip of the plan, or one of `queries` queries
abbrev pub IsStepOf : PlanOf → ℕ → Step → Type 0
IsStepOf plan queries (turn_step strip) = strip < length (strips_of plan.grid)
IsStepOf plan queries (ask_step query) = query < queries

-- the versions after a question at a version was answered: the strips that it needs are raised
abbrev pub after_ask : PlanOf → ℕ → Ask → List ℕ → List ℕ
after_ask plan version (asks.Probe ray l) versions =
    let strip = strip_number plan.grid ray.family ray.i in
    slice_set versions strip (max (slice_index versions strip) version)
after_ask plan version asks.Count versions = map (λ v. max v version) versions

-- the query of a number
abbrev pub query_at : List Query → ℕ → Query
query_at queries n = slice_index_or queries n record { version = 0; ask = asks.Count }

-- the versions after a step
abbrev pub after_step : PlanOf → List Query → List ℕ → Step → List ℕ
after_step plan queries versions (turn_step strip) = slice_set versions strip (min (slice_index versions strip + 8) (length plan.edits))
after_step plan queries versions (ask_step query) = after_ask plan (query_at queries query).version (query_at queries query).ask versions

abbrev pub after_steps : PlanOf → List Query → List ℕ → List Step → List ℕ
after_steps plan queries versions [] = versions
after_steps plan queries versions (step ∷ steps) = after_steps plan queries (after_step plan queries versions step) steps

-- a query's answer: the one at its own version
abbrev pub answer_of : Job → Query → Answer
answer_of job query = answer_after job (left_moves job.plan query.version) query.ask

-- the answers to the questions among the steps, in order
abbrev pub answers_to : Job → List Query → List Step → List Answer
answers_to job queries [] = []
answers_to job queries (turn_step strip ∷ steps) = answers_to job queries steps
answers_to job queries (ask_step query ∷ steps) = answer_of job (query_at queries query) ∷ answers_to job queries steps

-- the strips after a step or several: the same strips of the same job, at the versions that the core says
pub record AreStripsAt (job : Job) (strips : List StripOf) (versions : List ℕ) : Type 0 where
  pub strips_are : AreStrips job strips
  pub versions_are : versions_of strips ≡ versions

-- each version of the one list is at most the one at its place in the other
pub record AreUpTo (low high : List ℕ) : Type 0 where
  pub many : length high ≡ length low
  pub each : (k : ℕ) → slice_index low k ≤ slice_index high k

-- each version is at least that of the one list and at most that of the other
pub record AreBetween (low high versions : List ℕ) : Type 0 where
  pub later : AreUpTo low versions
  pub short : AreUpTo versions high
