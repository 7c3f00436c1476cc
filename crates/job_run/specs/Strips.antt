-- All strips of a job, and the versions at which they are.
use Rattle.std.specs.Prelude.{◌≡◌, ℕ, ◌+◌, ◌<◌, List, Some, length, slice_get}
use Rattle.ray_grid.specs.Ranges.{IsGrid}
use Rattle.ray_grid.specs.Strips.{strips_of}
use Rattle.job_model.specs.Tasks.{Job, PlanOf}
use Rattle.strip_journal.specs.Strips.{StripOf}
use Rattle.turn_core.specs.World.{AreStrips}

-- the strip of a number of the job after `done` edits
abbrev pub strip_with : Job → ℕ → ℕ → StripOf
strip_with job done number = record { job = job; number = number; done = done }

-- the first `count` strips of the job, each after `done` edits
pub record AreFirst (job : Job) (done count : ℕ) (strips : List StripOf) : Type 0 where
  pub many : length strips ≡ count
  pub each : (k : ℕ) (s : StripOf) → slice_get strips k ≡ Some s → s ≡ strip_with job done k

-- the strips of the job with the numbers from one on and below another, in order, each after `done` edits
pub record AreFrom (job : Job) (done from to : ℕ) (strips : List StripOf) : Type 0 where
  pub many : from + length strips ≡ to
  pub each : (k : ℕ) (s : StripOf) → slice_get strips k ≡ Some s → s ≡ strip_with job done (from + k)

-- all strips of a job with this plan, each after `done` edits
pub record AreAt (plan : PlanOf) (job : Job) (done : ℕ) (strips : List StripOf) : Type 0 where
  pub plan_is : job.plan ≡ plan
  pub grid : IsGrid plan.grid
  pub first : AreFirst job done (length (strips_of plan.grid)) strips

-- all strips of a job with this plan, each after some edits
pub record AreOf (plan : PlanOf) (job : Job) (strips : List StripOf) : Type 0 where
  pub plan_is : job.plan ≡ plan
  pub grid : IsGrid plan.grid
  pub strips_are : AreStrips job strips

-- the same, and the first `count` of them after all edits
pub record AreRaised (plan : PlanOf) (job : Job) (count : ℕ) (strips : List StripOf) : Type 0 where
  pub strips_are : AreOf plan job strips
  pub raised : (k : ℕ) (s : StripOf) → k < count → slice_get strips k ≡ Some s → s.done ≡ length plan.edits
