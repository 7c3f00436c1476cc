-- What the moves that are left find, counted strip by strip.
use Rattle.std.specs.Prelude.{◌≡◌, ℕ, ◌+◌, List, [], ◌∷◌, ◌++◌, All, Some, length, map, slice_get, slice_index_or, take, drop}
use Rattle.std.specs.List.{flat_map}
use Rattle.ray_grid.specs.Grids.{GridSize}
use Rattle.ray_grid.specs.Points.{LatticePoint, points_on}
use Rattle.ray_grid.specs.Strips.{strips_of}
use Rattle.edit_plan.specs.Edits.{left_of}
use Rattle.job_counts.specs.declared.counts.Counts.{Counts}
use Rattle.job_report.specs.declared.facts.Found.{Found}
use Rattle.job_counts.specs.Counts.{no_counts}
use Rattle.job_model.specs.Findings.{found_over}
use Rattle.job_model.specs.Points.{moves_of}
use Rattle.job_model.specs.Tasks.{Job, JobMove, PlanOf}
use Rattle.strip_journal.specs.Strips.{StripOf}
use Rattle.strip_plan.specs.Plans.{HasNumber}
use Rattle.job_run.specs.declared.left.LeftMove.{LeftMove}
use Rattle.job_run.specs.Left.{AreTold}
use Rattle.job_report.specs.Tasks.{IsBelow}
use Rattle.job_run.specs.Strips.{AreAt}

-- the points of the first `count` strips
abbrev pub first_points : GridSize → ℕ → List LatticePoint
first_points grid count = flat_map (flat_map (points_on grid)) (take count (strips_of grid))

-- all strips of the job after all its edits, with `left` moves that are left, each of them one that the plan has
pub record AreLeft (job : Job) (left : ℕ) (strips : List StripOf) : Type 0 where
  pub strips_are : AreAt job.plan job (length job.plan.edits) strips
  pub many : left ≡ length (left_of job.plan.edits)
  pub named : All (IsBelow (length job.plan.moves)) (left_of job.plan.edits)

-- the counts are those of the moves that are left, over these points
pub record HaveFound (job : Job) (points : List LatticePoint) (counts : List Counts) : Type 0 where
  pub many : length counts ≡ length (left_of job.plan.edits)
  pub each : (j number : ℕ) (move : JobMove) → slice_get (left_of job.plan.edits) j ≡ Some number → HasNumber job.plan number move
      → slice_index_or counts j no_counts ≡ found_over job points (moves_of job.plan (take j (left_of job.plan.edits))) move

-- all strips of the job after all its edits, with the moves that are left, as they are reported
pub record AreBroughtUp (job : Job) (left : List LeftMove) (strips : List StripOf) : Type 0 where
  pub strips_are : AreAt job.plan job (length job.plan.edits) strips
  pub told : AreTold job.plan left

-- all strips of the job after all its edits, of which there are `edits`
pub record AreLast (job : Job) (edits : ℕ) (strips : List StripOf) : Type 0 where
  pub strips_are : AreAt job.plan job (length job.plan.edits) strips
  pub many : edits ≡ length job.plan.edits

-- what is reported of a move, with its counts
abbrev pub found_told : LeftMove → Counts → Found
found_told left counts = record { number = left.number; line = left.line; rapid = left.rapid; counts = counts }

-- what is reported of a move with its number and its counts
abbrev pub found_with : ℕ → Counts → JobMove → Found
found_with number counts move = record { number = number + 1; line = move.line; rapid = move.rapid; counts = counts }

-- the same of the plan's move with that number, as the only one of a list
abbrev pub row_of : PlanOf → ℕ → Counts → List Found
row_of plan number counts = map (found_with number counts) (take 1 (drop number plan.moves))

-- the rows of several moves in order, each with the counts at its place
abbrev pub rows_of : PlanOf → List ℕ → List Counts → List Found
rows_of plan (number ∷ numbers) (counts ∷ rest) = row_of plan number counts ++ rows_of plan numbers rest
rows_of plan _ _ = []
