-- When what is saved of a job's stock is true, point by point. As in Truth, nothing here rests on how states are defined elsewhere.
use Rattle.std.specs.Prelude.{◌≡◌, true, false, not, ◌&&◌, List}
use Rattle.vf_spans.specs.Members.{has}
use Rattle.ray_grid.specs.Points.{IsPointOf, LatticePoint}
use Rattle.edit_plan.specs.Edits.{left_of}
use Rattle.job_model.specs.Meets.{SomeMeets}
use Rattle.job_model.specs.Points.{is_stock, moves_of}
use Rattle.job_model.specs.Tasks.{Job, JobMove}
use Rattle.job_report.specs.Judges.{IsRight, Judge, any_sure}
use Rattle.stock_file.specs.Saved.{IsSaved, Saved, set_of}

-- The saved stock is one of the job's grid. A point of it is saved exactly where it is stock of which none of the moves is sure. So stock
-- that isn't saved was met by the lower cutter of one of the moves.
pub record IsTrueStock (job : Job) (judge : Judge) (moves : List JobMove) (saved : Saved) : Type 0 where
  pub valid : IsSaved saved
  pub grid : saved.grid ≡ job.plan.grid
  pub each : (point : LatticePoint) → IsPointOf job.plan.grid point
      → has (set_of saved point.ray) point.l ≡ (is_stock job point && not (any_sure judge moves point))
  pub gone : (point : LatticePoint) → IsPointOf job.plan.grid point → is_stock job point ≡ true
      → has (set_of saved point.ray) point.l ≡ false → SomeMeets moves point

-- the moves are those that are left in the end, and the judge is right about the exact cutters
pub record IsTrueRemainder (job : Job) (saved : Saved) : Type 0 where
  pub judge : Judge
  pub right : IsRight job.plan.moves judge
  pub stock_is : IsTrueStock job judge (moves_of job.plan (left_of job.plan.edits)) saved
