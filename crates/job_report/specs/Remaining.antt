-- What is left of a job's stock: the stock points that aren't removed.
use Rattle.std.specs.Prelude.{Bool, true, false, List, length}
use Rattle.job_counts.specs.declared.totals.PointState.{PointState}
use Rattle.job_counts.specs.declared.totals.PointState.TheVariants.{Kept, Possible}
use Rattle.job_model.specs.Points.{left_moves, state_after}
use Rattle.job_model.specs.Tasks.{Job, JobMove}
use Rattle.stock_file.specs.PointSets.{saved_where}
use Rattle.stock_file.specs.Saved.{Saved}

-- a point of this state is stock that no move was sure of
abbrev pub remains : PointState → Bool
remains Kept = true
remains Possible = true
remains _ = false

-- the stock that is left after moves
abbrev pub remaining_after : Job → List JobMove → Saved
remaining_after job moves = saved_where job.plan.grid (λ point. remains (state_after job moves point))

-- and after the moves that are left in the end
abbrev pub remaining_stock : Job → Saved
remaining_stock job = remaining_after job (left_moves job.plan (length job.plan.edits))
