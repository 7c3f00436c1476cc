-- What is left of the stock, taken from the strips of a job that is done.
use Rattle.std.specs.Prelude.{◌≡◌, Bool, List, length, map}
use Rattle.std.specs.List.{flat_map}
use Rattle.ray_grid.specs.Grids.{GridSize}
use Rattle.ray_grid.specs.Points.{LatticePoint}
use Rattle.ray_grid.specs.declared.ray.Ray.{Ray}
use Rattle.job_model.specs.Tasks.{Job}
use Rattle.stock_file.specs.PointSets.{set_where}
use Rattle.strip_journal.specs.Strips.{StripOf}
use Rattle.job_run.specs.Strips.{AreAt}

-- all strips of a job on this grid, each after all edits
pub record AreFinishedOn (job : Job) (grid : GridSize) (strips : List StripOf) : Type 0 where
  pub grid_is : job.plan.grid ≡ grid
  pub strips_are : AreAt job.plan job (length job.plan.edits) strips

-- the sets of the points that pass a test, of each ray of some strips in order
abbrev pub sets_along : GridSize → (LatticePoint → Bool) → List (List Ray) → List (List Bool)
sets_along grid inside strips = flat_map (map (set_where grid inside)) strips
