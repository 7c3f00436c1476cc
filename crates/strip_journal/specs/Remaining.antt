-- What is left of the stock.
use Rattle.std.specs.Prelude.{◌≡◌, ℕ, ◌<◌, Bool, not, ◌&&◌, List, length}
use Rattle.vf_spans.specs.Members.{has}
use Rattle.ray_grid.specs.Points.{LatticePoint}
use Rattle.dexel_rays.specs.Sets.{Sets}
use Rattle.job_model.specs.Points.{is_stock, left_moves, some_sure}
use Rattle.job_model.specs.Tasks.{Job}

-- by the sets of a ray: the stock points of which no move was sure
pub record HasRemaining (d : Sets) (left : List Bool) : Type 0 where
  pub bound : length left ≡ length d.stock
  pub points : (l : ℕ) → l < length d.stock → has left l ≡ (has d.stock l && not (has d.sure l))

-- the point is stock, and no move that is left at a version is sure of it
abbrev pub remains_at : Job → ℕ → LatticePoint → Bool
remains_at job version point = is_stock job point && not (some_sure job.plan (left_moves job.plan version) point)
