-- The one law of a safe move, on which what a report says of safety rests.
use Rattle.std.specs.Prelude.{◌≡◌, ◌<◌, true, All, List}
use Rattle.ray_grid.specs.Points.{lattice_of}
use Rattle.job_counts.specs.Counts.{is_safe}
use Rattle.job_model.specs.Findings.{found_over}
use Rattle.job_model.specs.Meets.{KeepsOff}
use Rattle.job_model.specs.Tasks.{IsJobMove, Job, JobMove}

-- a valid move, after any valid moves: where nothing is counted against it over the lattice, it keeps off
abbrev pub SafeMoveKeepsOff : Type 0
SafeMoveKeepsOff =
    (job : Job) (before : List JobMove) (move : JobMove) → 0 < job.plan.slabs → All IsJobMove before → IsJobMove move
    → is_safe (found_over job (lattice_of job.plan.grid) before move) ≡ true → KeepsOff job before move
