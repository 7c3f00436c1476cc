-- The laws of a holder: when it keeps off, what its counts say of one another, and how they are counted.
use Rattle.std.specs.Prelude.{◌≡◌, ◌<◌, ◌↔◌, true, All, List, map}
use Rattle.std.specs.List.{flat_map}
use Rattle.ray_grid.specs.Points.{LatticePoint, points_on}
use Rattle.ray_grid.specs.Strips.{strips_of}
use Rattle.job_counts.specs.Holder.{is_holder_clear, no_holder_counts}
use Rattle.holder_check.specs.Above.{HolderFits, HolderSize, IsHolder}
use Rattle.job_model.specs.Holders.{HolderKeepsOff, HolderStrikes, SureArePossible, holder_found, holder_found_by, holder_found_over, is_struck}
use Rattle.job_model.specs.Sums.{sum_holder_counts}
use Rattle.job_model.specs.Tasks.{IsJobMove, Job, JobMove, PlanOf}

-- a valid move with a valid holder that fits above its cutter, after any valid moves: where the holder is clear it keeps off
abbrev pub ClearHolderKeepsOff : Type 0
ClearHolderKeepsOff =
    (job : Job) (holder : HolderSize) (before : List JobMove) (move : JobMove) → 0 < job.plan.slabs → All IsJobMove before → IsJobMove move
    → IsHolder holder → HolderFits holder move.cutter → is_holder_clear (holder_found job holder before move) ≡ true
    → HolderKeepsOff job holder before move

-- a point that the holder is sure to meet is struck
abbrev pub SureHolderStrikes : Type 0
SureHolderStrikes =
    (plan : PlanOf) (holder : HolderSize) (move : JobMove) (point : LatticePoint)
    → is_struck plan holder move point ≡ true → HolderStrikes holder move point

-- over any points a holder's counts are those by the tool that it is
abbrev pub HolderIsTool : Type 0
HolderIsTool =
    (job : Job) (holder : HolderSize) (points : List LatticePoint) (before : List JobMove) (move : JobMove) → 0 < job.plan.slabs
    → holder_found_over job holder points before move ≡ holder_found_by job holder points before move

-- and over the lattice they are those of its strips together
abbrev pub HolderByStrips : Type 0
HolderByStrips =
    (job : Job) (holder : HolderSize) (before : List JobMove) (move : JobMove)
    → holder_found job holder before move
    ≡ sum_holder_counts (map (λ strip. holder_found_over job holder (flat_map (points_on job.plan.grid) strip) before move)
    (strips_of job.plan.grid))

-- a valid holder's counts over any points: what is sure is possible too, so it is clear exactly where all six counts are 0
abbrev pub SureHolderIsPossible : Type 0
SureHolderIsPossible =
    (job : Job) (holder : HolderSize) (points : List LatticePoint) (before : List JobMove) (move : JobMove) → 0 < job.plan.slabs
    → All IsJobMove before → IsJobMove move → IsHolder holder → HolderFits holder move.cutter
    → SureArePossible (holder_found_over job holder points before move)

abbrev pub ClearHolderIsZero : Type 0
ClearHolderIsZero =
    (job : Job) (holder : HolderSize) (points : List LatticePoint) (before : List JobMove) (move : JobMove) → 0 < job.plan.slabs
    → All IsJobMove before → IsJobMove move → IsHolder holder → HolderFits holder move.cutter
    → let counts = holder_found_over job holder points before move in (is_holder_clear counts ≡ true) ↔ (counts ≡ no_holder_counts)
