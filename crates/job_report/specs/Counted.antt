-- What the numbers of a report count: points of the lattice, by a judge.
use Rattle.std.specs.Prelude.{◌≡◌, ℕ, Bool, true, false, not, ◌&&◌, List, count_by}
use Rattle.ray_grid.specs.Points.{LatticePoint, lattice_of}
use Rattle.job_counts.specs.declared.counts.Counts.{Counts}
use Rattle.job_counts.specs.declared.totals.PointState.{PointState}
use Rattle.job_counts.specs.declared.totals.PointState.TheVariants.{Absent, Kept, Possible, Removed}
use Rattle.job_counts.specs.declared.totals.Totals.{Totals}
use Rattle.job_model.specs.Meets.{NoneMeets, SomeMeets}
use Rattle.job_model.specs.Points.{is_fixture, is_part, is_stock}
use Rattle.job_model.specs.Tasks.{Job, JobMove}
use Rattle.job_report.specs.Judges.{Judge, any_possible, any_sure}

-- how many points of the lattice pass a test
abbrev pub points_with : Job → (LatticePoint → Bool) → ℕ
points_with job test = count_by test (lattice_of job.plan.grid)

-- The counts on a move's line. Of the stock: the points of which the move is sure and no move before it was; those at which it is
-- possible and no move before it was. Of the part and of the fixtures: the points of which it is sure, and those at which it is
-- possible. Of the stock, only for a rapid move: the points of which it is sure and at which no move before it was possible; those at
-- which it is possible and of which no move before it was sure.
pub record AreCounted (job : Job) (judge : Judge) (before : List JobMove) (move : JobMove) (counts : Counts) : Type 0 where
  pub removed : counts.removed
      ≡ points_with job (λ p. is_stock job p && (judge.sure move p && not (any_sure judge before p)))
  pub possible : counts.possible
      ≡ points_with job (λ p. is_stock job p && (judge.possible move p && not (any_possible judge before p)))
  pub part_sure : counts.part_sure ≡ points_with job (λ p. is_part job p && judge.sure move p)
  pub part_possible : counts.part_possible ≡ points_with job (λ p. is_part job p && judge.possible move p)
  pub fix_sure : counts.fix_sure ≡ points_with job (λ p. is_fixture job p && judge.sure move p)
  pub fix_possible : counts.fix_possible ≡ points_with job (λ p. is_fixture job p && judge.possible move p)
  pub rapid_sure : counts.rapid_sure
      ≡ points_with job (λ p. move.rapid && (is_stock job p && (judge.sure move p && not (any_possible judge before p))))
  pub rapid_possible : counts.rapid_possible
      ≡ points_with job (λ p. move.rapid && (is_stock job p && (judge.possible move p && not (any_sure judge before p))))

-- The totals after moves: the stock points of which some of them is sure; those at which some is possible; all.
pub record AreTotals (job : Job) (judge : Judge) (moves : List JobMove) (totals : Totals) : Type 0 where
  pub removed : totals.removed ≡ points_with job (λ p. is_stock job p && any_sure judge moves p)
  pub possible : totals.possible ≡ points_with job (λ p. is_stock job p && any_possible judge moves p)
  pub of : totals.of ≡ points_with job (is_stock job)

-- The state of a point after moves, by the judge: no stock; stock at which none of them is possible; at which some is possible, and
-- of which none is sure; of which some is sure.
abbrev pub IsJudged : Job → Judge → List JobMove → LatticePoint → PointState → Type 0
IsJudged job judge moves point Absent = is_stock job point ≡ false
IsJudged job judge moves point Kept = (is_stock job point ≡ true) × (any_possible judge moves point ≡ false)
IsJudged job judge moves point Possible =
    (is_stock job point ≡ true) × (any_possible judge moves point ≡ true) × (any_sure judge moves point ≡ false)
IsJudged job judge moves point Removed = (is_stock job point ≡ true) × (any_sure judge moves point ≡ true)

-- what a state says of the exact cutters: some of the moves met what is removed, none what is kept
abbrev pub IsSoOfCutters : List JobMove → LatticePoint → PointState → Type 0
IsSoOfCutters moves point Removed = SomeMeets moves point
IsSoOfCutters moves point Kept = NoneMeets moves point
IsSoOfCutters moves point _ = Unit {0}
