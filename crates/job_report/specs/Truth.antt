-- When a report is true, line by line. Nothing here rests on how counts, findings and totals are defined elsewhere: a line's numbers
-- are said to count points of the lattice, by a judge that is right about the exact cutters.
use Rattle.std.specs.Prelude.{◌≡◌, ℕ, ◌+◌, ◌↔◌, true, All, List, Some, length, slice_get, sum_by, take}
use Rattle.edit_plan.specs.Edits.{left_of}
use Rattle.edit_plan.specs.declared.query.Ask.{Ask}
use Rattle.edit_plan.specs.declared.query.Ask.TheVariants as asks
use Rattle.edit_plan.specs.declared.query.Query.{Query}
use Rattle.job_counts.specs.Counts.{is_safe}
use Rattle.job_counts.specs.declared.totals.Answer.{Answer}
use Rattle.job_counts.specs.declared.totals.Answer.TheVariants as answers
use Rattle.job_counts.specs.declared.totals.PointState.{PointState}
use Rattle.ray_grid.specs.Points.{LatticePoint, point_in}
use Rattle.job_model.specs.Meets.{KeepsOff}
use Rattle.job_model.specs.Points.{left_moves, moves_of}
use Rattle.job_model.specs.Tasks.{Job, JobMove}
use Rattle.job_report.specs.Counted.{AreCounted, AreTotals, IsJudged, IsSoOfCutters}
use Rattle.job_report.specs.Facts.{JobFacts, is_clean}
use Rattle.job_report.specs.Judges.{IsRight, Judge}
use Rattle.job_report.specs.Tasks.{Task}
use Rattle.job_report.specs.declared.facts.Found.{Found}

-- The line of the move with this number, after moves: it has the move's number (from 1), line and rapid mark; its numbers count what
-- they should; and where it says safe the move keeps off.
pub record IsTrueLine (job : Job) (judge : Judge) (before : List JobMove) (number : ℕ) (found : Found) : Type 0 where
  pub move : JobMove
  pub is_move : slice_get job.plan.moves number ≡ Some move
  pub number_is : found.number ≡ number + 1
  pub line_is : found.line ≡ move.line
  pub rapid_is : found.rapid ≡ move.rapid
  pub counted : AreCounted job judge before move found.counts
  pub safe : is_safe found.counts ≡ true → KeepsOff job before move

-- As many lines as there are moves with these numbers, each that of the move at its place, after the moves at the places before it.
pub record AreTrueLines (job : Job) (judge : Judge) (numbers : List ℕ) (lines : List Found) : Type 0 where
  pub many : length lines ≡ length numbers
  pub each : (j number : ℕ) (found : Found) → slice_get numbers j ≡ Some number → slice_get lines j ≡ Some found
      → IsTrueLine job judge (moves_of job.plan (take j numbers)) number found

-- a point's state after moves is the judge's, and what it says of the exact cutters is so
pub record IsTrueState (job : Job) (judge : Judge) (moves : List JobMove) (point : LatticePoint) (state : PointState) : Type 0 where
  pub judged : IsJudged job judge moves point state
  pub so : IsSoOfCutters moves point state

-- an answer after moves is of its question's kind, and true
abbrev pub IsTrueAnswer : Job → Judge → List JobMove → Ask → Answer → Type 0
IsTrueAnswer job judge moves (asks.Probe ray l) (answers.Probe state) = IsTrueState job judge moves (point_in job.plan.grid ray l) state
IsTrueAnswer job judge moves asks.Count (answers.Count totals) = AreTotals job judge moves totals
IsTrueAnswer job judge moves _ _ = ⊥

-- each query has its own question and an answer that is true after the moves that are left at its own version
pub record AreTrueAnswers (job : Job) (judge : Judge) (queries : List Query) (answered : List (Ask × Answer)) : Type 0 where
  pub many : length answered ≡ length queries
  pub each : (k : ℕ) (query : Query) (pair : Ask × Answer) → slice_get queries k ≡ Some query → slice_get answered k ≡ Some pair
      → (pair.0 ≡ query.ask) × IsTrueAnswer job judge (left_moves job.plan query.version) query.ask pair.1

-- The report of a task is true, by one judge for all of it: it has the numbers of moves and of records passed over; a true line for
-- each move that is left in the end; a true answer for each query; the totals after the moves that are left. What the lines count as
-- removed and as possible adds up to the totals, and the verdict is clean exactly where each line says safe.
pub record IsTrueReport (task : Task) (facts : JobFacts) : Type 0 where
  pub judge : Judge
  pub right : IsRight task.job.plan.moves judge
  pub moves : facts.moves ≡ length task.job.plan.moves
  pub passed : facts.passed ≡ task.passed
  pub lines : AreTrueLines task.job judge (left_of task.job.plan.edits) facts.left
  pub answers : AreTrueAnswers task.job judge task.queries facts.answers
  pub totals : AreTotals task.job judge (moves_of task.job.plan (left_of task.job.plan.edits)) facts.totals
  pub removed : sum_by (λ (found : Found). found.counts.removed) facts.left ≡ facts.totals.removed
  pub possible : sum_by (λ (found : Found). found.counts.possible) facts.left ≡ facts.totals.possible
  pub clean : (is_clean facts.left ≡ true) ↔ All (λ (found : Found). is_safe found.counts ≡ true) facts.left
