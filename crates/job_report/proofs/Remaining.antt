-- What is left of a job's stock is true.
use Rattle.std.proofs.Common.{◌≡◌, ℕ, true, false, not, ◌&&◌, Bool, List, length, if◌then◌else◌, refl, sym, subst, ap, ◌∙◌}
use Rattle.std.proofs.lemmas.Bool.{not-false, true≢false}
use Rattle.vf_spans.specs.Members.{has}
use Rattle.edit_plan.specs.Edits.{left_of}
use Rattle.edit_plan.specs.declared.edit.Edit.{Edit}
use Rattle.ray_grid.specs.Grids.{GridSize}
use Rattle.ray_grid.specs.Points.{IsPointOf, LatticePoint, point_in}
use Rattle.ray_grid.specs.Ranges.{IsGrid}
use Rattle.job_counts.specs.declared.totals.PointState.TheVariants.{Absent, Kept, Possible, Removed}
use Rattle.job_model.specs.Points.{is_stock, moves_of, some_possible, some_sure, state_after}
use Rattle.job_model.specs.Tasks.{IsPlan, Job, JobMove}
use Rattle.job_model.proofs.Lists.{moves_valid}
use Rattle.job_model.proofs.Safe.{some_meets}
use Rattle.stock_file.specs.Saved.{IsSaved, set_of}
use Rattle.stock_file.proofs.PointSets.{has-set, set_at, sets_over}
use Rattle.job_report.specs.Remaining.{remaining_after, remaining_stock, remains}
use Rattle.job_report.specs.TrueStock.{IsTrueRemainder, IsTrueStock}
use Rattle.job_report.proofs.Judged.{judge_of, right_judge}
use Rattle.job_report.proofs.True.{all_edits}

remains_by : (stock sure possible : Bool)
    → remains (if not stock then Absent else (if sure then Removed else (if possible then Possible else Kept))) ≡ (stock && not sure)
remains_by false sure possible = refl
remains_by true true possible = refl
remains_by true false true = refl
remains_by true false false = refl

-- a point remains where it is stock and none of the moves is sure of it
pub remains_where : (job : Job) (moves : List JobMove) (point : LatticePoint)
    → remains (state_after job moves point) ≡ (is_stock job point && not (some_sure job.plan moves point))
remains_where job moves point = remains_by (is_stock job point) (some_sure job.plan moves point) (some_possible job.plan moves point)

-- a point by its ray and its index
point_is : (grid : GridSize) (point : LatticePoint) → IsPointOf grid point → point_in grid point.ray point.l ≡ point
point_is grid point of = λ i. record { ray = point.ray; l = point.l; position = sym of.position i }

saved_there : (job : Job) (moves : List JobMove) (point : LatticePoint) → IsPointOf job.plan.grid point
    → has (set_of (remaining_after job moves) point.ray) point.l ≡ (is_stock job point && not (some_sure job.plan moves point))
saved_there job moves point of =
    let grid = job.plan.grid in
    let inside : LatticePoint → Bool = λ p. remains (state_after job moves p) in
    ap (λ (set : List Bool). has set point.l) (set_at grid inside point.ray of.ray)
    ∙ has-set grid inside point.ray point.l of.index
    ∙ ap inside (point_is grid point of)
    ∙ remains_where job moves point

met_where : (stock sure : Bool) → stock ≡ true → (stock && not sure) ≡ false → sure ≡ true
met_where true sure in_stock none = not-false sure none
met_where false sure in_stock none = absurd (true≢false (sym in_stock))

true_stock : (job : Job) (numbers : List ℕ) → IsPlan job.plan → IsSaved (remaining_after job (moves_of job.plan numbers))
    → IsTrueStock job (judge_of job.plan) (moves_of job.plan numbers) (remaining_after job (moves_of job.plan numbers))
true_stock job numbers valid saved =
    let moves = moves_of job.plan numbers in
    record {
      valid = saved;
      grid = refl;
      each = λ point of. saved_there job moves point of;
      gone = λ point of in_stock none. some_meets job.plan moves point valid.some (moves_valid job.plan numbers valid.moves)
          (met_where (is_stock job point) (some_sure job.plan moves point) in_stock (sym (saved_there job moves point of) ∙ none));
    }

-- the stock that is left on a valid grid is one that can be saved
pub remaining_saved : (job : Job) (moves : List JobMove) → length job.plan.grid.origin ≡ 3 → length job.plan.grid.counts ≡ 3
    → IsGrid job.plan.grid → IsSaved (remaining_after job moves)
remaining_saved job moves origin counts is = record {
  origin = origin;
  counts = counts;
  grid = is;
  sets = sets_over job.plan.grid (λ p. remains (state_after job moves p));
}

pub true_remainder : (job : Job) → IsPlan job.plan → IsSaved (remaining_stock job) → IsTrueRemainder job (remaining_stock job)
true_remainder job valid saved = record {
  judge = judge_of job.plan;
  right = right_judge job.plan valid;
  stock_is = subst (λ (es : List Edit). IsSaved (remaining_after job (moves_of job.plan (left_of es)))
      → IsTrueStock job (judge_of job.plan) (moves_of job.plan (left_of job.plan.edits)) (remaining_after job (moves_of job.plan (left_of es))))
      (sym (all_edits job.plan.edits)) (true_stock job (left_of job.plan.edits) valid) saved;
}
