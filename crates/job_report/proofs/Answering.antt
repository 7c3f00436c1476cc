-- The answers and the totals are true.
use Rattle.std.proofs.Common.{◌≡◌, true, false, not, ◌<◌, Bool, if◌then◌else◌, List, map, refl, sym, subst, ap, ◌∙◌}
use Rattle.std.specs.List.{All}
use Rattle.std.specs.Option.{option_map}
use Rattle.std.proofs.lemmas.List.{length-map}
use Rattle.std.proofs.lemmas.List.Elements.{All-contains}
use Rattle.std.proofs.lemmas.Option.{same_Some, slice_get-map}
use Rattle.edit_plan.specs.Edits.{left_at}
use Rattle.edit_plan.specs.declared.query.Ask.{Ask}
use Rattle.edit_plan.specs.declared.query.Ask.TheVariants.{Count, Probe}
use Rattle.edit_plan.specs.declared.query.Query.{Query}
use Rattle.job_counts.specs.declared.totals.Answer.{Answer}
use Rattle.job_counts.specs.declared.totals.PointState.TheVariants.{Absent, Kept, Possible, Removed}
use Rattle.ray_grid.specs.Points.{LatticePoint, point_in}
use Rattle.job_model.specs.Answers.{answer_after}
use Rattle.job_model.specs.Points.{is_possible, is_stock, left_moves, some_possible, some_sure, state_after, totals_after}
use Rattle.job_model.specs.Tasks.{IsJobMove, IsPlan, Job, JobMove}
use Rattle.job_model.proofs.Lists.{moves_valid, none_among}
use Rattle.job_model.proofs.Safe.{out_not_met, some_meets}
use Rattle.job_report.specs.Counted.{AreTotals, IsJudged, IsSoOfCutters}
use Rattle.job_report.specs.Report.{answered}
use Rattle.job_report.specs.Truth.{AreTrueAnswers, IsTrueAnswer, IsTrueState}
use Rattle.job_report.proofs.Judged.{judge_of}

-- the state that three tests give is the judge's
judged : (job : Job) (moves : List JobMove) (point : LatticePoint) (stock sure possible : Bool)
    → is_stock job point ≡ stock → some_sure job.plan moves point ≡ sure → some_possible job.plan moves point ≡ possible
    → IsJudged job (judge_of job.plan) moves point (if not stock then Absent else (if sure then Removed else (if possible then Possible else Kept)))
judged job moves point false sure possible in_stock sure_is possible_is = in_stock
judged job moves point true true possible in_stock sure_is possible_is = (in_stock, sure_is)
judged job moves point true false true in_stock sure_is possible_is = (in_stock, possible_is, sure_is)
judged job moves point true false false in_stock sure_is possible_is = (in_stock, possible_is)

-- and what it says of the cutters is so
so_of_cutters : (job : Job) (moves : List JobMove) (point : LatticePoint) (stock sure possible : Bool) → 0 < job.plan.slabs → All IsJobMove moves
    → some_sure job.plan moves point ≡ sure → some_possible job.plan moves point ≡ possible
    → IsSoOfCutters moves point (if not stock then Absent else (if sure then Removed else (if possible then Possible else Kept)))
so_of_cutters job moves point false sure possible some valid sure_is possible_is = tt
so_of_cutters job moves point true true possible some valid sure_is possible_is = some_meets job.plan moves point some valid sure_is
so_of_cutters job moves point true false true some valid sure_is possible_is = tt
so_of_cutters job moves point true false false some valid sure_is possible_is =
    λ move among. out_not_met job.plan move point some (All-contains IsJobMove moves move valid among)
    (none_among (λ m. is_possible job.plan m point) moves move possible_is among)

true_state : (job : Job) (moves : List JobMove) (point : LatticePoint) → 0 < job.plan.slabs → All IsJobMove moves
    → IsTrueState job (judge_of job.plan) moves point (state_after job moves point)
true_state job moves point some valid = record {
  judged = judged job moves point (is_stock job point) (some_sure job.plan moves point) (some_possible job.plan moves point) refl refl refl;
  so = so_of_cutters job moves point (is_stock job point) (some_sure job.plan moves point) (some_possible job.plan moves point) some valid refl refl;
}

pub true_totals : (job : Job) (moves : List JobMove) → AreTotals job (judge_of job.plan) moves (totals_after job moves)
true_totals job moves = record { removed = refl; possible = refl; of = refl }

true_answer : (job : Job) (moves : List JobMove) (ask : Ask) → 0 < job.plan.slabs → All IsJobMove moves
    → IsTrueAnswer job (judge_of job.plan) moves ask (answer_after job moves ask)
true_answer job moves (Probe ray l) some valid = true_state job moves (point_in job.plan.grid ray l) some valid
true_answer job moves Count some valid = true_totals job moves

-- an answer with its question
true_pair : (job : Job) (query : Query) (pair : Ask × Answer) → IsPlan job.plan → answered job query ≡ pair
    → (pair.0 ≡ query.ask) × IsTrueAnswer job (judge_of job.plan) (left_moves job.plan query.version) query.ask pair.1
true_pair job query pair valid same =
    subst (λ (p : Ask × Answer). (p.0 ≡ query.ask) × IsTrueAnswer job (judge_of job.plan) (left_moves job.plan query.version) query.ask p.1) same
    (refl, true_answer job (left_moves job.plan query.version) query.ask valid.some (moves_valid job.plan (left_at job.plan.edits query.version) valid.moves))

pub true_answers : (job : Job) (queries : List Query) → IsPlan job.plan → AreTrueAnswers job (judge_of job.plan) queries (map (answered job) queries)
true_answers job queries valid = record {
  many = length-map queries (answered job);
  each = λ k query pair at has.
      true_pair job query pair valid
      (same_Some (answered job query) pair (sym (slice_get-map (answered job) queries k ∙ ap (option_map (answered job)) at) ∙ has));
}
