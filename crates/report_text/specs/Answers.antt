-- The lines of questions with their answers.
use Rattle.std.specs.Prelude.{ℕ, List, [], ◌++◌, codes, decimal}
use Rattle.edit_plan.specs.declared.query.Ask.{Ask}
use Rattle.edit_plan.specs.declared.query.Ask.TheVariants as asks
use Rattle.job_counts.specs.declared.totals.Answer.{Answer}
use Rattle.job_counts.specs.declared.totals.Answer.TheVariants as answers
use Rattle.job_counts.specs.declared.totals.PointState.{PointState}
use Rattle.job_counts.specs.declared.totals.PointState.TheVariants.{Absent, Kept, Possible, Removed}
use Rattle.job_counts.specs.declared.totals.Totals.{Totals}
use Rattle.ray_grid.specs.declared.ray.Family.{Family}
use Rattle.ray_grid.specs.declared.ray.Family.TheVariants.{X, Y, Z}
use Rattle.ray_grid.specs.declared.ray.Ray.{Ray}
use Rattle.report_text.specs.Verdict.{points_text}

-- a family of rays by the axis that they run along
abbrev pub family_name : Family → List ℕ
family_name X = codes "X"
family_name Y = codes "Y"
family_name Z = codes "Z"

-- a point's state; one that isn't stock has none
abbrev pub state_name : PointState → List ℕ
state_name Absent = codes "none"
state_name Kept = codes "kept"
state_name Possible = codes "possible"
state_name Removed = codes "removed"

-- a point of a ray, and its state
abbrev pub probe_text : Ray → ℕ → PointState → List ℕ
probe_text ray l state =
    codes "probe " ++ family_name ray.family ++ codes " " ++ decimal ray.i ++ codes " " ++ decimal ray.j ++ codes " " ++ decimal l
    ++ codes " " ++ state_name state

-- the totals that were asked for
abbrev pub count_text : Totals → List ℕ
count_text totals = codes "count" ++ points_text totals

-- a question with its answer; one of another kind is no answer
abbrev pub answer_text : Ask → Answer → List ℕ
answer_text (asks.Probe ray l) (answers.Probe state) = probe_text ray l state
answer_text asks.Count (answers.Count totals) = count_text totals
answer_text _ _ = []
