-- Answers, and the questions that they are given to.
use Rattle.std.specs.Prelude.{Bool, true, false}
use Rattle.edit_plan.specs.declared.query.Ask.{Ask}
use Rattle.edit_plan.specs.declared.query.Ask.TheVariants as asks
use Rattle.job_counts.specs.declared.totals.Answer.{Answer}
use Rattle.job_counts.specs.declared.totals.Answer.TheVariants as answers

-- an answer is of its question's kind: a point's state to a probe, totals to a count
abbrev pub is_answer_to : Ask → Answer → Bool
is_answer_to (asks.Probe ray l) (answers.Probe state) = true
is_answer_to asks.Count (answers.Count totals) = true
is_answer_to _ _ = false
