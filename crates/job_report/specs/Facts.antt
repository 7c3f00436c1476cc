-- What is reported of a job, as one value.
use Rattle.std.specs.Prelude.{ℕ, Bool, List}
use Rattle.std.specs.List.{list_all}
use Rattle.edit_plan.specs.declared.query.Ask.{Ask}
use Rattle.job_report.specs.Answers.{is_answer_to}
use Rattle.job_counts.specs.Counts.{is_safe}
use Rattle.job_report.specs.declared.facts.Found.{Found}
use Rattle.job_counts.specs.declared.totals.Answer.{Answer}
use Rattle.job_counts.specs.declared.totals.Totals.{Totals}

-- how many moves a program has and how many records were passed over; the moves that are left, each with what was found of it; the
-- questions, each with its answer; and the totals
pub record JobFacts : Type 0 where
  pub moves : ℕ
  pub passed : ℕ
  pub left : List Found
  pub answers : List (Ask × Answer)
  pub totals : Totals

-- each move that is left is safe
abbrev pub is_clean : List Found → Bool
is_clean left = list_all (λ (found : Found). is_safe found.counts) left

-- each answer is of its question's kind
abbrev pub are_answered : List (Ask × Answer) → Bool
are_answered answers = list_all (λ (answered : Ask × Answer). is_answer_to answered.0 answered.1) answers
