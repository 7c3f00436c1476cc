-- Questions with their answers.
use Rattle.std.proofs.Common.{◌≡◌, true, ℕ, ◌+◌, ◌<◌, Bool, ◌&&◌, List, [], ◌∷◌}
use Rattle.std.proofs.Common.{◌++◌, length, map, take, get_or, arith, refl, sym, ap, ap₂, ◌∙◌}
use Rattle.std.proofs.lemmas.List.{length-take-le, take_more}
use Rattle.edit_plan.specs.declared.query.Ask.{Ask}
use Rattle.edit_plan.specs.declared.query.Ask.TheVariants as asks
use Rattle.edit_plan.specs.declared.query.Query.{Query}
use Rattle.job_counts.specs.declared.totals.Answer.{Answer}
use Rattle.job_report.specs.Answers.{is_answer_to}
use Rattle.job_report.specs.Facts.{are_answered}
use Rattle.job_model.specs.Points.{left_moves}
use Rattle.job_model.specs.Answers.{answer_after}
use Rattle.job_report.specs.Report.{answered}
use Rattle.job_model.specs.Tasks.{Job, JobMove}
use Rattle.turn_core.specs.World.{answer_of}
use Rattle.job_run.specs.Asked.{asked_with}

asked_append : (queries : List Query) (answers : List Answer) (query : Query) (answer : Answer) → length queries ≡ length answers
    → asked_with (queries ++ query ∷ []) (answers ++ answer ∷ []) ≡ asked_with queries answers ++ (query.ask, answer) ∷ []
asked_append [] [] query answer e = refl
asked_append [] (x ∷ answers) query answer e = absurd (omega arith)
asked_append (q ∷ queries) [] query answer e = absurd (omega arith)
asked_append (q ∷ queries) (x ∷ answers) query answer e =
    ap (λ (l : List (Ask × Answer)). (q.ask, x) ∷ l) (asked_append queries answers query answer (omega arith))

-- one question more
pub asked_more : (queries : List Query) (answers : List Answer) (n : ℕ) (q : Query) (a : Answer) (before after : List (Ask × Answer))
    → length answers ≡ length queries → n < length queries → before ≡ asked_with (take n queries) (take n answers)
    → after ≡ before ++ ((get_or queries n q).ask, get_or answers n a) ∷ []
    → after ≡ asked_with (take (n + 1) queries) (take (n + 1) answers)
asked_more queries answers n q a before after e lt is pushed =
    let pair : Ask × Answer = ((get_or queries n q).ask, get_or answers n a) in
    let long : length (take n queries) ≡ length (take n answers) =
    length-take-le n queries (omega arith) ∙ sym (length-take-le n answers (omega arith)) in
    pushed ∙ ap (λ (l : List (Ask × Answer)). l ++ pair ∷ []) is
    ∙ sym (ap₂ asked_with (take_more queries n q lt) (take_more answers n a (omega arith))
    ∙ asked_append (take n queries) (take n answers) (get_or queries n q) (get_or answers n a) long)

-- each with the answer at its own version
pub asked_is : (job : Job) (queries : List Query) → asked_with queries (map (answer_of job) queries) ≡ map (answered job) queries
asked_is job [] = refl
asked_is job (query ∷ queries) = ap (λ (l : List (Ask × Answer)). answered job query ∷ l) (asked_is job queries)

kind_is : (job : Job) (moves : List JobMove) (ask : Ask) → is_answer_to ask (answer_after job moves ask) ≡ true
kind_is job moves (asks.Probe ray l) = refl
kind_is job moves asks.Count = refl

-- each answer is of its question's kind
pub all_answered : (job : Job) (queries : List Query) → are_answered (map (answered job) queries) ≡ true
all_answered job [] = refl
all_answered job (query ∷ queries) =
    ap₂ (λ (a b : Bool). a && b) (kind_is job (left_moves job.plan query.version) query.ask) (all_answered job queries)
