-- One step more.
use Rattle.std.proofs.Common.{◌≡◌, ℕ, ◌+◌, ◌<◌, List, [], ◌∷◌, ◌++◌, length, get_or, take, refl, sym, ap, ◌∙◌, subst}
use Rattle.std.proofs.lemmas.List.{take_more}
use Rattle.edit_plan.specs.declared.query.Query.{Query}
use Rattle.job_counts.specs.declared.totals.Answer.{Answer}
use Rattle.job_model.specs.Tasks.{Job, PlanOf}
use Rattle.strip_journal.specs.Strips.{StripOf}
use Rattle.turn_core.specs.declared.step.Step.{Step}
use Rattle.turn_core.specs.declared.step.Step.TheVariants.{Ask, Turn}
use Rattle.turn_core.specs.World.{AreStripsAt, after_step, after_steps, answer_of, answers_to, query_at, versions_of}

after_push : (plan : PlanOf) (queries : List Query) (versions : List ℕ) (steps : List Step) (step : Step)
    → after_steps plan queries versions (steps ++ step ∷ []) ≡ after_step plan queries (after_steps plan queries versions steps) step
after_push plan queries versions [] step = refl
after_push plan queries versions (first ∷ steps) step = after_push plan queries (after_step plan queries versions first) steps step

-- the versions after one step more
pub after_more : (plan : PlanOf) (queries : List Query) (versions : List ℕ) (steps : List Step) (k : ℕ) (x : Step) → k < length steps
    → after_step plan queries (after_steps plan queries versions (take k steps)) (get_or steps k x) ≡ after_steps plan queries versions
    (take (k + 1) steps)
after_more plan queries versions steps k x lt =
    sym (ap (after_steps plan queries versions) (take_more steps k x lt)
    ∙ after_push plan queries versions (take k steps) (get_or steps k x))

answers_push : (job : Job) (queries : List Query) (steps : List Step) (step : Step)
    → answers_to job queries (steps ++ step ∷ []) ≡ answers_to job queries steps ++ answers_to job queries (step ∷ [])
answers_push job queries [] step = refl
answers_push job queries (Turn strip ∷ steps) step = answers_push job queries steps step
answers_push job queries (Ask query ∷ steps) step =
    ap (λ answers. answer_of job (query_at queries query) ∷ answers) (answers_push job queries steps step)

-- the answers with those of one step more
pub answers_more : (job : Job) (queries : List Query) (before after : List Answer) (steps : List Step) (k : ℕ) (x : Step) → k < length steps
    → before ≡ answers_to job queries (take k steps) → after ≡ before ++ answers_to job queries (get_or steps k x ∷ [])
    → after ≡ answers_to job queries (take (k + 1) steps)
answers_more job queries before after steps k x lt is h =
    h ∙ ap (λ answers. answers ++ answers_to job queries (get_or steps k x ∷ [])) is
    ∙ sym (ap (answers_to job queries) (take_more steps k x lt) ∙ answers_push job queries (take k steps) (get_or steps k x))

-- strips after one step more
pub strips_more : (plan : PlanOf) (job : Job) (queries : List Query) (before after : List StripOf) (versions : List ℕ)
    (steps : List Step) (k : ℕ) (x : Step) → k < length steps
    → versions_of before ≡ after_steps plan queries versions (take k steps)
    → AreStripsAt job after (after_step plan queries (versions_of before) (get_or steps k x))
    → AreStripsAt job after (after_steps plan queries versions (take (k + 1) steps))
strips_more plan job queries before after versions steps k x lt is h =
    subst (AreStripsAt job after) (ap (λ vs. after_step plan queries vs (get_or steps k x)) is
    ∙ after_more plan queries versions steps k x lt) h
