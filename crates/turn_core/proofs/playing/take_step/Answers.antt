use Rattle.std.proofs.Common.{◌+◌, List, [], ◌∷◌, ◌++◌, ℕ, length, get_or, set, min, rules, arith, refl, sym, ap, ◌∙◌, subst}
use Rattle.std.proofs.lemmas.List.{append-nil, get_or_default}
use Rattle.edit_plan.specs.declared.query.Ask.TheVariants.{Count}
use Rattle.edit_plan.specs.declared.query.Query.{Query}
use Rattle.job_counts.specs.declared.totals.Answer.{Answer}
use Rattle.job_model.specs.Tasks.{Job}
use Rattle.turn_core.specs.declared.step.Step.{Step}
use Rattle.turn_core.specs.World.{AreBetween, AreStrips, AreStripsAt, IsStepOf, after_ask, after_step, answer_of, answers_to, versions_of}
use Rattle.turn_core.proofs.Between.{asked_between, stopped_one}
use Rattle.turn_core.proofs.Replaced.{number_in, plan_at, plan_set, raised_moved, stopped_moved, strips_set}
use Rattle.turn_core.proofs.Versions.{version_at, versions_set}
use Rattle.turn_core.proofs.playing.take_step.Goals as goal

pub returns-in-Ok-clause-strips : goal.returns-in-Ok-clause-strips
returns-in-Ok-clause-strips c = λ job all.
    let strips = c.args.strips.now in
    let k = c.in-Turn.strip in
    let lt = number_in c.args.plan.now c.args.plan.now.grid strips k c.requires.strips refl
    (subst (IsStepOf c.args.plan.now (length c.args.queries.now)) c.in-Turn.is c.requires.step) in
    let turned = c.in-Ok.ensures.ok.2 in
    record {
      strips_are = strips_set c.args.plan.now job strips k c.index-strips-strip.result c.turn_strip.new.strip c.requires.strips lt
          (raised_moved _ _ _ turned) (omega (arith, turned.done)) all;
      versions_are = versions_set strips k c.turn_strip.new.strip
          ∙ ap (set (versions_of strips) k)
          (turned.done ∙ ap (λ n. min (n + 8) (length c.args.plan.now.edits)) (version_at strips k c.index-strips-strip.result lt))
          ∙ ap (after_step c.args.plan.now c.args.queries.now (versions_of strips)) (sym c.in-Turn.is);
    }

pub returns-in-Ok-clause-still : goal.returns-in-Ok-clause-still
returns-in-Ok-clause-still c = λ job all.
    let k = c.in-Turn.strip in
    let step = subst (IsStepOf c.args.plan.now (length c.args.queries.now)) c.in-Turn.is c.requires.step in
    let lt = number_in c.args.plan.now c.args.plan.now.grid c.args.strips.now k c.requires.strips refl step in
    let turned = c.in-Ok.ensures.ok.2 in
    strips_set c.args.plan.now job c.args.strips.now k c.index-strips-strip.result c.turn_strip.new.strip c.requires.strips lt
    (raised_moved _ _ _ turned) (omega (arith, turned.done)) all

pub returns-in-Err-clause-plan : goal.returns-in-Err-clause-plan
returns-in-Err-clause-plan c =
    let k = c.in-Turn.strip in
    let step = subst (IsStepOf c.args.plan.now (length c.args.queries.now)) c.in-Turn.is c.requires.step in
    let lt = number_in c.args.plan.now c.args.plan.now.grid c.args.strips.now k c.requires.strips refl step in
    plan_set c.args.plan.now c.args.strips.now k c.index-strips-strip.result c.turn_strip.new.strip c.requires.strips lt
    (stopped_moved _ _ _ c.in-Err.ensures.err.2)

pub returns-in-Err-clause-still : goal.returns-in-Err-clause-still
returns-in-Err-clause-still c = λ job all.
    let k = c.in-Turn.strip in
    let step = subst (IsStepOf c.args.plan.now (length c.args.queries.now)) c.in-Turn.is c.requires.step in
    let lt = number_in c.args.plan.now c.args.plan.now.grid c.args.strips.now k c.requires.strips refl step in
    let stopped = c.in-Err.ensures.err.2 in
    strips_set c.args.plan.now job c.args.strips.now k c.index-strips-strip.result c.turn_strip.new.strip c.requires.strips lt
    (stopped_moved _ _ _ stopped) (omega (arith, stopped.short)) all

pub returns-in-Ok-clause-plan : goal.returns-in-Ok-clause-plan
returns-in-Ok-clause-plan c =
    let k = c.in-Turn.strip in
    let step = subst (IsStepOf c.args.plan.now (length c.args.queries.now)) c.in-Turn.is c.requires.step in
    let lt = number_in c.args.plan.now c.args.plan.now.grid c.args.strips.now k c.requires.strips refl step in
    plan_set c.args.plan.now c.args.strips.now k c.index-strips-strip.result c.turn_strip.new.strip c.requires.strips lt
    (raised_moved _ _ _ c.in-Ok.ensures.ok.2)

pub returns-in-Err-clause-stopped : goal.returns-in-Err-clause-stopped
returns-in-Err-clause-stopped c = λ job all.
    let plan = c.args.plan.now in
    let strips = c.args.strips.now in
    let vs = versions_of strips in
    let k = c.in-Turn.strip in
    let step = subst (IsStepOf plan (length c.args.queries.now)) c.in-Turn.is c.requires.step in
    let lt = number_in plan plan.grid strips k c.requires.strips refl step in
    let top = ap (λ n. min (n + 8) (length plan.edits)) (version_at strips k c.index-strips-strip.result lt) in
    subst (λ (z : List ℕ). AreBetween vs z (versions_of (set strips k c.turn_strip.new.strip)))
    (ap (after_step plan c.args.queries.now vs) (sym c.in-Turn.is))
    (stopped_one strips k c.index-strips-strip.result c.turn_strip.new.strip _ (min (get_or vs k 0 + 8) (length plan.edits)) lt
    c.in-Err.ensures.err.2 (omega (arith, top)))

pub returns-in_err-push-in-Ask-clause-stopped : goal.returns-in_err-push-in-Ask-clause-stopped
returns-in_err-push-in-Ask-clause-stopped c =
    let plan = c.args.plan.now in
    let queries = c.args.queries.now in
    let vs = versions_of c.args.strips.now in
    let n = c.in-Ask.query in
    let low = subst (IsStepOf plan (length queries)) c.in-Ask.is c.requires.step in
    let query = get_or_default queries n _ (record { version = 0; ask = Count }) low in
    let step = ap (λ (q : Query). after_ask plan q.version q.ask vs) query ∙ ap (after_step plan queries vs) (sym c.in-Ask.is) in
    let between = λ (job : Job) (all : AreStrips job c.args.strips.now).
    asked_between plan job queries c.args.strips.now c.ask.new.strips c.args.step c.requires.queries c.requires.strips all
    ((c.in_ok-answer-in-Ask.ensures.strips job all).versions_are ∙ step) in
    search (rules, between)

pub turn_strip-requires : goal.turn_strip-requires
turn_strip-requires c =
    let k = c.in-Turn.strip in
    let step = subst (IsStepOf c.args.plan.now (length c.args.queries.now)) c.in-Turn.is c.requires.step in
    let lt = number_in c.args.plan.now c.args.plan.now.grid c.args.strips.now k c.requires.strips refl step in
    record { plan = plan_at c.args.plan.now c.args.strips.now k c.index-strips-strip.result c.requires.strips lt }

pub ask-requires-clause-strips : goal.ask-requires-clause-strips
ask-requires-clause-strips c = c.requires.strips

pub ask-requires-clause-query : goal.ask-requires-clause-query
ask-requires-clause-query c =
    c.requires.queries c.in-Ask.query _ (subst (IsStepOf c.args.plan.now (length c.args.queries.now)) c.in-Ask.is c.requires.step)

pub returns-in-Ok-clause-answers : goal.returns-in-Ok-clause-answers
returns-in-Ok-clause-answers c = λ job all.
    let answers = c.args.answers.now.items in
    sym (ap (λ (step : Step). answers ++ answers_to job c.args.queries.now (step ∷ [])) c.in-Turn.is ∙ append-nil answers)

pub returns-in_err-answer-in-Ask-clause-plan : goal.returns-in_err-answer-in-Ask-clause-plan
returns-in_err-answer-in-Ask-clause-plan c = c.in_err-answer-in-Ask.ensures.plan

pub returns-in_err-answer-in-Ask-clause-still : goal.returns-in_err-answer-in-Ask-clause-still
returns-in_err-answer-in-Ask-clause-still c = c.in_err-answer-in-Ask.ensures.still

pub returns-in_err-push-in-Ask-clause-plan : goal.returns-in_err-push-in-Ask-clause-plan
returns-in_err-push-in-Ask-clause-plan c = c.in_ok-answer-in-Ask.ensures.plan

pub returns-in_err-push-in-Ask-clause-still : goal.returns-in_err-push-in-Ask-clause-still
returns-in_err-push-in-Ask-clause-still c = c.in_ok-answer-in-Ask.ensures.still

pub returns-in_ok-push-in-Ask-clause-plan : goal.returns-in_ok-push-in-Ask-clause-plan
returns-in_ok-push-in-Ask-clause-plan c = c.in_ok-answer-in-Ask.ensures.plan

pub returns-in_ok-push-in-Ask-clause-still : goal.returns-in_ok-push-in-Ask-clause-still
returns-in_ok-push-in-Ask-clause-still c = c.in_ok-answer-in-Ask.ensures.still

pub returns-in_ok-push-in-Ask-clause-strips : goal.returns-in_ok-push-in-Ask-clause-strips
returns-in_ok-push-in-Ask-clause-strips c = λ job all.
    let plan = c.args.plan.now in
    let queries = c.args.queries.now in
    let vs = versions_of c.args.strips.now in
    let n = c.in-Ask.query in
    let low = subst (IsStepOf plan (length queries)) c.in-Ask.is c.requires.step in
    let query = get_or_default queries n _ (record { version = 0; ask = Count }) low in
    subst (AreStripsAt job c.ask.new.strips)
    (ap (λ (q : Query). after_ask plan q.version q.ask vs) query ∙ ap (after_step plan queries vs) (sym c.in-Ask.is))
    (c.in_ok-answer-in-Ask.ensures.strips job all)

pub returns-in_ok-push-in-Ask-clause-answers : goal.returns-in_ok-push-in-Ask-clause-answers
returns-in_ok-push-in-Ask-clause-answers c = λ job all.
    let queries = c.args.queries.now in
    let answers = c.args.answers.now.items in
    let n = c.in-Ask.query in
    let low = subst (IsStepOf c.args.plan.now (length queries)) c.in-Ask.is c.requires.step in
    let query = get_or_default queries n _ (record { version = 0; ask = Count }) low in
    c.in_ok-push-in-Ask.ensures.items
    ∙ ap (λ (a : Answer). answers ++ a ∷ []) (c.in_ok-answer-in-Ask.ensures.answer job all ∙ ap (answer_of job) query)
    ∙ sym (ap (λ (step : Step). answers ++ answers_to job queries (step ∷ [])) c.in-Ask.is)
