use Rattle.std.proofs.Common.{List, rules, arith, refl, ap, ◌∙◌, subst}
use Rattle.std.proofs.lemmas.List.{take_all}
use Rattle.job_model.specs.Tasks.{Job}
use Rattle.turn_core.specs.declared.step.Step.{Step}
use Rattle.turn_core.specs.World.{AreStrips, AreStripsAt, after_steps, answers_to, versions_of}
use Rattle.turn_core.proofs.Between.{stopped_at}
use Rattle.turn_core.proofs.Steps.{answers_more, strips_more}
use Rattle.turn_core.proofs.playing.play.Goals as goal

pub loop-step-preserved : goal.loop-step-preserved
loop-step-preserved c = record {
  plan = c.in_ok-take_step.ensures.plan;
  strips = λ job all.
      let before = c.loop-step.invariant.strips job all in
      strips_more c.args.plan.now job c.args.queries.now c.loop-step.strips c.take_step.new.strips
      (versions_of c.args.strips.now) c.args.steps.now c.loop-step.step-index _
      (omega (arith, c.loop-step-test.true)) before.versions_are (c.in_ok-take_step.ensures.strips job before.strips_are);
  answers = λ job all.
      answers_more job c.args.queries.now c.loop-step.answers.items c.take_step.new.answers.items c.args.steps.now c.loop-step.step-index _
      (omega (arith, c.loop-step-test.true)) (c.loop-step.invariant.answers job all)
      (c.in_ok-take_step.ensures.answers job (c.loop-step.invariant.strips job all).strips_are);
}

pub returns-in_err-take_step-clause-stopped : goal.returns-in_err-take_step-clause-stopped
returns-in_err-take_step-clause-stopped c =
    let between = λ (job : Job) (all : AreStrips job c.args.strips.now).
    let before = c.loop-step.invariant.strips job all in
    stopped_at c.args.plan.now job c.args.queries.now c.args.strips.now c.loop-step.strips c.take_step.new.strips c.args.steps.now
    c.loop-step.step-index _ (omega (arith, c.loop-step-test.true)) c.requires.queries c.requires.strips all before.versions_are
    (c.in_err-take_step.ensures.stopped job before.strips_are) in
    search (rules, between)

pub loop-step-init : goal.loop-step-init
loop-step-init c = record {
  plan = c.requires.strips;
  strips = λ job all. record { strips_are = all; versions_are = refl };
  answers = λ job all. c.new-answers.ensures.items;
}

pub take_step-requires-clause-strips : goal.take_step-requires-clause-strips
take_step-requires-clause-strips c = c.loop-step.invariant.plan

pub take_step-requires-clause-queries : goal.take_step-requires-clause-queries
take_step-requires-clause-queries c = c.requires.queries

pub take_step-requires-clause-step : goal.take_step-requires-clause-step
take_step-requires-clause-step c = c.requires.steps c.loop-step.step-index _ (omega (arith, c.loop-step-test.true))

pub returns-in_err-take_step-clause-still : goal.returns-in_err-take_step-clause-still
returns-in_err-take_step-clause-still c = λ job all.
    c.in_err-take_step.ensures.still job (c.loop-step.invariant.strips job all).strips_are

pub returns-clause-strips : goal.returns-clause-strips
returns-clause-strips c = λ job all.
    let vs = versions_of c.args.strips.now in
    subst (λ (steps : List Step). AreStripsAt job c.loop-step.strips (after_steps c.args.plan.now c.args.queries.now vs steps))
    (take_all c.loop-step.step-index c.args.steps.now (omega (arith, c.loop-step-test.false))) (c.loop-step.invariant.strips job all)

pub returns-clause-still : goal.returns-clause-still
returns-clause-still c = λ job all. (c.loop-step.invariant.strips job all).strips_are

pub returns-clause-answers : goal.returns-clause-answers
returns-clause-answers c = λ job all.
    c.loop-step.invariant.answers job all
    ∙ ap (answers_to job c.args.queries.now) (take_all c.loop-step.step-index c.args.steps.now (omega (arith, c.loop-step-test.false)))
