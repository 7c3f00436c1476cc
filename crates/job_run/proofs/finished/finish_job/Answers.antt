-- The strips of the draft are those of the plan.
use Rattle.std.proofs.Common.{subst}
use Rattle.job_model.specs.Tasks.{PlanOf}
use Rattle.job_run.specs.Finished.{IsFinished}
use Rattle.job_run.specs.Jobs.{job_with}
use Rattle.job_run.specs.declared.finished.FinishedJob.{FinishedJob}
use Rattle.job_run.proofs.Standing.{of_made}
use Rattle.job_run.proofs.finished.finish_job.Goals as goal

pub bring_up-requires-clause-strips : goal.bring_up-requires-clause-strips
bring_up-requires-clause-strips g c κs within =
    let plan = c.in_ok-plan.plan in
    let job = job_with plan c.args.bodies.now in
    let made = c.in_ok-plan in
    let are = of_made c.args.draft plan c.args.bodies.now made.strips.items made.ensures.plan made.ensures.strips in
    record { job = job; so = are }

pub returns : goal.returns
returns g c =
    let plan = c.in_ok-plan.plan in
    let job = job_with plan c.args.bodies.now in
    let made = c.in_ok-plan in
    let are = of_made c.args.draft plan c.args.bodies.now made.strips.items made.ensures.plan made.ensures.strips in
    let at = c.in_ok-answers.ensures.strips job are in
    let finished : FinishedJob = record {
      moves = c.moves-moves.result;
      edits = c.edits-edits.result;
      left = c.in_ok-left.left;
      answers = c.in_ok-answers.answers;
      strips = c.in_ok-answers.strips;
    } in
    let of_plan : IsFinished job c.args.queries.now finished = record {
      moves = c.moves-moves.ensures.count;
      edits = c.edits-edits.ensures.count;
      brought = record { strips_are = at; told = c.in_ok-left.ensures };
      answers = c.in_ok-answers.ensures.answers job are;
    } in
    subst (λ (p : PlanOf). IsFinished (job_with p c.args.bodies.now) c.args.queries.now finished) made.ensures.plan of_plan
