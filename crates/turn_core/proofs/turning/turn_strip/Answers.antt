use Rattle.std.proofs.Common.{◌≡◌, ◌+◌, ◌<◌, ◌≤◌, length, max, min, ap, ap₂, subst, ◌∙◌}
use Rattle.job_model.specs.Tasks.{PlanOf}
use Rattle.turn_core.proofs.Versions.{next_from}
use Rattle.turn_core.proofs.turning.turn_strip.Goals as goal

pub returns-in-Ok-clause-ok : goal.returns-in-Ok-clause-ok
returns-in-Ok-clause-ok c =
    let strip = c.args.strip.now in let edits = length c.args.plan.now.edits in
    let within : strip.done ≤ edits = subst (λ (p : PlanOf). strip.done ≤ length p.edits) c.requires.plan (subst (λ n. n ≤ length strip.job.plan.edits) c.done-from.ensures.done c.done-from.ensures.within) in
    let to : c.min-to.result ≡ min (strip.done + 8) edits = c.min-to.ensures ∙ ap₂ (λ n m. min (n + 8) m) c.done-from.ensures.done c.edits-edits.ensures.count in
    let raised = c.in-Ok.ensures.ok in
    let done = raised.done ∙ ap (max strip.done) to ∙ next_from strip.done edits within in
    (c.done-from.ensures.done, c.done.ensures.done, record { job = raised.job; number = raised.number; done = done })

pub returns-in-Err-clause-err : goal.returns-in-Err-clause-err
returns-in-Err-clause-err c =
    let strip = c.args.strip.now in let edits = length c.args.plan.now.edits in
    let to : c.min-to.result ≡ min (strip.done + 8) edits = c.min-to.ensures ∙ ap₂ (λ n m. min (n + 8) m) c.done-from.ensures.done c.edits-edits.ensures.count in
    let stopped = c.in-Err.ensures.err in (
      c.done-from.ensures.done,
      c.done-in-Err.ensures.done,
      record {
        job = stopped.job;
        number = stopped.number;
        later = stopped.later;
        short = subst (λ n. c.raise.new.strip.done < n) to stopped.short;
      },
    )
