use Rattle.std.proofs.Common.{refl}
use Rattle.std.proofs.lemmas.Result.{IfOk-weaker}
use Rattle.job_run.specs.Jobs.{job_with}
use Rattle.job_run.specs.Strips.{AreAt, AreFrom}
use Rattle.job_run.proofs.FirstStrips.{all_made}
use Rattle.job_run.proofs.strips.fresh_strips.Goals as goal

pub returns : goal.returns
returns g c =
    let plan = c.args.plan.now in
    let job = job_with plan c.args.bodies.now in
    let count = c.strip_count-count.result in
    IfOk-weaker c.strips_in_parts.result (λ strips. AreFrom job 0 0 count strips.items) (λ strips. AreAt plan job 0 strips.items)
    (λ strips are. all_made plan job count strips.items refl c.strip_count-count.ensures.valid c.strip_count-count.ensures.count are)
    c.strips_in_parts.ensures
