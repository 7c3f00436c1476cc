use Rattle.std.proofs.Common.{List, rules, sym, subst}
use Rattle.job_model.specs.Tasks.{Job}
use Rattle.strip_journal.specs.Strips.{StripOf}
use Rattle.job_run.specs.Jobs.{job_with}
use Rattle.job_run.specs.Strips.{AreFrom}
use Rattle.job_run.proofs.FirstStrips.{from_both}
use Rattle.job_run.proofs.strips.+parts.Goals as goal

pub back-returns : goal.back-returns
back-returns g t c = c.strips_in_parts.ensures

pub returns-then-parts-eq1 : goal.returns-then-parts-eq1
returns-then-parts-eq1 g t c = c.strips_between.ensures

pub returns : goal.returns
returns g t c =
    let job : Job = job_with c.args.plan.now c.args.bodies.now in
    let next = c.share_end-next.result in
    let first : AreFrom job 0 c.args.from next c.in_ok-strips.strips.items = search rules in
    let rest : AreFrom job 0 next c.args.to c.in_ok-rest.rest.items = search rules in
    subst (λ (z : List StripOf). AreFrom job 0 c.args.from c.args.to z) (sym {A = List StripOf} c.in_ok-append.ensures.items)
    (from_both job 0 c.args.from next c.args.to c.in_ok-strips.strips.items c.in_ok-rest.rest.items first rest)
