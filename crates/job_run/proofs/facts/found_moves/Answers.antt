use Rattle.std.proofs.Common.{◌≡◌, [], length, refl, sym, ap, ◌∙◌}
use Rattle.std.proofs.lemmas.Result.{IfOk-weaker}
use Rattle.edit_plan.specs.Edits.{left_of}
use Rattle.job_report.specs.Report.{found_from}
use Rattle.job_model.specs.Tasks.{Job, PlanOf}
use Rattle.job_run.specs.Founds.{AreBroughtUp, rows_of}
use Rattle.job_run.specs.Left.{AreTold}
use Rattle.job_run.proofs.Counted.{left_up, rows_of_left}
use Rattle.job_run.proofs.facts.found_moves.Goals as goal

pub counts_over-requires : goal.counts_over-requires
counts_over-requires c =
    let up = c.requires.so in
    record { job = c.requires.job; so = left_up c.requires.job c.args.left.now c.args.strips.now up }

pub rows-requires-clause-many : goal.rows-requires-clause-many
rows-requires-clause-many c =
    let job = c.requires.job in
    let up = c.requires.so in
    let found = c.in_ok-counts.ensures job (left_up job c.args.left.now c.args.strips.now up) in
    ap length c.deref.ensures.value ∙ found.many ∙ sym up.told.all.many

pub rows-requires-clause-plan : goal.rows-requires-clause-plan
rows-requires-clause-plan c = record { plan = c.requires.job.plan; so = c.requires.so.told }

pub returns : goal.returns
returns c =
    let left = c.args.left.now in
    let strips = c.args.strips.now in
    let counts = c.in_ok-counts.counts.items in
    IfOk-weaker c.rows.result (λ found. (plan : PlanOf) → AreTold plan left → found.items ≡ rows_of plan (left_of plan.edits) c.deref.result.now)
    (λ found. (job : Job) → AreBroughtUp job left strips → found.items ≡ found_from job [] (left_of job.plan.edits))
    (λ found is job up. is job.plan up.told ∙ ap (rows_of job.plan (left_of job.plan.edits)) c.deref.ensures.value
    ∙ rows_of_left job.plan job counts refl up.told.named (c.in_ok-counts.ensures job (left_up job left strips up)))
    c.rows.ensures
