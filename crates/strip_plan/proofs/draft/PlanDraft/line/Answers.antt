-- The move that is read is the one with that number.
use Rattle.std.proofs.Common.{◌∙◌, ap}
use Rattle.job_model.specs.Tasks.{JobMove, PlanOf}
use Rattle.strip_plan.proofs.Marked.{named_is}
use Rattle.strip_plan.proofs.draft.PlanDraft.line.Goals as goal

pub returns : goal.returns
returns c move named =
    ap (λ (m : JobMove). m.line) (c.behind-self.view_is
    ∙ named_is c.args.self.now c.self.inside.moves.items c.args.number move c.index.result.now
    (ap (λ (p : PlanOf). p.moves) c.self.view_is) c.index.ensures named)
