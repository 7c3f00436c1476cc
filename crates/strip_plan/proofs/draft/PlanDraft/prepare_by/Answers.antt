-- What is computed of the draft's moves and edits, as lists, is that of the plan that the draft is seen as.
use Rattle.std.proofs.Common.{List, rules, subst, sym}
use Rattle.job_model.specs.Tasks.{JobMove}
use Rattle.strip_plan.specs.Parts.{AreStacksOf}
use Rattle.strip_plan.proofs.Stacked.{own_edits, prepared_is}
use Rattle.strip_plan.proofs.draft.PlanDraft.prepare_by.Goals as goal

pub prepared_by-requires : goal.prepared_by-requires
prepared_by-requires g c =
    let d = c.self.inside in
    let stacks = subst (λ (moves : List JobMove). AreStacksOf moves d.cutters) (sym c.deref.ensures.value) c.self.invariant.5 in
    let named = own_edits d.moves.items c.deref.result.now d.edits c.as_slice.result.now c.deref.ensures.value c.as_slice.ensures
    c.self.invariant.3 in
    (search rules, (c.self.invariant.0, (stacks, named)))

pub returns : goal.returns
returns g c =
    let d = c.self.inside in
    prepared_is c.args.self.now d.grid d.cutters.slabs d.depth d.moves.items c.deref.result.now c.deref.result.now
    d.edits c.as_slice.result.now record { windows = c.in_ok-windows.windows; tables = c.in_ok-windows.tables } c.self.view_is
    c.deref.ensures.value c.deref.ensures.value c.as_slice.ensures c.in_ok-windows.ensures.windows c.in_ok-windows.ensures.tables
