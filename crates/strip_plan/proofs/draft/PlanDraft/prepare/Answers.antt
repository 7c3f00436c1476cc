-- What is computed of the draft's moves and edits, as lists, is that of the plan that the draft is seen as.
use Rattle.std.proofs.Common.{List, subst, sym}
use Rattle.job_model.specs.Tasks.{JobMove}
use Rattle.strip_plan.specs.Parts.{AreStacksOf}
use Rattle.strip_plan.proofs.Stacked.{own_edits, prepared_is}
use Rattle.strip_plan.proofs.draft.PlanDraft.prepare.Goals as goal

pub strip_windows_of-requires-clause-stacks : goal.strip_windows_of-requires-clause-stacks
strip_windows_of-requires-clause-stacks c =
    subst (λ (moves : List JobMove). AreStacksOf moves c.self.inside.cutters) (sym c.deref.ensures.value) c.self.invariant.5

pub strip_windows_of-requires-clause-named : goal.strip_windows_of-requires-clause-named
strip_windows_of-requires-clause-named c =
    let d = c.self.inside in
    own_edits d.moves.items c.deref.result.now d.edits c.as_slice-edits.result.now c.deref.ensures.value c.as_slice-edits.ensures
    c.self.invariant.3

pub move_tables_of-requires-clause-stacks : goal.move_tables_of-requires-clause-stacks
move_tables_of-requires-clause-stacks c =
    subst (λ (moves : List JobMove). AreStacksOf moves c.self.inside.cutters) (sym c.deref-2.ensures.value) c.self.invariant.5

pub returns : goal.returns
returns c =
    let d = c.self.inside in
    prepared_is c.args.self.now d.grid d.cutters.slabs d.depth d.moves.items c.deref.result.now c.deref-2.result.now
    d.edits c.as_slice-edits.result.now record { windows = c.in_ok-windows.windows; tables = c.in_ok-tables.tables } c.self.view_is
    c.deref.ensures.value c.deref-2.ensures.value c.as_slice-edits.ensures c.in_ok-windows.ensures c.in_ok-tables.ensures
