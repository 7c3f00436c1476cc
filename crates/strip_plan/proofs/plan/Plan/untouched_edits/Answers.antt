use Rattle.std.proofs.Common.{◌≡◌, ◌∙◌, ◌+◌, ◌≤◌, List, ap, arith, length, subst}
use Rattle.std.specs.Prelude.{All}
use Rattle.std.specs.List.{AllWithin}
use Rattle.ray_grid.specs.Grids.{GridSize}
use Rattle.ray_grid.specs.Strips.{strip_at, strip_of}
use Rattle.edit_plan.specs.declared.edit.Edit.{Edit}
use Rattle.edit_plan.specs.Edits.{AppliesBelow}
use Rattle.job_model.specs.Tasks.{PlanOf}
use Rattle.strip_plan.specs.declared.index_box.IndexBox.{IndexBox}
use Rattle.strip_plan.specs.Boxed.{HasBoxes}
use Rattle.strip_plan.specs.Untouched.{AppliesNone}
use Rattle.strip_plan.proofs.Passed.{passed_from}
use Rattle.strip_plan.proofs.plan.Plan.untouched_edits.Goals as goal

pub returns-clause-alone : goal.returns-clause-alone
returns-clause-alone c =
    let plan = c.args.self.now in
    let own = c.self.inside.windows.boxes in
    let has = subst (λ (p : PlanOf). HasBoxes p.grid p.slabs p.depth p.moves own.hulls.items own.boxes.items own.starts.items (length p.moves)) c.self.view_is c.self.invariant.0.0 in
    let named = subst (λ (p : PlanOf). All (AppliesBelow (length p.moves)) p.edits) c.self.view_is c.edit_list-edits.ensures.named in
    let family = c.row-family.result.0 in
    let i = c.row-family.result.1 in
    let row = subst (λ (g : GridSize). strip_at g c.args.strip ≡ strip_of g family i) (c.grid.ensures ∙ ap (λ (p : PlanOf). p.grid) c.self.view_is) c.row-family.ensures in
    let from = c.args.version in
    let count = c.count_untouched.result in
    let edits = c.edit_list-edits.ensures.list ∙ ap (λ (p : PlanOf). p.edits) c.self.view_is in
    let own_hulls = subst (λ (hulls : List IndexBox). AllWithin (AppliesNone hulls family i) c.edit_list-edits.result.now from (from + count))
    c.deref.ensures.value c.count_untouched.ensures.alone in
    let none = subst (λ (all : List Edit). AllWithin (AppliesNone own.hulls.items family i) all from (from + count)) edits own_hulls in
    let most = c.count_untouched.ensures.within in
    let end = c.requires.edits in
    let within : from + count ≤ length plan.edits = omega (arith, most, end) in
    passed_from plan own.hulls.items own.boxes.items own.starts.items c.args.strip family i has row from count within named none
