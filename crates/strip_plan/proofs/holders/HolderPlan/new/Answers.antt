use Rattle.std.proofs.Common.{◌≡◌, ℕ, List, length, map, ap, subst, ◌∙◌}
use Rattle.job_model.specs.Holders.{holder_move}
use Rattle.job_model.specs.Tasks.{JobMove, PlanOf}
use Rattle.strip_plan.specs.declared.index_box.IndexBox.{IndexBox}
use Rattle.strip_plan.specs.Boxed.{HasBoxes}
use Rattle.strip_plan.specs.Holders.{AreHoldersOf, AreNear}
use Rattle.strip_plan.proofs.NearBy.{holders_are}
use Rattle.strip_plan.proofs.holders.HolderPlan.new.Goals as goal

pub returns : goal.returns
returns c =
    let holder = c.args.holder.now in
    let own = c.draft.inside in
    let plan : PlanOf = record { grid = own.grid; slabs = own.cutters.slabs; depth = own.depth; moves = own.moves.items; edits = own.edits } in
    let all = c.in_ok-all.all.items in
    let all_is : all ≡ map (holder_move holder) plan.moves = c.in_ok-all.ensures ∙ ap (map (holder_move holder)) c.deref.ensures.value in
    let hulls = c.in_ok-boxes.boxes.hulls.items in
    let boxes = c.in_ok-boxes.boxes.boxes.items in
    let starts = c.in_ok-boxes.boxes.starts.items in
    let has : HasBoxes plan.grid plan.slabs plan.depth all hulls boxes starts (length all) =
    subst (λ (k : ℕ). HasBoxes plan.grid k plan.depth all hulls boxes starts (length all)) c.in_ok-cutters.ensures.slabs
    (subst (λ (xs : List JobMove). HasBoxes plan.grid c.in_ok-cutters.cutters.slabs plan.depth xs hulls boxes starts (length xs)) c.deref-3.ensures.value c.in_ok-boxes.ensures) in
    let near = c.in_ok-moves.field-0.moves.items in
    let places = c.in_ok-moves.field-0.places.items in
    let are : AreNear all hulls near places (length all) =
    subst (λ (xs : List JobMove). AreNear xs hulls near places (length xs)) c.deref-4.ensures.value
    (subst (λ (bs : List IndexBox). AreNear c.deref-4.result.now bs near places (length c.deref-4.result.now)) c.deref-5.ensures.value c.in_ok-moves.ensures) in
    let made = c.in_ok-plan.ensures in
    subst (λ (p : PlanOf). AreHoldersOf p holder record { plan = c.in_ok-plan.plan; places = places }) c.draft.view_is
    (holders_are plan c.in_ok-plan.plan holder all near hulls boxes starts places c.draft.invariant.4.some all_is has are (ap (λ (p : PlanOf). p.grid) made) (ap (λ (p : PlanOf). p.depth) made)
    (ap (λ (p : PlanOf). p.slabs) made) (ap (λ (p : PlanOf). p.moves) made))
