use Rattle.std.proofs.Common.{ℕ, ◌≤◌, List, length, subst, sym}
use Rattle.job_model.specs.Tasks.{PlanOf}
use Rattle.strip_plan.specs.declared.index_box.IndexBox.{IndexBox}
use Rattle.strip_plan.specs.Boxed.{HasBoxes, IsInOneOf}
use Rattle.strip_plan.specs.IndexBoxes.{AreBoxesOf}
use Rattle.strip_plan.specs.Windows.{IsAlongStrip}
use Rattle.strip_plan.proofs.Passed.{no_box}
use Rattle.strip_plan.proofs.Windowed.{ends_within, hull_fits, in_hull, in_own}
use Rattle.strip_plan.proofs.plan.Plan.strip_along.Goals as goal

pub returns-then-start-end : goal.returns-then-start-end
returns-then-start-end c =
    let plan = c.args.self.now in
    let own = c.self.inside.windows.boxes in
    let has = subst (λ (p : PlanOf). HasBoxes p.grid p.slabs p.depth p.moves own.hulls.items own.boxes.items own.starts.items
    (length p.moves)) c.self.view_is c.self.invariant.0.0 in
    let box = c.index.result.now in
    let fits = hull_fits plan own.hulls.items own.boxes.items own.starts.items c.args.number box has c.requires c.index.ensures in
    let along = (fits c.args.family).along in
    subst (λ (w : ℕ × ℕ). IsAlongStrip plan c.args.number c.args.family c.args.i w) (sym c.along.ensures)
    (record {
      order = along.order;
      within = along.within;
      holds = λ move j named l is.
          (in_hull plan own.hulls.items own.boxes.items own.starts.items c.args.number box move _ l has c.requires c.index.ensures named is).along;
    })

pub range_in_strip-requires : goal.range_in_strip-requires
range_in_strip-requires c =
    let plan = c.args.self.now in
    let own = c.self.inside.windows.boxes in
    let has = subst (λ (p : PlanOf). HasBoxes p.grid p.slabs p.depth p.moves own.hulls.items own.boxes.items own.starts.items
    (length p.moves)) c.self.view_is c.self.invariant.0.0 in
    subst (λ (boxes : List IndexBox). c.index-end.result.now ≤ length boxes) (sym c.deref.ensures.value)
    (ends_within plan own.hulls.items own.boxes.items own.starts.items c.args.number c.index-end.result.now has c.requires c.index-end.ensures)

pub returns : goal.returns
returns c =
    let plan = c.args.self.now in
    let own = c.self.inside.windows.boxes in
    let has = subst (λ (p : PlanOf). HasBoxes p.grid p.slabs p.depth p.moves own.hulls.items own.boxes.items own.starts.items
    (length p.moves)) c.self.view_is c.self.invariant.0.0 in
    let range = c.range_in_strip.ensures.range plan.grid (subst (AreBoxesOf plan.grid) (sym c.deref.ensures.value) has.boxes_fit) in
    record {
      order = range.order;
      within = range.within;
      holds = λ move j named l is.
          let inside = in_own plan own.hulls.items own.boxes.items own.starts.items c.args.number c.index-start.result.now
          c.index-end.result.now no_box move _ l has c.requires c.index-start.ensures c.index-end.ensures c.if-start-end.false named is in
          c.range_in_strip.ensures.has j l
          (subst (λ (boxes : List IndexBox). IsInOneOf boxes c.index-start.result.now c.index-end.result.now
          (record { family = c.args.family; i = c.args.i; j = j }) l) (sym c.deref.ensures.value)
          inside);
    }
