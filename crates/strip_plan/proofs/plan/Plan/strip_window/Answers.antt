use Rattle.std.proofs.Common.{◌≡◌, ◌∙◌, ◌≤◌, List, ap, length, arith, subst, sym}
use Rattle.ray_grid.specs.Grids.{GridSize}
use Rattle.ray_grid.specs.declared.ray.Ray.{Ray}
use Rattle.ray_grid.specs.Strips.{strip_at, strip_of}
use Rattle.job_model.specs.Tasks.{PlanOf}
use Rattle.strip_plan.specs.declared.index_box.IndexBox.{IndexBox}
use Rattle.strip_plan.specs.Boxed.{HasBoxes, IsInOneOf}
use Rattle.strip_plan.specs.IndexBoxes.{AreBoxesOf, HasPoint}
use Rattle.strip_plan.proofs.Rows.{ray_is, rays_in}
use Rattle.strip_plan.proofs.Windowed.{hull_fits, ends_within, in_hull, in_own}
use Rattle.strip_plan.proofs.plan.Plan.strip_window.Goals as goal

pub returns-then-window-clause-within : goal.returns-then-window-clause-within
returns-then-window-clause-within c =
    let plan = c.args.self.now in
    let own = c.self.inside.windows.boxes in
    let has = subst (λ (p : PlanOf). HasBoxes p.grid p.slabs p.depth p.moves own.hulls.items own.boxes.items own.starts.items (length p.moves)) c.self.view_is c.self.invariant.0.0 in
    let family = c.row-family.result.0 in
    let i = c.row-family.result.1 in
    let row = subst (λ (g : GridSize). strip_at g c.args.strip ≡ strip_of g family i) (c.grid.ensures ∙ ap (λ (p : PlanOf). p.grid) c.self.view_is) c.row-family.ensures in
    let fits = hull_fits plan own.hulls.items own.boxes.items own.starts.items c.args.number c.index.result.now has c.requires.number c.index.ensures in
    let many = rays_in plan.grid c.args.strip family i row in
    let within = (c.in_strip-window.ensures.range plan.grid fits).within in omega (arith, many, within)

pub returns-then-window-clause-holds : goal.returns-then-window-clause-holds
returns-then-window-clause-holds c move named n ray l there is =
    let plan = c.args.self.now in
    let own = c.self.inside.windows.boxes in
    let has = subst (λ (p : PlanOf). HasBoxes p.grid p.slabs p.depth p.moves own.hulls.items own.boxes.items own.starts.items (length p.moves)) c.self.view_is c.self.invariant.0.0 in
    let family = c.row-family.result.0 in
    let i = c.row-family.result.1 in
    let row = subst (λ (g : GridSize). strip_at g c.args.strip ≡ strip_of g family i) (c.grid.ensures ∙ ap (λ (p : PlanOf). p.grid) c.self.view_is) c.row-family.ensures in
    let point = in_hull plan own.hulls.items own.boxes.items own.starts.items c.args.number c.index.result.now move ray l has c.requires.number c.index.ensures named is in
    c.in_strip-window.ensures.has n l (subst (λ (r : Ray). HasPoint c.index.result.now r l) (ray_is plan.grid c.args.strip n family i ray row there) point)

pub returns-then-start-end-clause-order : goal.returns-then-start-end-clause-order
returns-then-start-end-clause-order c =
    let plan = c.args.self.now in
    let own = c.self.inside.windows.boxes in
    let has = subst (λ (p : PlanOf). HasBoxes p.grid p.slabs p.depth p.moves own.hulls.items own.boxes.items own.starts.items (length p.moves)) c.self.view_is c.self.invariant.0.0 in
    let fits = hull_fits plan own.hulls.items own.boxes.items own.starts.items c.args.number c.index.result.now has c.requires.number c.index.ensures in
    (c.in_strip-window.ensures.range plan.grid fits).order

pub returns-then-start-end-clause-within : goal.returns-then-start-end-clause-within
returns-then-start-end-clause-within c =
    let plan = c.args.self.now in
    let own = c.self.inside.windows.boxes in
    let has = subst (λ (p : PlanOf). HasBoxes p.grid p.slabs p.depth p.moves own.hulls.items own.boxes.items own.starts.items (length p.moves)) c.self.view_is c.self.invariant.0.0 in
    let family = c.row-family.result.0 in
    let i = c.row-family.result.1 in
    let row = subst (λ (g : GridSize). strip_at g c.args.strip ≡ strip_of g family i) (c.grid.ensures ∙ ap (λ (p : PlanOf). p.grid) c.self.view_is) c.row-family.ensures in
    let fits = hull_fits plan own.hulls.items own.boxes.items own.starts.items c.args.number c.index.result.now has c.requires.number c.index.ensures in
    let many = rays_in plan.grid c.args.strip family i row in
    let within = (c.in_strip-window.ensures.range plan.grid fits).within in omega (arith, many, within)

pub returns-then-start-end-clause-holds : goal.returns-then-start-end-clause-holds
returns-then-start-end-clause-holds c move named n ray l there is =
    let plan = c.args.self.now in
    let own = c.self.inside.windows.boxes in
    let has = subst (λ (p : PlanOf). HasBoxes p.grid p.slabs p.depth p.moves own.hulls.items own.boxes.items own.starts.items (length p.moves)) c.self.view_is c.self.invariant.0.0 in
    let family = c.row-family.result.0 in
    let i = c.row-family.result.1 in
    let row = subst (λ (g : GridSize). strip_at g c.args.strip ≡ strip_of g family i) (c.grid.ensures ∙ ap (λ (p : PlanOf). p.grid) c.self.view_is) c.row-family.ensures in
    let point = in_hull plan own.hulls.items own.boxes.items own.starts.items c.args.number c.index.result.now move ray l has c.requires.number c.index.ensures named is in
    c.in_strip-window.ensures.has n l (subst (λ (r : Ray). HasPoint c.index.result.now r l) (ray_is plan.grid c.args.strip n family i ray row there) point)

pub range_in_strip-requires : goal.range_in_strip-requires
range_in_strip-requires c =
    let plan = c.args.self.now in
    let own = c.self.inside.windows.boxes in
    let has = subst (λ (p : PlanOf). HasBoxes p.grid p.slabs p.depth p.moves own.hulls.items own.boxes.items own.starts.items (length p.moves)) c.self.view_is c.self.invariant.0.0 in
    subst (λ (boxes : List IndexBox). c.index-end.result.now ≤ length boxes) (sym c.deref.ensures.value)
    (ends_within plan own.hulls.items own.boxes.items own.starts.items c.args.number c.index-end.result.now has c.requires.number c.index-end.ensures)

pub returns-clause-order : goal.returns-clause-order
returns-clause-order c =
    let plan = c.args.self.now in
    let own = c.self.inside.windows.boxes in
    let has = subst (λ (p : PlanOf). HasBoxes p.grid p.slabs p.depth p.moves own.hulls.items own.boxes.items own.starts.items (length p.moves)) c.self.view_is c.self.invariant.0.0 in
    (c.range_in_strip.ensures.range plan.grid (subst (AreBoxesOf plan.grid) (sym c.deref.ensures.value) has.boxes_fit)).order

pub returns-clause-within : goal.returns-clause-within
returns-clause-within c =
    let plan = c.args.self.now in
    let own = c.self.inside.windows.boxes in
    let has = subst (λ (p : PlanOf). HasBoxes p.grid p.slabs p.depth p.moves own.hulls.items own.boxes.items own.starts.items (length p.moves)) c.self.view_is c.self.invariant.0.0 in
    let family = c.row-family.result.0 in
    let i = c.row-family.result.1 in
    let row = subst (λ (g : GridSize). strip_at g c.args.strip ≡ strip_of g family i) (c.grid.ensures ∙ ap (λ (p : PlanOf). p.grid) c.self.view_is) c.row-family.ensures in
    let many = rays_in plan.grid c.args.strip family i row in
    let within = (c.range_in_strip.ensures.range plan.grid (subst (AreBoxesOf plan.grid) (sym c.deref.ensures.value) has.boxes_fit)).within in
    omega (arith, many, within)

pub returns-clause-holds : goal.returns-clause-holds
returns-clause-holds c move named n ray l there is =
    let plan = c.args.self.now in
    let own = c.self.inside.windows.boxes in
    let has = subst (λ (p : PlanOf). HasBoxes p.grid p.slabs p.depth p.moves own.hulls.items own.boxes.items own.starts.items (length p.moves)) c.self.view_is c.self.invariant.0.0 in
    let family = c.row-family.result.0 in
    let i = c.row-family.result.1 in
    let row = subst (λ (g : GridSize). strip_at g c.args.strip ≡ strip_of g family i) (c.grid.ensures ∙ ap (λ (p : PlanOf). p.grid) c.self.view_is) c.row-family.ensures in
    let inside = in_own plan own.hulls.items own.boxes.items own.starts.items c.args.number c.index-start.result.now c.index-end.result.now c.index.result.now move ray l has c.requires.number
    c.index-start.ensures c.index-end.ensures c.if-start-end.false named is in
    let here = subst (λ (boxes : List IndexBox). IsInOneOf boxes c.index-start.result.now c.index-end.result.now ray l) (sym c.deref.ensures.value) inside in
    c.range_in_strip.ensures.has n l
    (subst (λ (r : Ray). IsInOneOf c.deref.result.now c.index-start.result.now c.index-end.result.now r l) (ray_is plan.grid c.args.strip n family i ray row there) here)
