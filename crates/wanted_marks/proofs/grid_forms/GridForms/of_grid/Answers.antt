use Rattle.std.proofs.Common.{◌≡◌, pos, ◌*ℤ◌, FitsSigned, of_z, to_z, ap₂, rules, subst, sym, ◌∙◌}
use Rattle.std.proofs.lemmas.Int.{to_z-of_z}
use mir.Syntax.{w32, w64}
use Rattle.space.specs.Sweeps.{SweepOf, axis_at, offset_at}
use Rattle.bern_form.specs.Cells.{dot_on_cell}
use Rattle.ray_grid.specs.Grids.{GridSize}
use Rattle.ray_grid.specs.declared.ray.Family.TheVariants.{X, Y, Z}
use Rattle.ray_grid.specs.Lattice.{per_node}
use Rattle.wanted_marks.specs.declared.grid_forms.GridForms.{GridForms}
use Rattle.wanted_marks.specs.GridForms.{AreGridForms, step_way}
use Rattle.wanted_marks.specs.Widths.{IsAxisForms}
use Rattle.wanted_marks.proofs.Stepping.{first_offset, last_offset, moments_are}
use Rattle.wanted_marks.proofs.Steps.{crossed_is, step_is, way_x, way_y, way_z}
use Rattle.wanted_marks.proofs.grid_forms.GridForms.of_grid.Goals as goal

pub returns-clause-forms : goal.returns-clause-forms
returns-clause-forms c =
    let s = c.sweep.inside in let h = c.grid.inside in let t = c.args.axis_forms.now in let k = c.args.scale in let S = pos k in
    let m : SweepOf = record { from = s.from; to = s.to; axis_from = s.axis_from; axis_to = s.axis_to } in
    let grid : GridSize = record { origin = h.origin; pitch = h.pitch; step = h.step; counts = h.counts } in
    let axis_forms = subst (λ (x : SweepOf). IsAxisForms t.first t.last t.n.c x k) (sym c.sweep.view_is) c.requires.axis_forms in
    let o = grid.origin in let A = axis_at m (pos 0) S in let C = axis_at m S S in let ea = axis_forms.first_is in let ec = axis_forms.last_is in
    let P = offset_at m o (pos 0) S in let Q = offset_at m o S S in
    let from = c.scaled_way-from in let to = c.scaled_way-to in let ef = from.ensures.way ∙ first_offset m o S in let et = to.ensures.way ∙ last_offset m o S in
    let start = moments_are c.between-start.result from.result to.result t.first t.last P Q A C
    record { start_is = c.between-start.ensures.start; middle_is = c.between-start.ensures.middle; end_is = c.between-start.ensures.end } ef et ea ec in
    let step = c.scaled_step-step.result in let small : FitsSigned w32 grid.step = search rules in let long : FitsSigned w64 step = record { sfits = c.scaled_step-step.type_inv } in
    let exact : step ≡ S *ℤ grid.step = simp to_z-of_z at c.scaled_step-step.ensures.value in
    let w = to_z w64 (of_z w64 step) in let e : w ≡ S *ℤ grid.step = to_z-of_z w64 step long ∙ exact in
    let X' = step_way grid X k in let Y' = step_way grid Y k in let Z' = step_way grid Z k in
    let x = step_is c.along-x.result m o _ X' c.between-start.result t.first t.last k c.along-x.ensures (way_x grid k w e) ea ec start in
    let y = step_is c.along-y.result m o _ Y' c.between-start.result t.first t.last k c.along-y.ensures (way_y grid k w e) ea ec start in
    let z = step_is c.along-z.result m o _ Z' c.between-start.result t.first t.last k c.along-z.ensures (way_z grid k w e) ea ec start in
    let forms : GridForms = record {
      grid = grid;
      per_node = c.steps_of.result;
      start = c.between-start.result;
      height = c.heights.result;
      x = c.along-x.result;
      y = c.along-y.result;
      z = c.along-z.result;
      xy = record { c = c.eight_products.result };
      yz = record { c = c.eight_products-2.result };
      zx = record { c = c.eight_products-3.result };
    } in
    subst (λ (g : GridSize). AreGridForms forms c.args.sweep.now g k) c.grid.view_is
    (subst (λ (d : SweepOf). AreGridForms forms d grid k) c.sweep.view_is
    record {
      per_node_is = subst (λ (g : GridSize). c.steps_of.result ≡ per_node g) (sym c.grid.view_is) c.steps_of.ensures;
      start = start;
      height_is = c.heights.ensures ∙ ap₂ (λ a b. dot_on_cell a b t.first t.last) ef et ∙ ap₂ (λ a b. dot_on_cell P Q a b) ea ec;
      x = x;
      y = y;
      z = z;
      xy_is = c.eight_products.ensures ∙ crossed_is c.along-x.result c.along-y.result m o X' Y' k x y;
      yz_is = c.eight_products-2.ensures ∙ crossed_is c.along-y.result c.along-z.result m o Y' Z' k y z;
      zx_is = c.eight_products-3.ensures ∙ crossed_is c.along-z.result c.along-x.result m o Z' X' k z x;
    })
