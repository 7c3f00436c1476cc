use Rattle.std.proofs.Common.{◌≡◌, ◌*ℤ◌, ℤ, List, pos, FitsSigned, arith, rules, subst, sym, ap, ◌∙◌}
use Rattle.std.proofs.lemmas.Int.{ints, to_z-of_z}
use mir.Syntax.{w32, w64}
use borrow.Author.Differences.{abs_is}
use Rattle.space.specs.Ranges.{IsWithin, vector_limit}
use Rattle.sweep_boxes.specs.Limits.{side_component_limit}
use Rattle.ray_grid.specs.Lattice.{point_at}
use Rattle.ray_grid.specs.Ranges.{IsGrid}
use Rattle.near_points.specs.Ready.{offset_of}
use Rattle.near_points.specs.declared.axis_offset.AxisOffset.{AxisOffset}
use Rattle.near_points.specs.AxisOffsets.{IsAxisOffset}
use Rattle.near_points.specs.AxisOrder.{ray_axis_first, way_across, way_along}
use Rattle.near_points.proofs.Bits.{small_passed}
use Rattle.ray_grid.proofs.Sizes.{has_first}
use Rattle.near_points.proofs.Turning.{ray_axis_first_within, step_by}
use Rattle.near_points.proofs.strip.CylinderStrip.new.Goals as goal

axis_offset_by : (s : AxisOffset) {v w a b d e : List ℤ} → v ≡ w → a ≡ b → d ≡ e → IsAxisOffset s v a d → IsAxisOffset s w b e
axis_offset_by s {v} {w} {a} {b} {d} {e} h k l is = subst (λ (z : List ℤ). IsAxisOffset s w b z) l (subst (λ (z : List ℤ). IsAxisOffset s w z d) k (subst (λ (z : List ℤ). IsAxisOffset s z a d) h is))

pub point-point-requires-clause-point : goal.point-point-requires-clause-point
point-point-requires-clause-point c = has_first c.args.grid.now c.args.family (subst IsGrid c.grid.view_is c.grid.invariant)

pub scaled-requires-clause-place : goal.scaled-requires-clause-place
scaled-requires-clause-place c =
    let g = c.grid.inside in let low = c.grid.invariant.pitch_in.from_least in let high = c.grid.invariant.pitch_in.to_most in
    let f : FitsSigned w32 g.pitch = omega (arith, ints, low, high) in
    omega (arith, ints, low, high, abs_is g.pitch)

pub scaled-requires-2-clause-place : goal.scaled-requires-2-clause-place
scaled-requires-2-clause-place c =
    let g = c.grid.inside in let high = c.grid.invariant.pitch_in.to_most in
    let from = c.grid.invariant.step_in.from_least in let to = c.grid.invariant.step_in.to_most in
    let f : FitsSigned w32 g.step = omega (arith, ints, from, to, high) in
    omega (arith, ints, from, to, high, abs_is g.step)

pub of_offset-along-requires-clause-side : goal.of_offset-along-requires-clause-side
of_offset-along-requires-clause-side c =
    subst (IsWithin side_component_limit) (sym c.ray_axis_first-side.ensures.value) (ray_axis_first_within c.args.family side_component_limit c.args.cylinder.now.side c.args.cylinder.now.side_within)

pub of_offset-requires-clause-side : goal.of_offset-requires-clause-side
of_offset-requires-clause-side c =
    subst (IsWithin side_component_limit) (sym c.ray_axis_first-side.ensures.value) (ray_axis_first_within c.args.family side_component_limit c.args.cylinder.now.side c.args.cylinder.now.side_within)

pub of_offset-requires-2-clause-side : goal.of_offset-requires-2-clause-side
of_offset-requires-2-clause-side c =
    subst (IsWithin side_component_limit) (sym c.ray_axis_first-side.ensures.value) (ray_axis_first_within c.args.family side_component_limit c.args.cylinder.now.side c.args.cylinder.now.side_within)

pub invariant_of-result : goal.invariant_of-result
invariant_of-result c =
    let g = c.grid.inside in let n = c.args.grid.now in let cylinder = c.args.cylinder.now in let f = c.args.family in let i = c.args.i in
    let least = c.grid.invariant.pitch_in.from_least in let high = c.grid.invariant.pitch_in.to_most in
    let from = c.grid.invariant.step_in.from_least in let to = c.grid.invariant.step_in.to_most in
    let fp : FitsSigned w32 g.pitch = omega (arith, ints, least, high) in
    let ft : FitsSigned w32 g.step = omega (arith, ints, from, to, high) in
    let fx : FitsSigned w64 c.scaled.result = search rules in
    let fy : FitsSigned w64 c.scaled-2.result = search rules in
    let axis = c.ray_axis_first-axis.ensures.value in
    let first : c.ray_axis_first.result ≡ ray_axis_first f (offset_of cylinder (point_at n f i 0 0)) =
    c.ray_axis_first.ensures.value ∙ ap (ray_axis_first f) (c.offset_from-offset.ensures.value ∙ ap (offset_of cylinder) c.point-point.ensures.position) in
    let pitch : c.scaled.result ≡ pos cylinder.scale *ℤ n.pitch = (simp to_z-of_z at c.scaled.ensures.value) ∙ ap (λ z. pos cylinder.scale *ℤ z.pitch) c.grid.view_is in
    let step : c.scaled-2.result ≡ pos cylinder.scale *ℤ n.step = (simp to_z-of_z at c.scaled-2.ensures.value) ∙ ap (λ z. pos cylinder.scale *ℤ z.step) c.grid.view_is in
    let across : c.way_across-across.result ≡ way_across f (pos cylinder.scale *ℤ n.pitch) = (simp to_z-of_z at c.way_across-across.ensures.value) ∙ ap (way_across f) pitch in
    let side = c.ray_axis_first-side.ensures.value in let d = ray_axis_first f cylinder.side in
    let along : IsAxisOffset c.of_offset-along.result (way_along c.scaled-2.result) c.ray_axis_first-axis.result c.ray_axis_first-side.result = simp to_z-of_z at c.of_offset-along.ensures in
    record {
      sized = subst IsGrid c.grid.view_is c.grid.invariant;
      first = c.requires;
      start_is = axis_offset_by c.of_offset.result first axis side c.of_offset.ensures;
      across_is = axis_offset_by c.of_offset-2.result across axis side c.of_offset-2.ensures;
      step_is = step_by c.of_axis_offset.result c.of_offset-along.result (way_along (pos cylinder.scale *ℤ n.step)) (ray_axis_first f cylinder.axis) d c.of_axis_offset.ensures
          (axis_offset_by c.of_offset-along.result (ap way_along step) axis side along);
      test_is = c.of_cylinder.ensures;
    }

pub offset_from-offset-requires-clause-scale : goal.offset_from-offset-requires-clause-scale
offset_from-offset-requires-clause-scale c = c.args.cylinder.now.scaled.1

pub offset_from-offset-requires-clause-tip : goal.offset_from-offset-requires-clause-tip
offset_from-offset-requires-clause-tip c = c.args.cylinder.now.tip_within

pub ray_axis_first-axis-requires : goal.ray_axis_first-axis-requires
ray_axis_first-axis-requires c = c.args.cylinder.now.axis_within

pub scaled-requires-clause-scale : goal.scaled-requires-clause-scale
scaled-requires-clause-scale c = c.args.cylinder.now.scaled.1

pub way_across-across-requires : goal.way_across-across-requires
way_across-across-requires c = small_passed vector_limit c.scaled.result (omega arith) (omega (arith, c.scaled.ensures.small))

pub ray_axis_first-side-requires : goal.ray_axis_first-side-requires
ray_axis_first-side-requires c = let w = c.args.cylinder.now.side_within in (omega (arith, w.0), omega (arith, w.1), omega (arith, w.2))

pub scaled-requires-2-clause-scale : goal.scaled-requires-2-clause-scale
scaled-requires-2-clause-scale c = c.args.cylinder.now.scaled.1

pub of_offset-along-requires-clause-v : goal.of_offset-along-requires-clause-v
of_offset-along-requires-clause-v c = (small_passed vector_limit c.scaled-2.result (omega arith) (omega (arith, c.scaled-2.ensures.small)), omega arith, omega arith)

pub of_offset-along-requires-clause-a : goal.of_offset-along-requires-clause-a
of_offset-along-requires-clause-a c = c.ray_axis_first-axis.ensures.small

pub ray_axis_first-requires : goal.ray_axis_first-requires
ray_axis_first-requires c = c.offset_from-offset.ensures.small

pub of_offset-requires-clause-v : goal.of_offset-requires-clause-v
of_offset-requires-clause-v c = c.ray_axis_first.ensures.small

pub of_offset-requires-clause-a : goal.of_offset-requires-clause-a
of_offset-requires-clause-a c = c.ray_axis_first-axis.ensures.small

pub of_offset-requires-2-clause-v : goal.of_offset-requires-2-clause-v
of_offset-requires-2-clause-v c = c.way_across-across.ensures.small

pub of_offset-requires-2-clause-a : goal.of_offset-requires-2-clause-a
of_offset-requires-2-clause-a c = c.ray_axis_first-axis.ensures.small
