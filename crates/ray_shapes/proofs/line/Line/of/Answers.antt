use Rattle.std.proofs.Common.{◌∙◌, ap, subst, sym, ℕ, ℤ, List, rules, w32, FitsSigned}
use Rattle.std.proofs.lemmas.Int.{to_z-of_z}
use Rattle.ray_grid.specs.Grids.{GridSize}
use Rattle.ray_grid.specs.Ranges.{IsGrid}
use Rattle.ray_grid.specs.Lattice.{points_of, point_of}
use Rattle.ray_shapes.specs.Lines.{position}
use Rattle.ray_shapes.specs.Sizes.{IsLine}
use Rattle.ray_grid.proofs.Sizes.{has_first}
use Rattle.ray_shapes.proofs.OnLines.{is_line, position_is}
use Rattle.ray_shapes.proofs.line.Line.of.Goals as goal

pub point-requires-clause-point : goal.point-requires-clause-point
point-requires-clause-point c = has_first c.args.grid.now c.args.ray.now.family (subst IsGrid c.grid.view_is c.grid.invariant)

pub invariant_of-result : goal.invariant_of-result
invariant_of-result c =
    let g = c.args.grid.now in
    let ray = c.args.ray.now in
    let fits : FitsSigned w32 c.grid.inside.step = search rules in
    let line : IsLine (point_of g ray 0) g.step (points_of g ray.family) = is_line g ray.family ray.i ray.j (subst IsGrid c.grid.view_is c.grid.invariant) c.requires.first c.requires.second in
    let first : IsLine c.point.result g.step (points_of g ray.family) = subst (λ (p : List ℤ). IsLine p g.step (points_of g ray.family)) (sym c.point.ensures.position) line in
    let points : IsLine c.point.result g.step c.points.result = subst (λ (n : ℕ). IsLine c.point.result g.step n) (sym c.points.ensures) first in
    let step : IsLine c.point.result c.grid.inside.step c.points.result = subst (λ (h : GridSize). IsLine c.point.result h.step c.points.result) (sym c.grid.view_is) points in
    record { in_range = simp to_z-of_z step }

pub returns-clause-position : goal.returns-clause-position
returns-clause-position c =
    let g = c.args.grid.now in
    let ray = c.args.ray.now in
    let fits : FitsSigned w32 c.grid.inside.step = search rules in
    λ l.
    ap (λ (z : ℤ). position ray.family c.point.result z l) (to_z-of_z w32 c.grid.inside.step fits)
    ∙ ap (λ (h : GridSize). position ray.family c.point.result h.step l) c.grid.view_is
    ∙ ap (λ (p : List ℤ). position ray.family p g.step l) c.point.ensures.position
    ∙ position_is g ray.family ray.i ray.j l
