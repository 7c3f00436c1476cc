use Rattle.std.proofs.Common.{pos, ◌-◌, ◌≤◌, ◌^◌, arith, refl, subst}
use Rattle.space.specs.Ranges.{IsPoint}
use Rattle.bern_form.specs.Sizes.{scale_limit}
use Rattle.ray_grid.specs.Lattice.{point_at, point_of}
use Rattle.ray_grid.specs.Ranges.{IsGrid}
use Rattle.ray_grid.proofs.Sizes.{has_first}
use Rattle.wanted_marks.specs.Rays.{RayOf}
use Rattle.wanted_marks.specs.Ready.{IsReadyMove}
use Rattle.wanted_marks.specs.Strips.{StripOf, way_to}
use Rattle.wanted_marks.proofs.OnRays.{across_rays, line_of_ray, ray_fits}
use Rattle.wanted_marks.proofs.Stepping.{line_is, ray_is}
use Rattle.wanted_marks.proofs.move_marker.MoveMarker.line_on.Goals as goal

pub point-start-requires-clause-point : goal.point-start-requires-clause-point
point-start-requires-clause-point c = has_first c.args.grid.now c.args.ray.now.family (subst IsGrid c.grid.view_is c.grid.invariant)

pub overflow_sub-points : goal.overflow_sub-points
overflow_sub-points c =
    let some = has_first c.args.grid.now c.args.ray.now.family (subst IsGrid c.grid.view_is c.grid.invariant) in
    omega (arith, some, c.points-points.ensures)

pub point-last-requires-clause-point : goal.point-last-requires-clause-point
point-last-requires-clause-point c =
    let some = has_first c.args.grid.now c.args.ray.now.family (subst IsGrid c.grid.view_is c.grid.invariant) in
    omega (arith, some, c.points-points.ensures)

pub line-requires : goal.line-requires
line-requires c =
    let s = c.self.inside in let v = c.args.self.now in let ray = c.args.ray.now in let S = 2 ^ v.depth in
    let r : RayOf = record { sweep = v; grid = c.args.grid.now; ray = ray } in
    let strip : StripOf = record { sweep = v; grid = c.args.grid.now; family = ray.family; i = ray.i } in
    let ready = subst (IsReadyMove s.ready.now) c.self.view_is c.self.invariant in
    let few : S ≤ scale_limit = subst (λ k. k ≤ scale_limit) ready.scale_is ready.few in
    let first = point_at r.grid ray.family ray.i 0 0 in let beside = point_at r.grid ray.family ray.i 1 0 in let v01 = way_to strip 0 1 S in
    ray_fits c.args.sheet.now v.sweep (point_of r.grid ray 0) v01 S (pos ray.j)
    (ray_is c.args.sheet.now v.sweep first beside v01 (point_of r.grid ray 0) S (pos ray.j) c.requires.sheet.forms (across_rays r ray.family ray.i ray.j))
    ready.valid (subst IsPoint c.point-start.ensures.position c.point-start.ensures.near) few c.requires.sheet.within

pub returns : goal.returns
returns c =
    let s = c.self.inside in let v = c.args.self.now in let ray = c.args.ray.now in let S = 2 ^ v.depth in
    let r : RayOf = record { sweep = v; grid = c.args.grid.now; ray = ray } in
    let strip : StripOf = record { sweep = v; grid = c.args.grid.now; family = ray.family; i = ray.i } in
    let ready = subst (IsReadyMove s.ready.now) c.self.view_is c.self.invariant in
    let few : S ≤ scale_limit = subst (λ k. k ≤ scale_limit) ready.scale_is ready.few in
    let first = point_at r.grid ray.family ray.i 0 0 in let beside = point_at r.grid ray.family ray.i 1 0 in
    let o = point_of r.grid ray 0 in let v01 = way_to strip 0 1 S in
    let has = ray_is c.args.sheet.now v.sweep first beside v01 o S (pos ray.j) c.requires.sheet.forms (across_rays r ray.family ray.i ray.j) in
    line_of_ray c.line.result r 0 (c.points-points.result - 1) S refl few ready.valid
    (line_is c.line.result c.args.sheet.now v.sweep first v01 (way_to strip 1 0 S) o S (pos ray.j) c.requires.sheet.forms has c.line.ensures)
    (subst IsPoint c.point-start.ensures.position c.point-start.ensures.near) (subst IsPoint c.point-last.ensures.position c.point-last.ensures.near) (omega (arith, c.points-points.ensures))
