use Rattle.std.proofs.Common.{ℤ, List, pos, ◌-◌, ◌+◌, ◌^◌, ◌≤◌, arith, subst, sym}
use Rattle.space.specs.Ranges.{IsPoint}
use Rattle.ray_grid.specs.Lattice.{point_of}
use Rattle.wanted_marks.specs.Rays.{MoveOf, RayOf}
use Rattle.wanted_marks.specs.Ready.{IsReadyMove}
use Rattle.wanted_marks.specs.StretchLines.{IsThroughOn}
use Rattle.wanted_marks.specs.Ways.{scaled_way}
use Rattle.wanted_marks.proofs.OnRays.{stretch_line_of_ray}
use Rattle.wanted_marks.proofs.move_marker.MoveMarker.line_on_stretch.Goals as goal

pub returns : goal.returns
returns c =
    let s = c.self.inside in let v = c.args.self.now in let t = c.args.stretch.now in
    let r : RayOf = record { sweep = v; grid = c.args.grid.now; ray = c.args.ray.now } in
    let ready = subst (IsReadyMove s.ready.now) c.self.view_is c.self.invariant in
    let start = c.point-start in let next = c.point-next in let last = c.point-last in
    let step = λ (x : MoveOf) (a b : List ℤ). IsThroughOn c.through.result t x.sweep a (scaled_way (pos s.ready.now.scale) a b) s.ready.now.scale in
    let is = subst (λ (b : List ℤ). step v (point_of r.grid r.ray 0) b) next.ensures.position
    (subst (λ (a : List ℤ). step v a next.result) start.ensures.position (subst (λ (x : MoveOf). step x start.result next.result) c.self.view_is c.through.ensures)) in
    stretch_line_of_ray c.through.result t r (c.points-points.result - 1) s.ready.now.scale ready.scale_is ready.few ready.valid
    (subst (λ k. t.first + 2 ^ t.levels ≤ k) (sym ready.scale_is) c.requires.within) is
    (subst IsPoint start.ensures.position start.ensures.near) (subst IsPoint last.ensures.position last.ensures.near) (omega (arith, c.points-points.ensures))
