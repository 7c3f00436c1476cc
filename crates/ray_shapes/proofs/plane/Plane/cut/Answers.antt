use Rattle.std.proofs.Common.{◌↔◌, ℤ, pos, ◌+ℤ◌, ◌*ℤ◌, ◌≤ℤ◌, IsTrue, subst, sym}
use Rattle.ray_shapes.specs.Lines.{position}
use Rattle.ray_shapes.specs.Planes.{plane_holds}
use Rattle.ray_shapes.proofs.OnLines.{held}
use Rattle.ray_shapes.proofs.plane.Plane.cut.Goals as goal

pub returns-clause-exact : goal.returns-clause-exact
returns-clause-exact c =
    let plane = c.args.self.now in let line = c.args.line.now in let ramp = c.ramp.result in
    λ l.
    let half = c.half_line.ensures.exact l in
    let test = subst (λ (d : ℤ). ((ramp.start +ℤ (ramp.slope *ℤ pos l)) ≤ℤ d) ↔ IsTrue (plane_holds plane (position line.family line.first line.step l))) (sym c.ramp.ensures.limit)
    (held plane line.family line.first line.step ramp.start ramp.slope l (c.ramp.ensures.value l)) in
    (λ p. let q = half.0 p in (q.0, q.1, test.0 q.2), λ p. half.1 (p.0, p.1, test.1 p.2))
