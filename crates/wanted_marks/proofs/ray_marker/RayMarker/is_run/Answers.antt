use Rattle.std.proofs.Common.{◌≡◌, ap, subst, sym}
use Rattle.wanted_marks.specs.ReadyRay.{IsReadyRay}
use Rattle.wanted_marks.proofs.ray_marker.RayMarker.is_run.Goals as goal

pub returns : goal.returns
returns c = λ yes.
    let r = c.args.self.now in
    let ready = subst (IsReadyRay c.self.inside.line) c.self.view_is c.self.invariant in
    let line = ready.line_of in
    let here : r.sweep ≡ c.self.inside.mover.now = ap (λ x. x.sweep) (sym c.self.view_is) in
    c.is_run.ensures.last yes r c.self.inside.line here line c.requires.low c.requires.high
