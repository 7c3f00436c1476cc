use Rattle.std.proofs.Common.{◌≡◌, arith, ap, subst, sym, pos, ◌-◌, ◌^◌}
use Rattle.ray_grid.specs.Lattice.{point_of}
use Rattle.wanted_marks.specs.Lines.{HasForms}
use Rattle.wanted_marks.specs.Rays.{IsClearOf, MoveOf}
use Rattle.wanted_marks.specs.ReadyRay.{IsReadyRay}
use Rattle.wanted_marks.proofs.ray_marker.RayMarker.are_missed.Goals as goal

pub are_missed-requires-clause-first : goal.are_missed-requires-clause-first
are_missed-requires-clause-first c =
    let ready = subst (IsReadyRay c.self.inside.line) c.self.view_is c.self.invariant in
    let line = ready.line_of in
    line.fits c.args.l (omega (arith, c.requires.order, c.requires.within))

pub are_missed-requires-clause-last : goal.are_missed-requires-clause-last
are_missed-requires-clause-last c =
    let ready = subst (IsReadyRay c.self.inside.line) c.self.view_is c.self.invariant in
    let line = ready.line_of in
    line.fits c.args.m c.requires.within

pub are_missed-requires-clause-bend : goal.are_missed-requires-clause-bend
are_missed-requires-clause-bend c =
    let ready = subst (IsReadyRay c.self.inside.line) c.self.view_is c.self.invariant in
    let line = ready.line_of in
    line.bends (c.args.m - c.args.l) (omega (arith, c.requires.within))

pub returns : goal.returns
returns c = λ yes x from to.
    let r = c.args.self.now in
    let ready = subst (IsReadyRay c.self.inside.line) c.self.view_is c.self.invariant in
    let line = ready.line_of in
    let p = point_of r.grid r.ray x in
    let here : c.self.inside.mover.now ≡ r.sweep = ap (λ x. x.sweep) c.self.view_is in
    subst (λ (v : MoveOf). IsClearOf v p) here
    (c.are_missed.ensures yes x from to p
    (subst (λ (v : MoveOf). HasForms c.self.inside.line (pos x) v.sweep p (2 ^ v.depth)) (sym here) (line.forms x (omega (arith, to, c.requires.within)))))
