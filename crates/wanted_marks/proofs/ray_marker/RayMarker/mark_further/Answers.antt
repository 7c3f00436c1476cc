use Rattle.std.proofs.Common.{◌≡◌, ap, pos, ◌^◌, subst, sym, ◌∙◌}
use Rattle.ray_grid.specs.Lattice.{point_of}
use Rattle.wanted_marks.specs.Lines.{HasForms}
use Rattle.wanted_marks.specs.Rays.{IsClearOf, IsRemovedBy, MoveOf}
use Rattle.wanted_marks.proofs.ray_marker.RayMarker.mark_further.Goals as goal

pub mark_on-requires-clause-fits : goal.mark_on-requires-clause-fits
mark_on-requires-clause-fits c = c.requires.line.fits c.args.l c.requires.within

pub mark_on-requires-clause-below : goal.mark_on-requires-clause-below
mark_on-requires-clause-below c =
    let r = c.args.self.now in let p = c.point-point.result in let line = c.args.line.now in let l = pos c.args.l in
    let here = ap (λ x. x.sweep) c.self.view_is in
    let at_point : p ≡ point_of r.grid r.ray c.args.l = c.point-point.ensures.position ∙ ap (λ x. point_of x.grid x.ray c.args.l) c.self.view_is in
    let forms = subst (λ q. HasForms line l r.sweep.sweep q (2 ^ r.sweep.depth)) (sym at_point) (c.requires.line.forms c.args.l c.requires.within) in
    c.in-Some.ensures p (subst (λ (v : MoveOf). HasForms line l v.sweep p (2 ^ v.depth)) (sym here) forms)

pub slab_above-requires-clause-fits : goal.slab_above-requires-clause-fits
slab_above-requires-clause-fits c = c.requires.line.fits c.args.l c.requires.within

pub returns-in_default-clause-sure : goal.returns-in_default-clause-sure
returns-in_default-clause-sure c =
    let r = c.args.self.now in let p = point_of r.grid r.ray c.args.l in let here = ap (λ x. x.sweep) c.self.view_is in
    sym (subst (λ (v : MoveOf). IsClearOf v p) here
    (c.in_default.ensures p
    (subst (λ (v : MoveOf). HasForms c.args.line.now (pos c.args.l) v.sweep p (2 ^ v.depth)) (sym here) (c.requires.line.forms c.args.l c.requires.within)))).not_sure

pub returns-in_default-clause-possible : goal.returns-in_default-clause-possible
returns-in_default-clause-possible c = λ whole.
    let r = c.args.self.now in let p = point_of r.grid r.ray c.args.l in let here = ap (λ x. x.sweep) c.self.view_is in
    sym (subst (λ (v : MoveOf). IsClearOf v p) here
    (c.in_default.ensures p
    (subst (λ (v : MoveOf). HasForms c.args.line.now (pos c.args.l) v.sweep p (2 ^ v.depth)) (sym here) (c.requires.line.forms c.args.l c.requires.within)))).not_possible

pub is_held_first-requires : goal.is_held_first-requires
is_held_first-requires c = c.requires.line.fits c.args.l c.requires.within

pub returns-then-is_held_first-clause-sure : goal.returns-then-is_held_first-clause-sure
returns-then-is_held_first-clause-sure c =
    let r = c.args.self.now in let p = point_of r.grid r.ray c.args.l in let here = ap (λ x. x.sweep) c.self.view_is in
    sym (subst (λ (v : MoveOf). IsRemovedBy v p) here
    (c.is_held_first.ensures c.if-is_held_first.true p
    (subst (λ (v : MoveOf). HasForms c.args.line.now (pos c.args.l) v.sweep p (2 ^ v.depth)) (sym here) (c.requires.line.forms c.args.l c.requires.within)))).sure

pub returns-then-is_held_first-clause-possible : goal.returns-then-is_held_first-clause-possible
returns-then-is_held_first-clause-possible c = λ whole.
    let r = c.args.self.now in let p = point_of r.grid r.ray c.args.l in let here = ap (λ x. x.sweep) c.self.view_is in
    sym (subst (λ (v : MoveOf). IsRemovedBy v p) here
    (c.is_held_first.ensures c.if-is_held_first.true p
    (subst (λ (v : MoveOf). HasForms c.args.line.now (pos c.args.l) v.sweep p (2 ^ v.depth)) (sym here) (c.requires.line.forms c.args.l c.requires.within)))).possible
