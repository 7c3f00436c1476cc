use Rattle.std.proofs.Common.{◌≤◌, ◌^◌, subst}
use Rattle.space.specs.Ranges.{IsPoint}
use Rattle.bern_form.specs.Sizes.{scale_limit}
use Rattle.ray_grid.specs.Ranges.{IsGrid}
use Rattle.ray_grid.proofs.Sizes.{has_first}
use Rattle.wanted_marks.specs.Ready.{IsReadyMove}
use Rattle.wanted_marks.proofs.OnStrips.{has_ray, strip_fits, strip_is}
use Rattle.wanted_marks.proofs.move_marker.MoveMarker.sheet_on.Goals as goal

pub point-first-requires-clause-ray : goal.point-first-requires-clause-ray
point-first-requires-clause-ray c = has_ray c.args.grid.now c.args.family c.args.i (subst IsGrid c.grid.view_is c.grid.invariant) c.requires.strip

pub point-first-requires-clause-point : goal.point-first-requires-clause-point
point-first-requires-clause-point c = has_first c.args.grid.now c.args.family (subst IsGrid c.grid.view_is c.grid.invariant)

pub strip-requires : goal.strip-requires
strip-requires c =
    let s = c.self.inside in let v = c.args.self.now in
    let ready = subst (IsReadyMove s.ready.now) c.self.view_is c.self.invariant in
    strip_fits c.args.forms.now v.sweep c.args.grid.now c.args.family c.args.i (2 ^ v.depth) c.requires.forms (subst IsGrid c.grid.view_is c.grid.invariant) c.requires.strip ready.valid
    (subst IsPoint c.point-first.ensures.position c.point-first.ensures.near) (subst (λ k. k ≤ scale_limit) ready.scale_is ready.few)

pub returns : goal.returns
returns c =
    let s = c.self.inside in let v = c.args.self.now in
    let ready = subst (IsReadyMove s.ready.now) c.self.view_is c.self.invariant in
    strip_is c.strip.result c.args.forms.now v c.args.grid.now c.args.family c.args.i c.requires.forms (subst IsGrid c.grid.view_is c.grid.invariant)
    (subst (λ k. k ≤ scale_limit) ready.scale_is ready.few) c.strip.ensures
