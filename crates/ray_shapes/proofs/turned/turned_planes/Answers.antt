use Rattle.std.proofs.Common.{◌++◌, ◌∷◌, [], pos, ap, ◌∙◌}
use Rattle.ray_shapes.specs.declared.plane.Plane.{Plane}
use Rattle.ray_shapes.specs.Turned.{turned_plane}
use Rattle.ray_shapes.proofs.Grown.{grown_all, grown_more}
use Rattle.ray_shapes.proofs.turned.turned_planes.Goals as goal

pub loop-plane-preserved : goal.loop-plane-preserved
loop-plane-preserved c =
    let zero : Plane = record { a = pos 0; b = pos 0; c = pos 0; d = pos 0 } in
    grown_more (turned_plane c.args.turn.now) c.args.planes.now c.loop-plane.plane-index zero c.loop-plane.made.items c.push.new.self.items
    c.loop-plane-test.true c.loop-plane.invariant
    (c.in_ok-push.ensures.items ∙ ap (λ (plane : Plane). c.loop-plane.made.items ++ plane ∷ []) c.turned_plane.ensures)

pub returns : goal.returns
returns c =
    grown_all (turned_plane c.args.turn.now) c.args.planes.now c.loop-plane.plane-index c.loop-plane.made.items c.loop-plane-test.false
    c.loop-plane.invariant
