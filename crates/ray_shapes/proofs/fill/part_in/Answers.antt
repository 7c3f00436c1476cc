use Rattle.std.proofs.Common.{◌↔◌, ◌<◌, ◌≤◌, IsTrue, List, get_or, pos, arith, subst}
use Rattle.std.proofs.lemmas.List.{take_all}
use Rattle.ray_shapes.specs.declared.plane.Plane.{Plane}
use Rattle.ray_shapes.specs.Lines.{position}
use Rattle.ray_shapes.specs.Planes.{plane_holds, in_body}
use Rattle.ray_shapes.proofs.BodyParts.{one_more, plane_at}
use Rattle.ray_shapes.proofs.Covering.{all_first}
use Rattle.ray_shapes.proofs.fill.part_in.Goals as goal

pub returns-then-part-clause-exact : goal.returns-then-part-clause-exact
returns-then-part-clause-exact c =
    let line = c.args.line.now in
    λ l. (
      λ p. absurd (let a = p.0 in let b = p.1 in omega arith),
      λ p. (c.loop-plane.invariant.exact l).1 (p.0, all_first (λ plane. plane_holds plane (position line.family line.first line.step l)) c.args.planes.now c.loop-plane.plane-index p.1),
    )

pub loop-plane-preserved : goal.loop-plane-preserved
loop-plane-preserved c =
    let planes = c.args.planes.now in let k = c.loop-plane.plane-index in let inv = c.loop-plane.invariant in
    let zero : Plane = record { a = pos 0; b = pos 0; c = pos 0; d = pos 0 } in
    let more = one_more planes k (get_or planes k zero) c.args.line.now c.loop-plane.part c.cut-part.result (plane_at planes k zero c.loop-plane-test.true)
    (record { order = inv.order; within = inv.within; exact = inv.exact }) c.cut-part.ensures.order c.cut-part.ensures.within c.cut-part.ensures.exact in
    record { order = more.order; within = more.within; exact = more.exact }

pub returns-clause-exact : goal.returns-clause-exact
returns-clause-exact c =
    let line = c.args.line.now in let part = c.loop-plane.part in
    λ l.
    subst (λ (planes : List Plane). ((part.lo ≤ l) × (l < part.hi)) ↔ ((l < line.points) × IsTrue (in_body planes (position line.family line.first line.step l))))
    (take_all c.loop-plane.plane-index c.args.planes.now c.loop-plane-test.false) (c.loop-plane.invariant.exact l)
