use Rattle.std.proofs.Common.{◌≡◌, take}
use Rattle.ray_shapes.proofs.body.Bodies.copy.Given as goal

abbrev pub invariant-loop-body : goal.invariant-loop-body
invariant-loop-body l = l.bodies.items ≡ take l.body-index l.source
