use Rattle.std.proofs.Common.{◌≡◌, take}
use Rattle.ray_shapes.specs.Turned.{turned_bodies}
use Rattle.ray_shapes.proofs.turned.turned_bodies.Given as goal

-- the bodies so far are turned
abbrev pub invariant-loop-body : goal.invariant-loop-body
invariant-loop-body l = l.made.items ≡ turned_bodies l.turn (take l.body-index l.bodies)
