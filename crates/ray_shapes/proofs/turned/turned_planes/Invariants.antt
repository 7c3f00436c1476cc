use Rattle.std.proofs.Common.{◌≡◌, map, take}
use Rattle.ray_shapes.specs.Turned.{turned_plane}
use Rattle.ray_shapes.proofs.turned.turned_planes.Given as goal

-- the planes so far are turned
abbrev pub invariant-loop-plane : goal.invariant-loop-plane
invariant-loop-plane l = l.made.items ≡ map (turned_plane l.turn) (take l.plane-index l.planes)
