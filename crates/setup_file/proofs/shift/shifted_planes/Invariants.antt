use Rattle.std.proofs.Common.{◌≡◌, map, take}
use Rattle.setup_file.specs.Shift.{shifted_plane}
use Rattle.setup_file.proofs.shift.shifted_planes.Given as goal

-- the planes so far are raised
abbrev pub invariant-loop-plane : goal.invariant-loop-plane
invariant-loop-plane l = l.raised.items ≡ map (shifted_plane l.by) (take l.plane-index l.planes)
