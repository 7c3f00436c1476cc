use Rattle.std.proofs.Common.{arith}
use Rattle.wanted_marks.proofs.ray_marker.RayMarker.with_line.Goals as goal

pub invariant_of-result : goal.invariant_of-result
invariant_of-result c = record { ray_of = record { on_grid = c.requires.ray; few = omega (arith, c.points-few.ensures) }; line_of = c.requires.line }
