use Rattle.std.proofs.Common.{arith, subst}
use Rattle.ray_grid.specs.Ranges.{IsGrid}
use Rattle.ray_grid.proofs.Sizes.{has_first}
use Rattle.strip_plan.proofs.Extents.{first_ray}
use Rattle.strip_plan.proofs.bounds.last_point.Goals as goal

valid : (c : goal.After-point-arg-1) → IsGrid c.args.grid.now
valid c = subst IsGrid c.grid.view_is c.grid.invariant

pub overflow_sub-points : goal.overflow_sub-points
overflow_sub-points c = let some = has_first c.args.grid.now c.args.family (valid c) in omega (arith, some, c.points-points.ensures)

pub point-requires-clause-ray : goal.point-requires-clause-ray
point-requires-clause-ray c = first_ray c.args.grid.now c.args.family (valid c)

pub point-requires-clause-point : goal.point-requires-clause-point
point-requires-clause-point c = let some = has_first c.args.grid.now c.args.family (valid c) in omega (arith, some, c.points-points.ensures)
