use Rattle.std.proofs.Common.{ℕ, ◌*◌, ◌<◌, ◌≤◌, subst}
use Rattle.space.specs.Ranges.{IsBetween}
use Rattle.space.specs.Vectors.{at}
use Rattle.ray_grid.specs.Families.{ray_axis}
use Rattle.ray_grid.specs.Lattice.{nodes_of, per_node, place_at, point_of, points_of}
use Rattle.strip_plan.specs.Ranges.{IsIn, IsRangeOf}
use Rattle.strip_plan.proofs.Extents.{first_ray, grid_like}
use Rattle.strip_plan.proofs.FirstRays.{fewer_points, node_is}
use Rattle.strip_plan.proofs.Reached.{in_box_reach}
use Rattle.strip_plan.proofs.indexed.on_axis.Goals as goal

pub returns : goal.returns
returns c =
    let g = c.args.grid.now in
    let f = c.args.family in
    let axis = ray_axis f in
    let is = grid_like _ g c.grid.view_is c.grid.invariant in
    let low = at c.args.held.now.low axis in
    let high = at c.args.held.now.high axis in
    let line = c.on_first_ray-line.result in
    let found = c.window-points in
    let points : (l : ℕ) → l < points_of g f → IsBetween low high (place_at g axis l) → IsIn found.result l =
    λ l lt between.
    (found.ensures.exact l).1 (lt, in_box_reach line.low line.high (point_of g (record { family = f; i = 0; j = 0 }) l) (c.on_first_ray-line.ensures l between)) in
    let range : IsRangeOf (points_of g f) found.result = record { order = found.ensures.order; within = found.ensures.within } in
    let among = subst (λ (k : ℕ). (count : ℕ) → IsRangeOf (count * k) found.result → IsRangeOf count c.nodes_among.result) c.per_node.ensures.value c.nodes_among.ensures.range in
    let has = subst (λ (k : ℕ). (n : ℕ) → IsIn found.result (n * k) → IsIn c.nodes_among.result n) c.per_node.ensures.value c.nodes_among.ensures.has in
    let some = subst (λ (k : ℕ). 1 ≤ k) c.per_node.ensures.value c.per_node.ensures.some in
    record {
      nodes_of_axis = among (nodes_of g axis) range;
      points_of_ray = range;
      nodes = λ n lt between.
          has n (points (n * per_node g) (fewer_points n (nodes_of g axis) (per_node g) some lt) (subst (IsBetween low high) (node_is g axis n is) between));
      points = points;
    }

pub window-points-requires : goal.window-points-requires
window-points-requires c = first_ray c.args.grid.now c.args.family (grid_like _ c.args.grid.now c.grid.view_is c.grid.invariant)
