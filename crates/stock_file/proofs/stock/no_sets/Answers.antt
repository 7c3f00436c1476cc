use Rattle.std.proofs.Common.{◌<◌, ◌+◌, length, arith, sym, ◌∙◌, subst}
use Rattle.ray_grid.specs.Lattice.{points_of}
use Rattle.ray_grid.specs.Points.{rays_of}
use Rattle.ray_grid.specs.Ranges.{IsGrid}
use Rattle.ray_grid.specs.declared.ray.Ray.{Ray}
use Rattle.stock_file.specs.Rays.{IsRayAt}
use Rattle.stock_file.proofs.SetLemmas.{empty_is, one_more_set}
use Rattle.stock_file.proofs.WalkLemmas.{IsAtRay, walk_goes_on}
use Rattle.stock_file.proofs.stock.no_sets.Goals as goal

pub loop-number-preserved : goal.loop-number-preserved
loop-number-preserved c =
    let g = c.args.grid.now in
    let n = c.loop-number.number in
    let ray = c.loop-number.ray in
    let valid : IsGrid g = subst IsGrid c.grid.view_is c.grid.invariant in
    let low : n < length (rays_of g) = omega (arith, c.loop-number-test.true, c.count_rays-count.ensures.count) in
    let here : IsRayAt g n ray = c.loop-number.invariant.ray low in
    record {
      sets = c.in_ok-push.ensures.items
          ∙ one_more_set g n ray c.loop-number.rays.items c.new.result here low c.loop-number.invariant.sets
          (empty_is c.new.result (points_of g ray.family) (c.new.ensures.bound ∙ c.points.ensures) c.new.ensures.empty);
      ray = subst (λ (r : Ray). IsAtRay g (n + 1) r) (sym c.ray_after-ray.ensures) (walk_goes_on g n ray valid here);
      most = omega (arith, c.loop-number-test.true);
    }
