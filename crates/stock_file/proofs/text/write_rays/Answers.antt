use Rattle.std.proofs.Common.{◌<◌, ◌+◌, ◌++◌, [], length, arith, sym, subst}
use Rattle.std.proofs.lemmas.List.{get_or_read}
use Rattle.ray_grid.specs.Points.{rays_of}
use Rattle.ray_grid.specs.Ranges.{IsGrid}
use Rattle.ray_grid.specs.declared.ray.Ray.{Ray}
use Rattle.stock_file.specs.Rays.{IsRayAt}
use Rattle.stock_file.specs.Spelling.{rays_text}
use Rattle.stock_file.proofs.WalkLemmas.{IsAtRay, set_written, walk_goes_on}
use Rattle.stock_file.proofs.text.write_rays.Goals as goal

pub loop-set-preserved : goal.loop-set-preserved
loop-set-preserved c =
    let g = c.args.grid.now in
    let sets = c.args.sets.now in
    let n = c.loop-set.set-index in
    let ray = c.loop-set.ray in
    let valid : IsGrid g = subst IsGrid c.grid.view_is c.grid.invariant in
    let low : n < length (rays_of g) = omega (arith, c.loop-set-test.true, c.requires) in
    let here : IsRayAt g n ray = c.loop-set.invariant.ray low in
    record {
      text = set_written g n ray sets c.set-item.result c.loop-set.page c.write_ray.new.page (c.args.page.now ++ rays_text (rays_of g) sets) here low c.requires
          (sym (get_or_read sets n c.set-item.result c.loop-set-test.true c.set-item.is [])) c.in_ok-write_ray.ensures c.loop-set.invariant.text;
      ray = subst (λ (r : Ray). IsAtRay g (n + 1) r) (sym c.ray_after-ray.ensures) (walk_goes_on g n ray valid here);
    }
