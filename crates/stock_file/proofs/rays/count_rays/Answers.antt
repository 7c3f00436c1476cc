use Rattle.std.proofs.Common.{ap}
use Rattle.ray_grid.specs.Grids.{GridSize}
use Rattle.stock_file.proofs.WalkLemmas.{rays_counted}
use Rattle.stock_file.proofs.rays.count_rays.Goals as goal

pub returns-clause-count : goal.returns-clause-count
returns-clause-count c = rays_counted c.args.grid.now c.grid.inside.counts (ap (λ (g : GridSize). g.counts) c.grid.view_is)
