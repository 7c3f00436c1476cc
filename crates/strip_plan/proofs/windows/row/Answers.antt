use Rattle.strip_plan.proofs.Extents.{grid_like}
use Rattle.strip_plan.proofs.Rows.{row_of, some_rays}
use Rattle.strip_plan.proofs.windows.row.Goals as goal

pub strip_ray-first-requires-clause-ray : goal.strip_ray-first-requires-clause-ray
strip_ray-first-requires-clause-ray c = some_rays c.args.grid.now c.args.strip (grid_like _ c.args.grid.now c.grid.view_is c.grid.invariant) c.requires

pub returns : goal.returns
returns c = row_of c.args.grid.now c.args.strip c.strip_ray-first.result c.strip_ray-first.ensures.ray c.strip_ray-first.ensures.there
