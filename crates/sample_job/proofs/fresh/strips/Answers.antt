use Rattle.ray_shapes.proofs.Kept.{gives_on}
use Rattle.sample_job.proofs.fresh.strips.Goals as goal

pub strips_by-requires-clause-stock : goal.strips_by-requires-clause-stock
strips_by-requires-clause-stock c = gives_on _ c.grid-grid.result.now c.args.plan.now.grid c.new-stock.result c.grid-grid.ensures c.new-stock.ensures.gives

pub strips_by-requires-clause-others : goal.strips_by-requires-clause-others
strips_by-requires-clause-others c = gives_on _ c.grid-grid.result.now c.args.plan.now.grid c.new-others.result c.grid-grid.ensures c.new-others.ensures.gives
