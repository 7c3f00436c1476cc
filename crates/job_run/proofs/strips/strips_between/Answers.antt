-- Each closure is made for the grid of the plan.
use Rattle.ray_shapes.proofs.Kept.{gives_on}
use Rattle.job_run.proofs.strips.strips_between.Goals as goal

pub strips_by-requires-clause-order : goal.strips_by-requires-clause-order
strips_by-requires-clause-order c = c.requires.order

pub strips_by-requires-clause-within : goal.strips_by-requires-clause-within
strips_by-requires-clause-within c = c.requires.within

pub strips_by-requires-clause-stock : goal.strips_by-requires-clause-stock
strips_by-requires-clause-stock c =
    gives_on _ c.grid-grid.result.now c.args.plan.now.grid c.new-stock.result c.grid-grid.ensures c.new-stock.ensures.gives

pub strips_by-requires-clause-part : goal.strips_by-requires-clause-part
strips_by-requires-clause-part c =
    gives_on _ c.grid-grid.result.now c.args.plan.now.grid c.new-part.result c.grid-grid.ensures c.new-part.ensures.gives

pub strips_by-requires-clause-fixture : goal.strips_by-requires-clause-fixture
strips_by-requires-clause-fixture c =
    gives_on _ c.grid-grid.result.now c.args.plan.now.grid c.new-fixture.result c.grid-grid.ensures c.new-fixture.ensures.gives
