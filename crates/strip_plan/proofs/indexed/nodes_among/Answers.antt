use Rattle.std.proofs.Common.{arith}
use Rattle.strip_plan.proofs.FirstRays.{not_reached, rounded_range, rounded_up}
use Rattle.strip_plan.proofs.indexed.nodes_among.Goals as goal

pub returns-clause-has : goal.returns-clause-has
returns-clause-has c n is =
    let from = rounded_up c.args.points.0 c.args.per_node n c.requires is.0 in
    let below = not_reached c.args.points.1 c.args.per_node n c.requires is.1 in (omega (arith, from, c.div_ceil.ensures), omega (arith, below, c.div_ceil-2.ensures))

pub returns-clause-range : goal.returns-clause-range
returns-clause-range c count is =
    rounded_range c.args.points.0 c.args.points.1 c.args.per_node count c.div_ceil.result c.div_ceil-2.result c.requires c.div_ceil.ensures c.div_ceil-2.ensures
    (record { order = is.order; within = is.within })
