use Rattle.std.proofs.Common.{rules}
use Rattle.ray_grid.proofs.Sizes.{node_of}
use Rattle.ray_grid.proofs.grid.Grid.node.Goals as goal

pub overflow_mul-result : goal.overflow_mul-result
overflow_mul-result c = (node_of _ c.args.self.now c.args.axis c.args.n c.self.view_is c.self.invariant (search rules) c.requires.axis c.requires.node).product

pub overflow_add-result : goal.overflow_add-result
overflow_add-result c = (node_of _ c.args.self.now c.args.axis c.args.n c.self.view_is c.self.invariant (search rules) c.requires.axis c.requires.node).sum

pub returns-clause-value : goal.returns-clause-value
returns-clause-value c = (node_of _ c.args.self.now c.args.axis c.args.n c.self.view_is c.self.invariant (search rules) c.requires.axis c.requires.node).there

pub returns-clause-near : goal.returns-clause-near
returns-clause-near c = (node_of _ c.args.self.now c.args.axis c.args.n c.self.view_is c.self.invariant (search rules) c.requires.axis c.requires.node).near
