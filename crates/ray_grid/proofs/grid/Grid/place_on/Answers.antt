use Rattle.std.proofs.Common.{arith, rules, subst}
use Rattle.ray_grid.specs.Ranges.{IsGrid}
use Rattle.ray_grid.proofs.Sizes.{place_of, few_places}
use Rattle.ray_grid.proofs.grid.Grid.place_on.Goals as goal

pub overflow_cast-result : goal.overflow_cast-result
overflow_cast-result c = let few = few_places c.args.self.now c.args.axis (subst IsGrid c.self.view_is c.self.invariant) c.requires.axis in omega (arith, c.requires.point)

pub overflow_mul-result : goal.overflow_mul-result
overflow_mul-result c = (place_of _ c.args.self.now c.args.axis c.args.l c.self.view_is c.self.invariant (search rules) c.requires.axis c.requires.point).product

pub overflow_add-result : goal.overflow_add-result
overflow_add-result c = (place_of _ c.args.self.now c.args.axis c.args.l c.self.view_is c.self.invariant (search rules) c.requires.axis c.requires.point).sum

pub returns-clause-value : goal.returns-clause-value
returns-clause-value c = (place_of _ c.args.self.now c.args.axis c.args.l c.self.view_is c.self.invariant (search rules) c.requires.axis c.requires.point).there

pub returns-clause-near : goal.returns-clause-near
returns-clause-near c = (place_of _ c.args.self.now c.args.axis c.args.l c.self.view_is c.self.invariant (search rules) c.requires.axis c.requires.point).near
