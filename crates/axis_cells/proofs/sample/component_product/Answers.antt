use Rattle.space.specs.Vectors.{at}
use Rattle.axis_cells.proofs.Fits.{component_fits}
use Rattle.axis_cells.proofs.sample.component_product.Goals as goal

pub overflow_mul-result : goal.overflow_mul-result
overflow_mul-result c = (component_fits (at c.args.p.now c.args.i) (at c.args.a.now c.args.i) c.from.result c.from-2.result c.requires.p c.requires.a c.from.ensures c.from-2.ensures).fits

pub returns-clause-value : goal.returns-clause-value
returns-clause-value c = (component_fits (at c.args.p.now c.args.i) (at c.args.a.now c.args.i) c.from.result c.from-2.result c.requires.p c.requires.a c.from.ensures c.from-2.ensures).value

pub returns-clause-small : goal.returns-clause-small
returns-clause-small c = (component_fits (at c.args.p.now c.args.i) (at c.args.a.now c.args.i) c.from.result c.from-2.result c.requires.p c.requires.a c.from.ensures c.from-2.ensures).small
