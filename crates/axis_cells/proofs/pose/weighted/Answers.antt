use Rattle.axis_cells.proofs.Fits.{weighted_fits}
use Rattle.axis_cells.proofs.pose.weighted.Goals as goal

pub overflow_mul-result : goal.overflow_mul-result
overflow_mul-result c = (weighted_fits c.args.weight c.args.place c.from.result c.from-2.result c.requires.weight c.requires.place c.from.ensures c.from-2.ensures).fits

pub returns-clause-value : goal.returns-clause-value
returns-clause-value c = (weighted_fits c.args.weight c.args.place c.from.result c.from-2.result c.requires.weight c.requires.place c.from.ensures c.from-2.ensures).value

pub returns-clause-small : goal.returns-clause-small
returns-clause-small c = (weighted_fits c.args.weight c.args.place c.from.result c.from-2.result c.requires.weight c.requires.place c.from.ensures c.from-2.ensures).small
