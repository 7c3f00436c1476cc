use Rattle.axis_cells.proofs.Fits.{scaled_fits}
use Rattle.axis_cells.proofs.length.scaled.Goals as goal

pub overflow_mul-result : goal.overflow_mul-result
overflow_mul-result c = (scaled_fits c.args.scale c.args.length c.from.result c.from-2.result c.requires.scale c.requires.length c.from.ensures c.from-2.ensures).fits

pub returns-clause-value : goal.returns-clause-value
returns-clause-value c = (scaled_fits c.args.scale c.args.length c.from.result c.from-2.result c.requires.scale c.requires.length c.from.ensures c.from-2.ensures).value

pub returns-clause-small : goal.returns-clause-small
returns-clause-small c = (scaled_fits c.args.scale c.args.length c.from.result c.from-2.result c.requires.scale c.requires.length c.from.ensures c.from-2.ensures).small
