use Rattle.axis_cells.proofs.Fits.{scaled_square_fits}
use Rattle.axis_cells.proofs.length.scaled_square.Goals as goal

pub overflow_mul-result : goal.overflow_mul-result
overflow_mul-result c = let is = c.scaled-length in (scaled_square_fits c.args.scale c.args.length is.result is.ensures.small c.requires.length is.ensures.value).fits

pub returns-clause-square : goal.returns-clause-square
returns-clause-square c = let is = c.scaled-length in (scaled_square_fits c.args.scale c.args.length is.result is.ensures.small c.requires.length is.ensures.value).value

pub returns-clause-small : goal.returns-clause-small
returns-clause-small c = let is = c.scaled-length in (scaled_square_fits c.args.scale c.args.length is.result is.ensures.small c.requires.length is.ensures.value).small
