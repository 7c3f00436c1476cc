use mir.Syntax.{w64}
use Rattle.moment_forms.specs.Sizes.{part_limit}
use Rattle.moment_forms.proofs.Fits.{height_fits, parts_fit, sum_fits, sums_are, sums_fit, sums_small}
use Rattle.moment_forms.proofs.moments.add.Goals as goal

pub overflow_add-result : goal.overflow_add-result
overflow_add-result c = sum_fits w64 c.args.x c.args.y part_limit parts_fit c.requires.x c.requires.y

pub overflow_add-result-2 : goal.overflow_add-result-2
overflow_add-result-2 c = sums_fit w64 c.args.x c.args.y c.args.z part_limit height_fits c.requires.x c.requires.y c.requires.z

pub returns-clause-value : goal.returns-clause-value
returns-clause-value c = sums_are w64 c.args.x c.args.y c.args.z part_limit height_fits c.requires.x c.requires.y c.requires.z

pub returns-clause-small : goal.returns-clause-small
returns-clause-small c = sums_small w64 c.args.x c.args.y c.args.z part_limit height_fits c.requires.x c.requires.y c.requires.z
