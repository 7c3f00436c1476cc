use Rattle.std.proofs.Common.{◌*◌}
use mir.Syntax.{w128}
use Rattle.moment_forms.specs.Sizes.{moments_limit}
use Rattle.moment_forms.proofs.Fits.{all_fit, both_fit, sum_fits, sums_are, sums_fit, sums_small}
use Rattle.moment_forms.proofs.moments.three.Goals as goal

pub overflow_add-result : goal.overflow_add-result
overflow_add-result c = sum_fits w128 c.args.x c.args.y (3 * (moments_limit * moments_limit)) both_fit c.requires.x c.requires.y

pub overflow_add-result-2 : goal.overflow_add-result-2
overflow_add-result-2 c = sums_fit w128 c.args.x c.args.y c.args.z (3 * (moments_limit * moments_limit)) all_fit c.requires.x c.requires.y c.requires.z

pub returns-clause-value : goal.returns-clause-value
returns-clause-value c = sums_are w128 c.args.x c.args.y c.args.z (3 * (moments_limit * moments_limit)) all_fit c.requires.x c.requires.y c.requires.z

pub returns-clause-small : goal.returns-clause-small
returns-clause-small c = sums_small w128 c.args.x c.args.y c.args.z (3 * (moments_limit * moments_limit)) all_fit c.requires.x c.requires.y c.requires.z
