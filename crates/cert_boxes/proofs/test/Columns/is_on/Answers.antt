use Rattle.std.proofs.Common.{◌*◌, FitsSigned, rules}
use Rattle.std.proofs.lemmas.Int.{to_z-of_z}
use mir.Syntax.{w128}
use Rattle.space.specs.Vectors.{at}
use Rattle.bern_form.specs.Sizes.{axis_limit}
use Rattle.cert_boxes.proofs.BoxFitting.{coefficient_small}
use Rattle.cert_boxes.proofs.test.Columns.is_on.Goals as goal

pub limit_times-once-requires-clause-r : goal.limit_times-once-requires-clause-r
limit_times-once-requires-clause-r c =
    let r : FitsSigned w128 (at c.args.raised.now.c c.args.i) = search rules in
    simp to_z-of_z (coefficient_small (18 * (axis_limit * axis_limit)) c.args.raised.now.c c.args.i c.requires.i c.requires.raised)
