use Rattle.std.proofs.Common.{FitsSigned}
use mir.Syntax.{w64}
use Rattle.space.proofs.Facts.{bounded_as}
use Rattle.wanted_marks.proofs.Fitting.{vector_small}
use Rattle.wanted_marks.proofs.scaled.scaled_axis.Goals as goal

pub returns-clause-small : goal.returns-clause-small
returns-clause-small c =
    let x : FitsSigned w64 c.axis_along.result = record { sfits = c.axis_along.type_inv } in
    let y : FitsSigned w64 c.axis_along-2.result = record { sfits = c.axis_along-2.type_inv } in
    let z : FitsSigned w64 c.axis_along-3.result = record { sfits = c.axis_along-3.type_inv } in
    let axis = vector_small c.args.scale c.args.axis.now c.requires.scale c.requires.axis in
    (bounded_as x c.axis_along.ensures axis.0, bounded_as y c.axis_along-2.ensures axis.1, bounded_as z c.axis_along-3.ensures axis.2)
