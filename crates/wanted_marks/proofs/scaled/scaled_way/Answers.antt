use Rattle.std.proofs.Common.{FitsSigned}
use mir.Syntax.{w64}
use Rattle.space.proofs.Facts.{bounded_as}
use Rattle.wanted_marks.proofs.Fitting.{way_small}
use Rattle.wanted_marks.proofs.scaled.scaled_way.Goals as goal

pub returns-clause-small : goal.returns-clause-small
returns-clause-small c =
    let x : FitsSigned w64 c.way_along.result = record { sfits = c.way_along.type_inv } in
    let y : FitsSigned w64 c.way_along-2.result = record { sfits = c.way_along-2.type_inv } in
    let z : FitsSigned w64 c.way_along-3.result = record { sfits = c.way_along-3.type_inv } in
    let way = way_small c.args.scale c.args.from.now c.args.to.now c.requires.scale c.requires.from c.requires.to in
    (bounded_as x c.way_along.ensures way.0, bounded_as y c.way_along-2.ensures way.1, bounded_as z c.way_along-3.ensures way.2)
