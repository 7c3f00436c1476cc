use Rattle.std.proofs.Common.{int_lt, FitsSigned, ap}
use Rattle.std.proofs.lemmas.Int.{to_z-of_z}
use mir.Syntax.{w128}
use Rattle.wanted_marks.proofs.line.Line.is_above.Goals as goal

pub returns : goal.returns
returns c =
    let f : FitsSigned w128 c.width.result = record { sfits = c.width.type_inv } in
    let limit = c.ranges.limit in
    simp to_z-of_z (ap (λ z. int_lt c.args.limit z) c.width.ensures)
