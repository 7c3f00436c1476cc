use Rattle.std.proofs.Common.{FitsSigned, arith, pos, ◌∙◌}
use Rattle.std.proofs.lemmas.Int.{to_z-of_z}
use mir.Syntax.{w128}
use Rattle.wanted_marks.proofs.line.Line.last_width.Goals as goal

pub width-requires-clause-small : goal.width-requires-clause-small
width-requires-clause-small c = c.requires.width 4 (pos 0) (omega arith)

pub returns : goal.returns
returns c =
    let f : FitsSigned w128 c.width.result = record { sfits = c.width.type_inv } in
    to_z-of_z w128 c.width.result f ∙ c.width.ensures
