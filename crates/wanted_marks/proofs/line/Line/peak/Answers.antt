use Rattle.std.proofs.Common.{FitsSigned}
use Rattle.std.proofs.lemmas.Int.{to_z-of_z}
use mir.Syntax.{w64, w128}
use Rattle.wanted_marks.proofs.Peaking.{peak_as}
use Rattle.wanted_marks.proofs.line.Line.peak.Goals as goal

pub returns : goal.returns
returns c =
    let f : FitsSigned w128 c.peak_of.result = record { sfits = c.peak_of.type_inv } in
    let f0 : FitsSigned w64 c.first_height.result = record { sfits = c.first_height.type_inv } in
    let f1 : FitsSigned w64 c.middle_height.result = record { sfits = c.middle_height.type_inv } in
    let d : FitsSigned w64 c.args.last = c.ranges.last in
    simp to_z-of_z (peak_as c.peak_of.result _ _ _ _ _ _ c.first_height.ensures c.middle_height.ensures c.requires.last (simp to_z-of_z at c.peak_of.ensures))
