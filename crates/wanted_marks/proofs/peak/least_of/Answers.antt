use Rattle.std.proofs.Common.{FitsSigned, rules}
use Rattle.std.proofs.lemmas.Int.{to_z-of_z}
use mir.Syntax.{w64, w128}
use Rattle.space.specs.Vectors.{at}
use Rattle.wanted_marks.proofs.Peaking.{least_by}
use Rattle.wanted_marks.proofs.peak.least_of.Goals as goal

pub returns : goal.returns
returns c =
    let n = c.args.n.now.c in
    let f : FitsSigned w64 c.lesser-2.result = record { sfits = c.lesser-2.type_inv } in
    let g : FitsSigned w64 c.lesser.result = record { sfits = c.lesser.type_inv } in
    let f0 : FitsSigned w64 c.twice.result = record { sfits = c.twice.type_inv } in
    let f1 : FitsSigned w64 c.four_times.result = record { sfits = c.four_times.type_inv } in
    let f2 : FitsSigned w64 c.four_times-2.result = record { sfits = c.four_times-2.type_inv } in
    let first = c.requires.first in let middle = c.requires.middle in let last = c.requires.last in
    let a : FitsSigned w128 (at n 0) = search rules in let b : FitsSigned w128 (at n 1) = search rules in let d : FitsSigned w128 (at n 2) = search rules in
    simp to_z-of_z
    (least_by n c.twice.result c.four_times.result c.four_times-2.result c.lesser.result c.lesser-2.result
    (simp to_z-of_z at c.twice.ensures) (simp to_z-of_z at c.four_times.ensures) (simp to_z-of_z at c.four_times-2.ensures)
    (simp to_z-of_z at c.lesser.ensures.first) (simp to_z-of_z at c.lesser.ensures.second) (simp to_z-of_z at c.lesser-2.ensures.first) (simp to_z-of_z at c.lesser-2.ensures.second))
