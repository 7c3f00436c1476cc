use Rattle.std.proofs.Common.{◌≡◌, [], ◌∷◌, unsigned_abs, FitsSigned, arith}
use Rattle.std.proofs.lemmas.Int.{to_z-of_z}
use mir.Syntax.{w64, w128}
use Rattle.wanted_marks.proofs.Peaking.{peak_by}
use Rattle.wanted_marks.proofs.peak.peak_of.Goals as goal

pub returns : goal.returns
returns c =
    let x = c.args.first in let y = c.args.middle in let z = c.args.last in
    let f : FitsSigned w128 c.square_of.result = record { sfits = c.square_of.type_inv } in
    let a : FitsSigned w64 x = c.ranges.first in let b : FitsSigned w64 y = c.ranges.middle in let d : FitsSigned w64 z = c.ranges.last in
    let ex : c.unsigned_abs.result ≡ unsigned_abs x = simp to_z-of_z at c.unsigned_abs.ensures.value in
    let ey : c.unsigned_abs-3.result ≡ unsigned_abs y = simp to_z-of_z at c.unsigned_abs-3.ensures.value in
    let ez : c.unsigned_abs-2.result ≡ unsigned_abs z = simp to_z-of_z at c.unsigned_abs-2.ensures.value in
    let outer = c.greater-outer.ensures in let all = c.greater.ensures in
    let f0 = outer.first in let f1 = outer.second in let g0 = all.first in let g1 = all.second in
    simp to_z-of_z
    (peak_by (x ∷ y ∷ z ∷ []) c.greater.result c.square_of.result c.square_of.ensures
    (omega (arith, ex, f0, g1)) (omega (arith, ey, g0)) (omega (arith, ez, f1, g1)))
