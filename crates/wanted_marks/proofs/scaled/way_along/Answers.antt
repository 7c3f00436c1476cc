use Rattle.std.proofs.Common.{◌≡◌, pos, ◌*ℤ◌, FitsSigned, arith, rules}
use Rattle.std.proofs.lemmas.Int.{ints, to_z-of_z}
use mir.Syntax.{w32}
use Rattle.space.specs.Vectors.{at}
use Rattle.wanted_marks.proofs.scaled.way_along.Goals as goal

pub returns : goal.returns
returns c =
    let from : FitsSigned w32 (at c.args.from.now c.args.i) = search rules in
    let to : FitsSigned w32 (at c.args.to.now c.args.i) = search rules in
    let one : c.weighted.result ≡ pos c.args.scale *ℤ at c.args.to.now c.args.i = simp to_z-of_z at c.weighted.ensures.value in
    let two : c.weighted-2.result ≡ pos c.args.scale *ℤ at c.args.from.now c.args.i = simp to_z-of_z at c.weighted-2.ensures.value in
    omega (arith, ints)
