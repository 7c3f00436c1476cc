use Rattle.std.proofs.Common.{◌≡◌, pos, ◌*ℤ◌, FitsSigned, arith, rules}
use Rattle.std.proofs.lemmas.Int.{ints, to_z-of_z}
use mir.Syntax.{w32, w128}
use borrow.Author.Differences.{abs_is}
use Rattle.space.specs.Vectors.{at}
use Rattle.sweep_boxes.proofs.offsets.offset_along.Goals as goal

pub overflow_sub-result : goal.overflow_sub-result
overflow_sub-result c =
    let tip : FitsSigned w128 (at c.args.tip.now c.args.i) = search rules in
    omega (arith, ints, c.weighted.ensures.small, c.requires.tip, abs_is c.weighted.result, abs_is (at c.args.tip.now c.args.i))

pub returns-clause-value : goal.returns-clause-value
returns-clause-value c =
    let place : FitsSigned w32 (at c.args.place.now c.args.i) = search rules in
    let tip : FitsSigned w128 (at c.args.tip.now c.args.i) = search rules in
    let one : c.weighted.result ≡ pos c.args.scale *ℤ at c.args.place.now c.args.i = simp to_z-of_z at c.weighted.ensures.value in
    omega (arith, ints, one, c.weighted.ensures.small, c.requires.tip, abs_is c.weighted.result, abs_is (at c.args.tip.now c.args.i))

pub returns-clause-small : goal.returns-clause-small
returns-clause-small c =
    let tip : FitsSigned w128 (at c.args.tip.now c.args.i) = search rules in
    omega (arith, ints, c.weighted.ensures.small, c.requires.tip, abs_is c.weighted.result, abs_is (at c.args.tip.now c.args.i))
