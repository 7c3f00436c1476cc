use Rattle.std.proofs.Common.{◌*ℤ◌, ◌+ℤ◌, ◌*◌, FitsSigned, arith, refl}
use Rattle.std.proofs.lemmas.Int.{ints, to_z-of_z}
use mir.Syntax.{w128}
use borrow.Author.Differences.{abs_is}
use Rattle.space.proofs.Naturals.{abs_mul}
use Rattle.sweep_boxes.specs.Limits.{place_limit}
use Rattle.space.specs.Ranges.{vector_limit}
use Rattle.space.proofs.Facts.{product_fits}
use Rattle.sweep_boxes.proofs.side.from_tip.Goals as goal

pub overflow_mul-result : goal.overflow_mul-result
overflow_mul-result c = let x = c.ranges.tip in let y = c.ranges.square in simp to_z-of_z (product_fits c.args.tip c.args.square (128 * place_limit) (3 * (vector_limit * vector_limit)) c.requires.tip c.requires.square (omega arith))

pub overflow_add-result : goal.overflow_add-result
overflow_add-result c =
    let x = c.ranges.tip in let y = c.ranges.square in let b = c.ranges.bound in
    let f = product_fits c.args.tip c.args.square (128 * place_limit) (3 * (vector_limit * vector_limit)) c.requires.tip c.requires.square (omega arith) in
    let small = abs_mul c.args.tip c.args.square (128 * place_limit) (3 * (vector_limit * vector_limit)) c.requires.tip c.requires.square in
    simp to_z-of_z (omega (arith, ints, small, c.requires.bound, abs_is c.args.bound, abs_is (c.args.tip *ℤ c.args.square)))

pub returns : goal.returns
returns c =
    let x = c.ranges.tip in let y = c.ranges.square in let b = c.ranges.bound in
    let f = product_fits c.args.tip c.args.square (128 * place_limit) (3 * (vector_limit * vector_limit)) c.requires.tip c.requires.square (omega arith) in
    let small = abs_mul c.args.tip c.args.square (128 * place_limit) (3 * (vector_limit * vector_limit)) c.requires.tip c.requires.square in
    let g : FitsSigned w128 (c.args.bound +ℤ c.args.tip *ℤ c.args.square) = omega (arith, ints, small, c.requires.bound, abs_is c.args.bound, abs_is (c.args.tip *ℤ c.args.square)) in
    simp to_z-of_z refl
