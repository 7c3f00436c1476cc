use Rattle.std.proofs.Common.{◌*◌, ◌^◌, arith, refl}
use Rattle.std.proofs.lemmas.Int.{to_z-of_z}
use Rattle.space.proofs.Naturals.{abs_mul}
use Rattle.space.specs.Ranges.{vector_limit}
use Rattle.space.proofs.Facts.{product_fits}
use Rattle.sweep_boxes.proofs.side.height_along.Goals as goal

pub overflow_mul-result : goal.overflow_mul-result
overflow_mul-result c = let x = c.ranges.height in let y = c.ranges.a in simp to_z-of_z (product_fits c.args.height c.args.a (4 * 10 ^ 18) vector_limit c.requires.height c.requires.a (omega arith))

pub returns-clause-value : goal.returns-clause-value
returns-clause-value c = let x = c.ranges.height in let y = c.ranges.a in let f = product_fits c.args.height c.args.a (4 * 10 ^ 18) vector_limit c.requires.height c.requires.a (omega arith) in simp to_z-of_z refl

pub returns-clause-small : goal.returns-clause-small
returns-clause-small c =
    let small = abs_mul c.args.height c.args.a (4 * 10 ^ 18) vector_limit c.requires.height c.requires.a in
    let x = c.ranges.height in let y = c.ranges.a in let f = product_fits c.args.height c.args.a (4 * 10 ^ 18) vector_limit c.requires.height c.requires.a (omega arith) in simp to_z-of_z (omega (arith, small))
