use Rattle.std.proofs.Common.{◌*◌, ◌^◌, arith, refl}
use Rattle.std.proofs.lemmas.Int.{to_z-of_z}
use Rattle.space.proofs.Naturals.{abs_mul}
use Rattle.space.proofs.Facts.{product_fits}
use Rattle.sweep_boxes.proofs.side.margin.Goals as goal

pub overflow_mul-result : goal.overflow_mul-result
overflow_mul-result c = let x = c.ranges.aside in let y = c.ranges.moment in simp to_z-of_z (product_fits c.args.aside c.args.moment (10 ^ 18) (3 * 10 ^ 18) c.requires.aside c.requires.moment (omega arith))

pub returns-clause-value : goal.returns-clause-value
returns-clause-value c = let x = c.ranges.aside in let y = c.ranges.moment in let f = product_fits c.args.aside c.args.moment (10 ^ 18) (3 * 10 ^ 18) c.requires.aside c.requires.moment (omega arith) in simp to_z-of_z refl

pub returns-clause-small : goal.returns-clause-small
returns-clause-small c =
    let small = abs_mul c.args.aside c.args.moment (10 ^ 18) (3 * 10 ^ 18) c.requires.aside c.requires.moment in
    let x = c.ranges.aside in let y = c.ranges.moment in let f = product_fits c.args.aside c.args.moment (10 ^ 18) (3 * 10 ^ 18) c.requires.aside c.requires.moment (omega arith) in simp to_z-of_z (omega (arith, small))
