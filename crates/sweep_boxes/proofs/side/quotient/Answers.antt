use Rattle.std.proofs.Common.{arith}
use Rattle.std.proofs.lemmas.Int.{ints, quot_fits, to_z-of_z}
use mir.Syntax.{w128}
use Rattle.sweep_boxes.proofs.Numbers.{quotient_first, quotient_last}
use Rattle.sweep_boxes.proofs.side.quotient.Goals as goal

pub returns-clause-last : goal.returns-clause-last
returns-clause-last c p h =
    let x = c.ranges.dividend in let y = c.ranges.divisor in let f = quot_fits w128 c.args.dividend c.args.divisor c.ranges.dividend (omega (arith, ints, c.requires.divisor)) in
    simp to_z-of_z (quotient_last c.args.dividend c.args.divisor p c.requires.divisor h)

pub returns-clause-first : goal.returns-clause-first
returns-clause-first c p h =
    let x = c.ranges.dividend in let y = c.ranges.divisor in let f = quot_fits w128 c.args.dividend c.args.divisor c.ranges.dividend (omega (arith, ints, c.requires.divisor)) in
    simp to_z-of_z (quotient_first c.args.dividend c.args.divisor p c.requires.divisor h)
