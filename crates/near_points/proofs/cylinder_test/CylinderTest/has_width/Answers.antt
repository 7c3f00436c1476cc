-- The square of the moment is compared as it is.
use Rattle.std.proofs.Common.{FitsSigned, int_le, rules, ap₂}
use Rattle.std.proofs.lemmas.Int.{to_z-of_z}
use mir.Syntax.{w128}
use Rattle.near_points.proofs.cylinder_test.CylinderTest.has_width.Goals as goal

pub returns : goal.returns
returns c =
    let square = c.args.self.now.square in let fits : FitsSigned w128 square = search rules in
    ap₂ int_le (to_z-of_z w128 c.args.width c.ranges.width) (to_z-of_z w128 square fits)
