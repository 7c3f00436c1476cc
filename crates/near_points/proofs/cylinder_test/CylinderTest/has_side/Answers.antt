-- What is along the side is compared with both ends.
use Rattle.std.proofs.Common.{◌&&◌, ◌-ℤ◌, FitsSigned, int_le, int_lt, pos, rules, ap, ap₂, sym, ◌∙◌}
use Rattle.std.proofs.lemmas.Int.{to_z-of_z}
use mir.Syntax.{w64}
use Rattle.space.proofs.Tests.{decides_le, decides_lt}
use Rattle.near_points.proofs.Bits.{opposite_reckoned}
use Rattle.near_points.proofs.Told.{above_false, first_false}
use Rattle.near_points.proofs.Trimming.{not_less}
use Rattle.near_points.proofs.cylinder_test.CylinderTest.has_side.Goals as goal

pub returns-then-side-self : goal.returns-then-side-self
returns-then-side-self c =
    let side = c.args.side in let across = c.args.self.now.across in let fits : FitsSigned w64 across = search rules in
    let told = ap₂ int_lt (to_z-of_z w64 side c.ranges.side) (opposite_reckoned across fits c.args.self.now.across_some).value in
    let left = above_false (pos 0 -ℤ across) side ((decides_lt side (pos 0 -ℤ across)).0 (sym told ∙ c.if-side-self.true)) in
    sym (first_false (int_le (pos 0 -ℤ across) side) (int_le side across) left)

pub returns : goal.returns
returns c =
    let side = c.args.side in let across = c.args.self.now.across in let fits : FitsSigned w64 across = search rules in
    let told = ap₂ int_lt (to_z-of_z w64 side c.ranges.side) (opposite_reckoned across fits c.args.self.now.across_some).value in
    let left = (decides_le (pos 0 -ℤ across) side).1 (not_less side (pos 0 -ℤ across) (sym told ∙ c.if-side-self.false)) in
    ap₂ int_le (to_z-of_z w64 side c.ranges.side) (to_z-of_z w64 across fits) ∙ sym (ap (λ z. z && int_le side across) left)
