use Rattle.std.proofs.Common.{◌-◌, ◌*◌, ◌≤◌, ℕ, subst, arith}
use Rattle.cutter_slabs.proofs.Inner.{square_within}
use Rattle.std.proofs.Math.Nat.{mul-le-mul_right}
use Rattle.cutter_slabs.proofs.profile.corner_square.Goals as goal

pub returns-clause-small : goal.returns-clause-small
returns-clause-small c =
    let z = c.from-z.result in let r = c.from.result in
    let within : z ≤ r = omega arith in
    let more = mul-le-mul_right z within in
    let small = square_within r z (2 * r * z - z * z) within (omega arith) in
    subst (λ (k : ℕ). 2 * r * z - z * z ≤ k * k) c.from.ensures small
