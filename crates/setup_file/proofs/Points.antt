-- How many points a ray has for its nodes, and how far they reach.
use Rattle.std.proofs.Common.{◌≡◌, ℕ, zero, suc, ◌+◌, ◌-◌, ◌*◌, ◌/◌, ◌%◌, ◌<◌, ◌≤◌, arith}
use Rattle.std.proofs.Math.Nat.{mul-le-mul_left, mul-le-mul_right}

by_quotient : (q r s p : ℕ) → p ≡ s * q + r → r < s → s ≤ p → 1 ≤ q
by_quotient zero r s p whole below le = absurd (omega arith)
by_quotient (suc q) r s p whole below le = omega arith

-- a ray has a point for each node at least
pub some_points : (p s : ℕ) → 1 ≤ s → s ≤ p → 1 ≤ p / s
some_points p s one le = by_quotient (p / s) (p % s) s p (omega arith) (omega arith) le

-- its last point is at most as far from its first as its nodes have room
pub last_within : (n p s : ℕ) → 1 ≤ s → n ≤ 400 → p ≤ 1000000 → (n * (p / s) - 1) * s ≤ 400000000
last_within n p s one few short =
    let whole : s * (p / s) ≤ p = omega arith in
    let less : n * (p / s) - 1 ≤ n * (p / s) = omega arith in
    let last = mul-le-mul_right s less in
    let room = mul-le-mul_left n whole in
    let most = mul-le-mul_right p few in
    omega arith
