-- Powers of ten.
use Rattle.std.proofs.Common.{◌≡◌, ℕ, zero, suc, ◌+◌, ◌*◌, ◌^◌, ◌-◌, ◌<◌, ◌≤◌, arith, ap, ◌∙◌}
use Rattle.std.proofs.Math.Nat.{pow-suc, mul-le-mul_left}
use Rattle.std.proofs.lemmas.Nat.{pow-add}

pub ten_positive : (k : ℕ) → 0 < 10 ^ k
ten_positive zero = omega arith
ten_positive (suc k) = omega (arith, ten_positive k, pow-suc 10 k)

pub ten_grows : (n k : ℕ) → n ≤ n * 10 ^ k
ten_grows n k = let p = mul-le-mul_left n (ten_positive k) in omega arith

pub ten_next : (k : ℕ) → 10 ^ (k + 1) ≡ 10 * 10 ^ k
ten_next k = pow-add 10 k 1 ∙ omega arith

-- 10^j from 10^i
pub ten_split : (i j : ℕ) → i ≤ j → 10 ^ j ≡ 10 ^ (j - i) * 10 ^ i
ten_split i j within =
    let sum : j ≡ (j - i) + i = omega arith in
    ap (λ k. 10 ^ k) sum ∙ pow-add 10 (j - i) i

pub ten_monotone : (i j : ℕ) → i ≤ j → 10 ^ i ≤ 10 ^ j
ten_monotone i j within = let split = ten_split i j within in let grows = ten_grows (10 ^ i) (j - i) in omega arith
