-- What holds of each of five, as of the coefficients of a form of degree 4.
use Rattle.std.proofs.Common.{ℕ, zero, suc, ◌<◌, arith}

pub each_of_five : (P : ℕ → Type 0) → P 0 → P 1 → P 2 → P 3 → P 4 → (k : ℕ) → k < 5 → P k
each_of_five P a b c d e zero l = a
each_of_five P a b c d e (suc zero) l = b
each_of_five P a b c d e (suc (suc zero)) l = c
each_of_five P a b c d e (suc (suc (suc zero))) l = d
each_of_five P a b c d e (suc (suc (suc (suc zero)))) l = e
each_of_five P a b c d e (suc (suc (suc (suc (suc k))))) l = absurd (omega arith)
