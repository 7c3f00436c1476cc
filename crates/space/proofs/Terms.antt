-- Terms of the solver that mirror vectors.
use Rattle.std.proofs.Common.{ℕ, ◌+◌}
use Rattle.space.proofs.Solver.{Term, var, add, mul, neg}

abbrev pub sub : Term → Term → Term
sub t u = add t (neg u)

abbrev pub square : Term → Term
square t = mul t t

-- the scalar product of the vectors with the components p 0, p 1, p 2 and a 0, a 1, a 2
abbrev pub dots : (ℕ → Term) → (ℕ → Term) → Term
dots p a = add (add (mul (p 0) (a 0)) (mul (p 1) (a 1))) (mul (p 2) (a 2))

-- the variables from n on
abbrev pub from : ℕ → ℕ → Term
from n k = var (n + k)
