-- Terms of the solver that mirror forms.
use Rattle.std.proofs.Common.{ℕ}
use Rattle.space.proofs.Solver.{Term, add, mul}

-- the value of a form whose coefficients are c 0, c 1, ..
abbrev pub form1 : (ℕ → Term) → Term → Term → Term
form1 c x y = add (mul (c 0) y) (mul (c 1) x)

abbrev pub form2 : (ℕ → Term) → Term → Term → Term
form2 c x y = add (add (mul (c 0) (mul y y)) (mul (c 1) (mul x y))) (mul (c 2) (mul x x))

abbrev pub form4 : (ℕ → Term) → Term → Term → Term
form4 c x y =
    add (add (add (add (mul (c 0) (mul (mul y y) (mul y y))) (mul (c 1) (mul (mul x y) (mul y y)))) (mul (c 2) (mul (mul x x) (mul y y)))) (mul (c 3) (mul (mul x x) (mul x y)))) (mul (c 4) (mul (mul x x) (mul x x)))
