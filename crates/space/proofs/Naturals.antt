-- Whole numbers that are not below 0, and absolute values.
use Rattle.std.proofs.Common.{◌≡◌, ℕ, ◌+◌, ◌*◌, ◌≤◌, List, ℤ, pos, negsuc, ◌+ℤ◌, ◌*ℤ◌, ◌-ℤ◌, ◌≤ℤ◌, [], ◌∷◌, unsigned_abs, arith, refl, sym, subst}
use Rattle.std.proofs.lemmas.Int.{ints, unsigned_abs-mul}
use Rattle.std.proofs.Math.Nat.{mul-le-mul}
use borrow.Author.Differences.{abs_is}
use Rattle.space.specs.Vectors.{at, dot, spread}
use Rattle.space.proofs.Solver.{ring}
use Rattle.space.proofs.Terms.{sub, square, dots, from}
use Rattle.space.proofs.Solver.{add, mul}

pub abs_add : (a b : ℤ) → unsigned_abs (a +ℤ b) ≤ unsigned_abs a + unsigned_abs b
abs_add a b = omega (arith, ints, abs_is a, abs_is b, abs_is (a +ℤ b))

pub abs_sub : (a b : ℤ) → unsigned_abs (a -ℤ b) ≤ unsigned_abs a + unsigned_abs b
abs_sub a b = omega (arith, ints, abs_is a, abs_is b, abs_is (a -ℤ b))

pub abs_mul : (a b : ℤ) (m n : ℕ) → unsigned_abs a ≤ m → unsigned_abs b ≤ n → unsigned_abs (a *ℤ b) ≤ m * n
abs_mul a b m n h k = subst (λ (z : ℕ). z ≤ m * n) (sym (unsigned_abs-mul a b)) (mul-le-mul h k)

pub square_not_negative : (z : ℤ) → pos 0 ≤ℤ (z *ℤ z)
square_not_negative (pos n) = omega (arith, ints)
square_not_negative (negsuc n) = omega (arith, ints)

-- a number that is not below 0 is a natural one
pub natural : (z : ℤ) → pos 0 ≤ℤ z → (n : ℕ) × (z ≡ pos n)
natural (pos n) h = (n, refl)
natural (negsuc n) h = absurd (omega (arith, ints))

three_squares : (a b c : ℤ) → pos 0 ≤ℤ ((a *ℤ a +ℤ b *ℤ b) +ℤ c *ℤ c)
three_squares a b c = omega (arith, ints, square_not_negative a, square_not_negative b, square_not_negative c)

pub dot_natural : (a : List ℤ) → pos 0 ≤ℤ dot a a
dot_natural a = three_squares (at a 0) (at a 1) (at a 2)

-- Lagrange's identity: |p|^2 |a|^2 - (p.a)^2 is the squared length of the cross product
pub lagrange : (p a : List ℤ)
    → spread p a
    ≡ ((at p 0 *ℤ at a 1 -ℤ at p 1 *ℤ at a 0) *ℤ (at p 0 *ℤ at a 1 -ℤ at p 1 *ℤ at a 0)
    +ℤ (at p 0 *ℤ at a 2 -ℤ at p 2 *ℤ at a 0) *ℤ (at p 0 *ℤ at a 2 -ℤ at p 2 *ℤ at a 0))
    +ℤ (at p 1 *ℤ at a 2 -ℤ at p 2 *ℤ at a 1) *ℤ (at p 1 *ℤ at a 2 -ℤ at p 2 *ℤ at a 1)
lagrange p a =
    let P = from 0 in let A = from 3 in
    ring (at p 0 ∷ at p 1 ∷ at p 2 ∷ at a 0 ∷ at a 1 ∷ at a 2 ∷ [])
    (sub (mul (dots P P) (dots A A)) (square (dots P A)))
    (add (add (square (sub (mul (P 0) (A 1)) (mul (P 1) (A 0)))) (square (sub (mul (P 0) (A 2)) (mul (P 2) (A 0))))) (square (sub (mul (P 1) (A 2)) (mul (P 2) (A 1))))) refl

pub spread_natural : (p a : List ℤ) → pos 0 ≤ℤ spread p a
spread_natural p a =
    subst (λ z. pos 0 ≤ℤ z) (sym (lagrange p a)) (three_squares (at p 0 *ℤ at a 1 -ℤ at p 1 *ℤ at a 0) (at p 0 *ℤ at a 2 -ℤ at p 2 *ℤ at a 0) (at p 1 *ℤ at a 2 -ℤ at p 2 *ℤ at a 1))
