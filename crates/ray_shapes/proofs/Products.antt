-- Products on a ray: a coefficient times a longer length, how large a product is, and how 64 bits hold it.
use Rattle.std.proofs.Common.{◌≡◌, ℕ, ◌*◌, ◌≤◌, ℤ, pos, negsuc, neg_ℤ, ◌+ℤ◌, ◌*ℤ◌, ◌≤ℤ◌, unsigned_abs, FitsSigned, w32, w64, to_z, of_z, arith, ap, ap₂, sym, ◌∙◌}
use Rattle.std.proofs.lemmas.Int.{ints, to_z-of_z}
use Rattle.space.proofs.Naturals.{abs_mul}
use Rattle.space.proofs.Ring.{mul_assoc_ℤ, mul_add_ℤ, mul_comm_ℤ}

-- a coefficient times a length that is l steps longer
pub times_longer : (a x step : ℤ) (l : ℕ) → (a *ℤ (x +ℤ (pos l *ℤ step))) ≡ (a *ℤ x) +ℤ ((a *ℤ step) *ℤ pos l)
times_longer a x step l =
    mul_add_ℤ a x (pos l *ℤ step) ∙ ap (λ (z : ℤ). (a *ℤ x) +ℤ z) (ap (λ (z : ℤ). a *ℤ z) (mul_comm_ℤ (pos l) step) ∙ sym (mul_assoc_ℤ a step (pos l)))

range_of_abs : (z : ℤ) (n : ℕ) → unsigned_abs z ≤ n → (neg_ℤ (pos n) ≤ℤ z) × (z ≤ℤ pos n)
range_of_abs (pos m) n h = (omega (arith, ints), omega (arith, ints))
range_of_abs (negsuc m) n h = (omega (arith, ints), omega (arith, ints))

abs_of_range : (z : ℤ) (n : ℕ) → neg_ℤ (pos n) ≤ℤ z → z ≤ℤ pos n → unsigned_abs z ≤ n
abs_of_range (pos m) n low high = omega (arith, ints)
abs_of_range (negsuc m) n low high = omega (arith, ints)

-- the product of numbers between opposite bounds
pub product_within : (a x : ℤ) (m n : ℕ) → (neg_ℤ (pos m) ≤ℤ a) × (a ≤ℤ pos m) → (neg_ℤ (pos n) ≤ℤ x) × (x ≤ℤ pos n) → (neg_ℤ (pos (m * n)) ≤ℤ (a *ℤ x)) × ((a *ℤ x) ≤ℤ pos (m * n))
product_within a x m n p q =
    range_of_abs (a *ℤ x) (m * n) (abs_mul a x m n (abs_of_range a m p.0 p.1) (abs_of_range x n q.0 q.1))

-- numbers of 32 bits in 64: what is read back, and their product
wide_fits : (z : ℤ) → FitsSigned w32 z → FitsSigned w64 z
wide_fits z fits = omega (arith, ints)

widened : (r x : ℤ) → FitsSigned w32 x → r ≡ to_z w32 (of_z w32 x) → to_z w64 (of_z w64 r) ≡ x
widened r x fits is = ap (λ z. to_z w64 (of_z w64 z)) (is ∙ to_z-of_z w32 x fits) ∙ to_z-of_z w64 x (wide_fits x fits)

pub wide_product : (r s x y : ℤ) → FitsSigned w32 x → FitsSigned w32 y → r ≡ to_z w32 (of_z w32 x) → s ≡ to_z w32 (of_z w32 y)
    → (to_z w64 (of_z w64 r) *ℤ to_z w64 (of_z w64 s)) ≡ x *ℤ y
wide_product r s x y f g x_is y_is = ap₂ (λ a b. a *ℤ b) (widened r x f x_is) (widened s y g y_is)

pub product_fits : (x y : ℤ) → FitsSigned w32 x → FitsSigned w32 y → FitsSigned w64 (x *ℤ y)
product_fits x y f g =
    let bounds = product_within x y 2147483648 2147483648 (omega (arith, ints), omega (arith, ints)) (omega (arith, ints), omega (arith, ints)) in
    let low = bounds.0 in let high = bounds.1 in omega (arith, ints)
