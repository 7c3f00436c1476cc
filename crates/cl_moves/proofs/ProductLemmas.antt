-- Products of two components of an axis, in 64 bits.
use Rattle.std.proofs.Common.{◌≡◌, ◌∙◌, ℤ, ◌*ℤ◌, ◌*◌, ◌≤◌, unsigned_abs, FitsSigned, arith, ap, subst, sym, eqb, to_z, of_z, w32, w64, eq-eqb}
use Rattle.std.proofs.lemmas.Bool.{eqb-true}
use Rattle.std.proofs.lemmas.Bool.Decides.{Decides-int_eq, same_from_decides}
use Rattle.std.proofs.lemmas.Int.{fits_signed_from_abs, fits_signed_mul, to_z-of_z, unsigned_abs-mul}
use Rattle.std.proofs.Math.Nat.{mul-le-mul}
use Rattle.std.specs.Ordering.{int_eq}
use Rattle.space.specs.Ranges.{axis_unit}
use Rattle.cl_moves.proofs.BackLemmas.{back}

pub fits_wider : (z : ℤ) → unsigned_abs z ≤ axis_unit → FitsSigned w64 z
fits_wider z small = fits_signed_from_abs w64 z (omega arith)

pub widened : (z : ℤ) → FitsSigned w32 z → unsigned_abs z ≤ axis_unit → to_z w64 (of_z w64 (to_z w32 (of_z w32 z))) ≡ z
widened z fits small = ap (λ x. to_z w64 (of_z w64 x)) (to_z-of_z w32 z fits) ∙ to_z-of_z w64 z (fits_wider z small)

pub fits_product : (a b : ℤ) → unsigned_abs a ≤ axis_unit → unsigned_abs b ≤ axis_unit → FitsSigned w64 (a *ℤ b)
fits_product a b f s = fits_signed_mul w64 a b axis_unit axis_unit f s (omega arith)

pub small_product : (a b : ℤ) → unsigned_abs a ≤ axis_unit → unsigned_abs b ≤ axis_unit → unsigned_abs (a *ℤ b) ≤ axis_unit * axis_unit
small_product a b f s = subst (λ n. n ≤ axis_unit * axis_unit) (sym (unsigned_abs-mul a b)) (mul-le-mul f s)

pub same_product : (x y a b : ℤ) → x ≡ a → y ≡ b → x *ℤ y ≡ a *ℤ b
same_product x y a b f s = ap (λ z. z *ℤ y) f ∙ ap (λ z. a *ℤ z) s

-- numbers of 64 bits are equal where their bits are
pub same_bits : (x y : ℤ) → FitsSigned w64 x → FitsSigned w64 y → eqb (of_z w64 x) (of_z w64 y) ≡ int_eq x y
same_bits x y f g =
    same_from_decides (eqb (of_z w64 x) (of_z w64 y)) (int_eq x y)
    (λ same. sym (to_z-of_z w64 x f) ∙ ap (to_z w64) (eqb-true (of_z w64 x) (of_z w64 y) same) ∙ to_z-of_z w64 y g, λ is. eq-eqb (of_z w64 x) (of_z w64 y) (ap (of_z w64) is))
    (Decides-int_eq x y)

-- what a product gave is the product of what it was given
pub product_back : (p a b : ℤ) → unsigned_abs a ≤ axis_unit → unsigned_abs b ≤ axis_unit → p ≡ to_z w32 (of_z w32 a) *ℤ to_z w32 (of_z w32 b) → p ≡ a *ℤ b
product_back p a b f s is =
    is ∙ same_product (to_z w32 (of_z w32 a)) (to_z w32 (of_z w32 b)) a b (back a (omega (arith, f))) (back b (omega (arith, s)))
