-- The product of two numbers of 64 bits, in 128 bits.
use Rattle.std.proofs.Common.{◌≡◌, ◌≤◌, ◌^◌, ℤ, pos, negsuc, ◌*ℤ◌, FitsSigned, to_z, of_z, unsigned_abs, arith, subst, sym, ◌∙◌}
use Rattle.std.proofs.lemmas.Int.{fits_signed_mul, to_z-of_z}
use mir.Syntax.{w64, w128}
use Rattle.width_bisect.proofs.Kept.{IsKept, product}
use Rattle.width_bisect.proofs.Narrowed.{wider}

within : (x : ℤ) → FitsSigned w64 x → unsigned_abs x ≤ 2 ^ 63
within (pos n) f = let s = f.sfits in omega (arith, s)
within (negsuc n) f = let s = f.sfits in omega (arith, s)

widened : (x a : ℤ) → x ≡ to_z w64 (of_z w64 a) → FitsSigned w64 a → IsKept w128 x a
widened x a is f =
    let same = is ∙ to_z-of_z w64 a f in
    subst (λ z. IsKept w128 z a) (sym same) (record { fits = wider a f; value = to_z-of_z w128 a (wider a f) })

pub long_product : (x y a b : ℤ) → x ≡ to_z w64 (of_z w64 a) → y ≡ to_z w64 (of_z w64 b) → FitsSigned w64 a → FitsSigned w64 b
    → IsKept w128 (to_z w128 (of_z w128 x) *ℤ to_z w128 (of_z w128 y)) (a *ℤ b)
long_product x y a b ex ey fa fb =
    product w128 x y a b (widened x a ex fa) (widened y b ey fb) (fits_signed_mul w128 a b (2 ^ 63) (2 ^ 63) (within a fa) (within b fb) (omega arith))
