-- Numbers that fit their types: their bits give them back, and are bounded as they are.
use Rattle.std.proofs.Common.{◌≡◌, to_z, of_z, ℕ, zero, suc, ◌^◌, ◌≤◌, ◌<◌, List, ℤ, pos, length, unsigned_abs, FitsSigned, arith, subst, sym, ⊎_elim, ◌∙◌, negsuc, ◌+◌, ◌*◌, ◌-◌, [], ◌∷◌, ◌+ℤ◌, ◌*ℤ◌, ◌-ℤ◌, ◌≤ℤ◌, ◌⊎◌, refl}
use Rattle.std.proofs.lemmas.Int.{fits_signed_from_abs, to_z-of_z}
use Rattle.std.proofs.lemmas.Bool.{cases_lt}
use Rattle.std.proofs.lemmas.List.{get_or_past}
use Rattle.std.proofs.Math.Pow.{pow_mono}
use mir.Syntax.{Width, w128}
use mir.Val.{hbits}
use Rattle.space.specs.Vectors.{at}
use mir.Syntax.{w128}
use borrow.Author.Differences.{abs_is}
use Rattle.space.proofs.Naturals.{abs_mul}

-- a number fits where its absolute value is bounded
pub fits128 : (z : ℤ) (n : ℕ) → unsigned_abs z ≤ n → n < 2 ^ 127 → FitsSigned w128 z
fits128 z n h l = fits_signed_from_abs w128 z (omega arith)

-- a list whose components fit is given back by their bits: an equation for `simp`
pub back : (w : Width) (l : List ℤ) → ((k : ℕ) → k < length l → FitsSigned w (at l k)) → (k : ℕ) → to_z w (of_z w (at l k)) ≡ at l k
back w l fits k =
    let some : 2 ^ 0 ≤ 2 ^ hbits w = pow_mono {i = 0} {j = hbits w} (omega arith) in
    ⊎_elim (λ inside. to_z-of_z w (at l k) (fits k inside))
    (λ past. subst (λ z. to_z w (of_z w z) ≡ z) (sym (get_or_past l k (pos 0) past)) (to_z-of_z w (pos 0) (fits_signed_from_abs w (pos 0) (omega arith)))) (cases_lt k (length l))

fits_among : (w : Width) (l : List ℤ) (i : ℕ) → length l ≤ 5 → i < length l → FitsSigned w (at l 0) → FitsSigned w (at l 1) → FitsSigned w (at l 2) → FitsSigned w (at l 3) → FitsSigned w (at l 4)
    → FitsSigned w (at l i)
fits_among w l zero few inside a b c d e = a
fits_among w l (suc zero) few inside a b c d e = b
fits_among w l (suc (suc zero)) few inside a b c d e = c
fits_among w l (suc (suc (suc zero))) few inside a b c d e = d
fits_among w l (suc (suc (suc (suc zero)))) few inside a b c d e = e
fits_among w l (suc (suc (suc (suc (suc k))))) few inside a b c d e = absurd (omega arith)

-- the same for a list of five, each of which is known to fit
pub back5 : (w : Width) (l : List ℤ) → length l ≤ 5 → FitsSigned w (at l 0) → FitsSigned w (at l 1) → FitsSigned w (at l 2) → FitsSigned w (at l 3) → FitsSigned w (at l 4)
    → (k : ℕ) → to_z w (of_z w (at l k)) ≡ at l k
back5 w l few a b c d e = back w l (λ i inside. fits_among w l i few inside a b c d e)

-- the bits of an answer are bounded as what the answer equals
pub bounded_as : {w : Width} {r z : ℤ} {n : ℕ} → FitsSigned w r → r ≡ z → unsigned_abs z ≤ n → unsigned_abs (to_z w (of_z w r)) ≤ n
bounded_as {w} {r} {z} {n} fits same small = subst (λ y. unsigned_abs y ≤ n) (sym (to_z-of_z w r fits ∙ same)) small

pub product_fits : (a b : ℤ) (m n : ℕ) → unsigned_abs a ≤ m → unsigned_abs b ≤ n → m * n < 2 ^ 127 → FitsSigned w128 (a *ℤ b)
product_fits a b m n h k l = fits128 (a *ℤ b) (m * n) (abs_mul a b m n h k) l
