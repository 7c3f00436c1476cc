-- A number comes back from its 32 bits.
use Rattle.std.proofs.Common.{◌≡◌, ℕ, ◌≤◌, ◌∙◌, ℤ, ◌+ℤ◌, unsigned_abs, FitsSigned, ap, arith, of_z, subst, sym, to_z, w32}
use Rattle.std.proofs.lemmas.Int.{fits_signed_from_abs, ints, to_z-of_z}
use Rattle.space.specs.Ranges.{metre}
use Rattle.cl_records.specs.Kinds.{longest_distance}

pub back : (z : ℤ) → unsigned_abs z ≤ longest_distance → to_z w32 (of_z w32 z) ≡ z
back z small = to_z-of_z w32 z (fits_signed_from_abs w32 z (omega arith))

pub within_back : (limit : ℕ) (z : ℤ) → limit ≤ longest_distance → unsigned_abs z ≤ limit → unsigned_abs (to_z w32 (of_z w32 z)) ≤ limit
within_back limit z few small = subst (λ x. unsigned_abs x ≤ limit) (sym (back z (omega (arith, few, small)))) small

-- and so does the sum of a coordinate and a distance
sum_fits : (x y : ℤ) → unsigned_abs x ≤ metre → unsigned_abs y ≤ longest_distance → FitsSigned w32 (x +ℤ y)
sum_fits x y near far = omega (arith, ints)

pub sum_back : (p x y : ℤ) → unsigned_abs x ≤ metre → unsigned_abs y ≤ longest_distance → p ≡ to_z w32 (of_z w32 x) +ℤ to_z w32 (of_z w32 y)
    → to_z w32 (of_z w32 p) ≡ x +ℤ y
sum_back p x y near far is =
    let same = is ∙ ap (λ z. z +ℤ to_z w32 (of_z w32 y)) (back x (omega (arith, near))) ∙ ap (λ z. x +ℤ z) (back y far) in
    ap (λ z. to_z w32 (of_z w32 z)) same ∙ to_z-of_z w32 (x +ℤ y) (sum_fits x y near far)
