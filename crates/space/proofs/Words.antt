-- What holds of a number holds of what its word reads as.
use Rattle.std.proofs.Common.{◌≡◌, false, ◌≤◌, ◌<◌, ◌^◌, ◌+◌, ◌*◌, ◌≤ℤ◌, ◌+ℤ◌, [], ◌∷◌, List, ℕ, ℤ, pos, to_z, of_z, unsigned_abs, FitsSigned, arith, refl, subst, sym, ◌∙◌}
use Rattle.std.proofs.lemmas.Int.{ints, to_z-of_z}
use borrow.Author.Differences.{abs_is}
use borrow.Author.Rules.{sfits_of}
use lib.Signed.{mag}
use mir.Syntax.{w32, w64, w128}

pub fits_of : (z : ℤ) → mag z < 2 ^ 127 → FitsSigned w128 z
fits_of z = sfits_of {w = w128} {z = z}

pub kept_in : (P : ℤ → Type 0) (z : ℤ) → FitsSigned w128 z → P z → P (to_z w128 (of_z w128 z))
kept_in P z fits holds = subst P (sym (to_z-of_z w128 z fits)) holds

pub kept : (P : ℤ → Type 0) (z : ℤ) → mag z < 2 ^ 127 → P z → P (to_z w128 (of_z w128 z))
kept P z fits holds = kept_in P z (fits_of z fits) holds

pub small_in : (z : ℤ) (n : ℕ) → FitsSigned w128 z → unsigned_abs z ≤ n → unsigned_abs (to_z w128 (of_z w128 z)) ≤ n
small_in z n = kept_in (λ (y : ℤ). unsigned_abs y ≤ n) z

pub kept_small : (z : ℤ) (n : ℕ) → mag z < 2 ^ 127 → unsigned_abs z ≤ n → unsigned_abs (to_z w128 (of_z w128 z)) ≤ n
kept_small z n = kept (λ (y : ℤ). unsigned_abs y ≤ n) z

pub kept_some : (z : ℤ) → mag z < 2 ^ 127 → pos 0 ≤ℤ z → pos 0 ≤ℤ to_z w128 (of_z w128 z)
kept_some = kept (λ (y : ℤ). pos 0 ≤ℤ y)

pub kept_at_most : (z n : ℤ) → mag z < 2 ^ 127 → z ≤ℤ n → to_z w128 (of_z w128 z) ≤ℤ n
kept_at_most z n = kept (λ (y : ℤ). y ≤ℤ n) z

pub read_out : (P : ℤ → Type 0) (z : ℤ) → mag z < 2 ^ 127 → P (to_z w128 (of_z w128 z)) → P z
read_out P z fits holds = subst P (to_z-of_z w128 z (fits_of z fits)) holds

pub read_as : (z y : ℤ) → mag z < 2 ^ 127 → z ≡ y → to_z w128 (of_z w128 z) ≡ y
read_as z y fits is = to_z-of_z w128 z (fits_of z fits) ∙ is

-- words of 32 and of 64 bits
pub fits32 : (z : ℤ) → mag z < 2 ^ 31 → FitsSigned w32 z
fits32 z = sfits_of {w = w32} {z = z}

pub small32_in : (z : ℤ) (n : ℕ) → FitsSigned w32 z → unsigned_abs z ≤ n → unsigned_abs (to_z w32 (of_z w32 z)) ≤ n
small32_in z n fits small = subst (λ (y : ℤ). unsigned_abs y ≤ n) (sym (to_z-of_z w32 z fits)) small

-- sums of three words
pub two_fit : (x y : ℤ) (n : ℕ) → unsigned_abs x ≤ n → unsigned_abs y ≤ n → 3 * n < 2 ^ 127 → FitsSigned w128 (x +ℤ y)
two_fit x y n h k few = omega (arith, ints, h, k, few, abs_is x, abs_is y)

pub three_fit : (x y z : ℤ) (n : ℕ) → unsigned_abs x ≤ n → unsigned_abs y ≤ n → unsigned_abs z ≤ n → 3 * n < 2 ^ 127
    → FitsSigned w128 ((x +ℤ y) +ℤ z)
three_fit x y z n h k l few = omega (arith, ints, h, k, l, few, abs_is x, abs_is y, abs_is z)

pub three_small : (x y z : ℤ) (n : ℕ) → unsigned_abs x ≤ n → unsigned_abs y ≤ n → unsigned_abs z ≤ n → unsigned_abs ((x +ℤ y) +ℤ z) ≤ 3 * n
three_small x y z n h k l = omega (arith, ints, h, k, l, abs_is x, abs_is y, abs_is z, abs_is ((x +ℤ y) +ℤ z))

pub same_sum : (x y z a b c : ℤ) → x ≡ a → y ≡ b → z ≡ c → (x +ℤ y) +ℤ z ≡ (a +ℤ b) +ℤ c
same_sum x y z a b c e f g = cc (e, f, g)

pub sum_some : (x y z : ℤ) → pos 0 ≤ℤ x → pos 0 ≤ℤ y → pos 0 ≤ℤ z → pos 0 ≤ℤ ((x +ℤ y) +ℤ z)
sum_some x y z a b c = omega (arith, ints, a, b, c)

pub sum_most : (x y z a b c : ℤ) → x ≤ℤ a → y ≤ℤ b → z ≤ℤ c → ((x +ℤ y) +ℤ z) ≤ℤ ((a +ℤ b) +ℤ c)
sum_most x y z a b c h k l = omega (arith, ints, h, k, l)

pub two_read : (x y : ℤ) → mag x < 2 ^ 127 → mag y < 2 ^ 127 → to_z w128 (of_z w128 x) +ℤ to_z w128 (of_z w128 y) ≡ x +ℤ y
two_read x y f g = let fx = fits_of x f in let fy = fits_of y g in simp to_z-of_z refl

pub three_read : (x y z : ℤ) (n : ℕ) → mag x < 2 ^ 127 → mag y < 2 ^ 127 → mag z < 2 ^ 127 → unsigned_abs x ≤ n → unsigned_abs y ≤ n
    → 3 * n < 2 ^ 127
    → to_z w128 (of_z w128 (to_z w128 (of_z w128 x) +ℤ to_z w128 (of_z w128 y))) +ℤ to_z w128 (of_z w128 z) ≡ (x +ℤ y) +ℤ z
three_read x y z n f g l h k few =
    let fx = fits_of x f in let fy = fits_of y g in let fz = fits_of z l in let two = two_fit x y n h k few in simp to_z-of_z refl

pub sum_read : (x y z : ℤ) (n : ℕ) → mag x < 2 ^ 127 → mag y < 2 ^ 127 → mag z < 2 ^ 127 → unsigned_abs x ≤ n → unsigned_abs y ≤ n
    → unsigned_abs z ≤ n → 3 * n < 2 ^ 127
    → to_z w128 (of_z w128 (to_z w128 (of_z w128 (to_z w128 (of_z w128 x) +ℤ to_z w128 (of_z w128 y))) +ℤ to_z w128 (of_z w128 z))) ≡ (x +ℤ y) +ℤ z
sum_read x y z n f g l h k m few =
    let fx = fits_of x f in let fy = fits_of y g in let fz = fits_of z l in let two = two_fit x y n h k few in let three = three_fit x y z n h k m few in
    simp to_z-of_z refl

-- vectors of three components
pub three_same : (x y z a b d : ℤ) → x ≡ a → y ≡ b → z ≡ d → x ∷ y ∷ z ∷ [] ≡ a ∷ b ∷ d ∷ []
three_same x y z a b d e f g = cc (e, f, g)

-- the indexes of a vector's components
pub at_x : 0 < 3
at_x = omega arith

pub at_y : 1 < 3
at_y = omega arith

pub at_z : 2 < 3
at_z = omega arith
