-- Numbers that are read again from their bits: what they are, how large they are, and their products.
use Rattle.std.proofs.Common.{◌≡◌, ◌∙◌, ap, ap₂, subst, sym, pos, FitsSigned, to_z, of_z, ℕ, ◌*◌, ◌^◌, ◌<◌, ◌≤◌, ℤ, ◌*ℤ◌, unsigned_abs, arith}
use Rattle.std.proofs.lemmas.Int.{fits_signed_from_abs, fits_signed_mul, to_z-of_z}
use mir.Syntax.{Width, w32, w64}
use mir.Val.{hbits}

-- by what a number is equal to
pub small_as : (x y : ℤ) (n : ℕ) → x ≡ y → unsigned_abs y ≤ n → unsigned_abs x ≤ n
small_as x y n e h = subst (λ (z : ℤ). unsigned_abs z ≤ n) (sym e) h

-- a number within a limit that fits
pub back_of : (w : Width) (z : ℤ) (n : ℕ) → n < 2 ^ hbits w → unsigned_abs z ≤ n → to_z w (of_z w z) ≡ z
back_of w z n r h = to_z-of_z w z (fits_signed_from_abs w z (omega (arith, r, h)))

pub small_back : (w : Width) (z : ℤ) (n : ℕ) → n < 2 ^ hbits w → unsigned_abs z ≤ n → unsigned_abs (to_z w (of_z w z)) ≤ n
small_back w z n r h = small_as (to_z w (of_z w z)) z n (back_of w z n r h) h

-- a product of numbers that fit
pub both_back : (w : Width) (x y : ℤ) → FitsSigned w x → FitsSigned w y → to_z w (of_z w x) *ℤ to_z w (of_z w y) ≡ x *ℤ y
both_back w x y h k = ap₂ (λ a b. a *ℤ b) (to_z-of_z w x h) (to_z-of_z w y k)

pub product_fits : (w : Width) (x y : ℤ) (m n : ℕ) → FitsSigned w x → FitsSigned w y → unsigned_abs x ≤ m → unsigned_abs y ≤ n → m * n < 2 ^ hbits w
    → FitsSigned w (to_z w (of_z w x) *ℤ to_z w (of_z w y))
product_fits w x y m n h k p q r = subst (FitsSigned w) (sym (both_back w x y h k)) (fits_signed_mul w x y m n p q r)

pub product_is : (w : Width) (x y : ℤ) (m n : ℕ) → FitsSigned w x → FitsSigned w y → unsigned_abs x ≤ m → unsigned_abs y ≤ n → m * n < 2 ^ hbits w
    → to_z w (of_z w (to_z w (of_z w x) *ℤ to_z w (of_z w y))) ≡ x *ℤ y
product_is w x y m n h k p q r = to_z-of_z w (to_z w (of_z w x) *ℤ to_z w (of_z w y)) (product_fits w x y m n h k p q r) ∙ both_back w x y h k

-- and of a natural number and a number of 32 bits, in 64 bits
both_long : (a b : ℤ) (n : ℕ) (y : ℤ) → a ≡ pos n → b ≡ to_z w32 (of_z w32 y) → FitsSigned w32 y → to_z w64 (of_z w64 a) *ℤ to_z w64 (of_z w64 b) ≡ to_z w64 (of_z w64 (pos n)) *ℤ to_z w64 (of_z w64 y)
both_long a b n y e f k = ap₂ (λ s t. to_z w64 (of_z w64 s) *ℤ to_z w64 (of_z w64 t)) e (f ∙ to_z-of_z w32 y k)

long : (y : ℤ) → FitsSigned w32 y → FitsSigned w64 y
long y k = record { sfits = omega (arith, k.sfits) }

pub long_product_fits : (a b : ℤ) (l : ℕ) (y : ℤ) (m n : ℕ) → a ≡ pos l → b ≡ to_z w32 (of_z w32 y) → FitsSigned w32 y
    → l ≤ m → unsigned_abs y ≤ n → m * n < 2 ^ hbits w64 → m < 2 ^ hbits w64 → FitsSigned w64 (to_z w64 (of_z w64 a) *ℤ to_z w64 (of_z w64 b))
long_product_fits a b l y m n e f k p q r s =
    subst (FitsSigned w64) (sym (both_long a b l y e f k)) (product_fits w64 (pos l) y m n record { sfits = omega (arith, p, s) } (long y k) p q r)

pub long_product_is : (a b : ℤ) (l : ℕ) (y : ℤ) (m n : ℕ) → a ≡ pos l → b ≡ to_z w32 (of_z w32 y) → FitsSigned w32 y
    → l ≤ m → unsigned_abs y ≤ n → m * n < 2 ^ hbits w64 → m < 2 ^ hbits w64 → to_z w64 (of_z w64 (to_z w64 (of_z w64 a) *ℤ to_z w64 (of_z w64 b))) ≡ pos l *ℤ y
long_product_is a b l y m n e f k p q r s =
    ap (λ z. to_z w64 (of_z w64 z)) (both_long a b l y e f k) ∙ product_is w64 (pos l) y m n record { sfits = omega (arith, p, s) } (long y k) p q r
