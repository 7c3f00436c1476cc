-- Numbers passed as their bits, and what is computed from them.
use Rattle.std.proofs.Common.{◌≡◌, ℕ, ◌*◌, ◌^◌, ◌<◌, ◌≤◌, ℤ, pos, ◌+ℤ◌, ◌-ℤ◌, ◌*ℤ◌, ◌≤ℤ◌, FitsSigned, to_z, of_z, unsigned_abs, arith, refl, sym, subst, ap, ap₂, ◌∙◌}
use Rattle.std.proofs.lemmas.Int.{ints, to_z-of_z, fits_signed_from_abs}
use mir.Syntax.{Width, w32, w64, w128}
use Rattle.space.proofs.Naturals.{abs_add, abs_mul, abs_sub}
use Rattle.sweep_boxes.specs.Limits.{place_limit}
use Rattle.space.specs.Ranges.{vector_limit}
use Rattle.near_points.specs.Limits.{moment_limit, tilt_limit}
use Rattle.near_points.proofs.Growing.{three_small}

pub moment_fits : moment_limit < 2 ^ 63
moment_fits = omega arith

pub tilt_fits : tilt_limit < 2 ^ 63
tilt_fits = omega arith

pub small_fits : (m : ℕ) (x : ℤ) → m < 2 ^ 63 → unsigned_abs x ≤ m → FitsSigned w64 x
small_fits m x few h = fits_signed_from_abs w64 x (omega (arith, few, h))

pub as_bits : (w : Width) (x a : ℤ) → x ≡ a → FitsSigned w a → to_z w (of_z w x) ≡ a
as_bits w x a e f = ap (λ z. to_z w (of_z w z)) e ∙ to_z-of_z w a f

-- a number that was computed in a machine word: it fits there, is what it should be, and is small
pub record IsReckoned (w : Width) (m : ℕ) (x a : ℤ) : Type 0 where
  pub fits : FitsSigned w x
  pub value : to_z w (of_z w x) ≡ a
  pub small : unsigned_abs (to_z w (of_z w x)) ≤ m

pub reckoned : (w : Width) (m : ℕ) (x a : ℤ) → x ≡ a → FitsSigned w a → unsigned_abs a ≤ m → IsReckoned w m x a
reckoned w m x a is fits small =
    let value = as_bits w x a is fits in record {
      fits = subst (FitsSigned w) (sym is) fits;
      value = value;
      small = subst (λ (z : ℤ). unsigned_abs z ≤ m) (sym value) small;
    }

pub small_passed : (m : ℕ) (x : ℤ) → m < 2 ^ 63 → unsigned_abs x ≤ m → unsigned_abs (to_z w64 (of_z w64 x)) ≤ m
small_passed m x few h = subst (λ (z : ℤ). unsigned_abs z ≤ m) (sym (to_z-of_z w64 x (small_fits m x few h))) h

-- a number of a moment, passed as its bits
pub moment_bits : (x : ℤ) → unsigned_abs x ≤ moment_limit → to_z w64 (of_z w64 x) ≡ x
moment_bits x h = to_z-of_z w64 x (small_fits moment_limit x moment_fits h)

pub moment_passed : (x : ℤ) → unsigned_abs x ≤ moment_limit → unsigned_abs (to_z w64 (of_z w64 x)) ≤ moment_limit
moment_passed x h = small_passed moment_limit x moment_fits h

pub tilt_bits : (x : ℤ) → unsigned_abs x ≤ tilt_limit → to_z w64 (of_z w64 x) ≡ x
tilt_bits x h = to_z-of_z w64 x (small_fits tilt_limit x tilt_fits h)

pub sum_passed : (w : Width) (x y a b : ℤ) → x ≡ a → y ≡ b → FitsSigned w a → FitsSigned w b → to_z w (of_z w x) +ℤ to_z w (of_z w y) ≡ a +ℤ b
sum_passed w x y a b ex ey fa fb = ap₂ (λ p q. p +ℤ q) (as_bits w x a ex fa) (as_bits w y b ey fb)

pub difference_passed : (w : Width) (x y a b : ℤ) → x ≡ a → y ≡ b → FitsSigned w a → FitsSigned w b → to_z w (of_z w x) -ℤ to_z w (of_z w y) ≡ a -ℤ b
difference_passed w x y a b ex ey fa fb = ap₂ (λ p q. p -ℤ q) (as_bits w x a ex fa) (as_bits w y b ey fb)

-- a number that isn't negative, taken from 0
pub opposite_reckoned : (x : ℤ) → FitsSigned w64 x → pos 0 ≤ℤ x
    → record {
      fits : FitsSigned w64 (pos 0 -ℤ to_z w64 (of_z w64 x));
      value : to_z w64 (of_z w64 (pos 0 -ℤ to_z w64 (of_z w64 x))) ≡ pos 0 -ℤ x;
    }
opposite_reckoned x f some =
    let is = ap (λ z. pos 0 -ℤ z) (to_z-of_z w64 x f) in let fits : FitsSigned w64 (pos 0 -ℤ x) = omega (arith, ints, some, f) in
    record { fits = subst (FitsSigned w64) (sym is) fits; value = as_bits w64 _ (pos 0 -ℤ x) is fits }

pub product_passed : (w : Width) (x y a b : ℤ) → x ≡ a → y ≡ b → FitsSigned w a → FitsSigned w b → to_z w (of_z w x) *ℤ to_z w (of_z w y) ≡ a *ℤ b
product_passed w x y a b ex ey fa fb = ap₂ (λ p q. p *ℤ q) (as_bits w x a ex fa) (as_bits w y b ey fb)

-- the sum of two or three numbers that aren't great
pub sum_fits : (m : ℕ) (x y : ℤ) → 2 * m < 2 ^ 63 → unsigned_abs x ≤ m → unsigned_abs y ≤ m → FitsSigned w64 (x +ℤ y)
sum_fits m x y few h k = let s = abs_add x y in fits_signed_from_abs w64 (x +ℤ y) (omega (arith, few, s, h, k))

pub triple_fits : (m : ℕ) (x y z : ℤ) → 3 * m < 2 ^ 63 → unsigned_abs x ≤ m → unsigned_abs y ≤ m → unsigned_abs z ≤ m → FitsSigned w64 ((x +ℤ y) +ℤ z)
triple_fits m x y z few h k l = let s = three_small x y z m h k l in fits_signed_from_abs w64 ((x +ℤ y) +ℤ z) (omega (arith, few, s))

pub pair_sum : (m : ℕ) (x y : ℤ) → 2 * m < 2 ^ 63 → unsigned_abs x ≤ m → unsigned_abs y ≤ m → to_z w64 (of_z w64 x) +ℤ to_z w64 (of_z w64 y) ≡ x +ℤ y
pair_sum m x y few h k = let less : m < 2 ^ 63 = omega (arith, few) in sum_passed w64 x y x y refl refl (small_fits m x less h) (small_fits m y less k)

pub triple_sum : (m : ℕ) (x y z : ℤ) → 3 * m < 2 ^ 63 → unsigned_abs x ≤ m → unsigned_abs y ≤ m → unsigned_abs z ≤ m
    → to_z w64 (of_z w64 (to_z w64 (of_z w64 x) +ℤ to_z w64 (of_z w64 y))) +ℤ to_z w64 (of_z w64 z) ≡ (x +ℤ y) +ℤ z
triple_sum m x y z few h k l =
    let less : m < 2 ^ 63 = omega (arith, few) in let two : 2 * m < 2 ^ 63 = omega (arith, few) in
    sum_passed w64 _ z (x +ℤ y) z (pair_sum m x y two h k) refl (sum_fits m x y two h k) (small_fits m z less l)

-- the product of two numbers that aren't great
pub times_fits : (m n : ℕ) (x y : ℤ) → m * n < 2 ^ 63 → unsigned_abs x ≤ m → unsigned_abs y ≤ n → FitsSigned w64 (x *ℤ y)
times_fits m n x y few h k = small_fits (m * n) (x *ℤ y) few (abs_mul x y m n h k)

pub times_passed : (m n : ℕ) (x y : ℤ) → m < 2 ^ 63 → n < 2 ^ 63 → unsigned_abs x ≤ m → unsigned_abs y ≤ n → to_z w64 (of_z w64 x) *ℤ to_z w64 (of_z w64 y) ≡ x *ℤ y
times_passed m n x y some few h k = product_passed w64 x y x y refl refl (small_fits m x some h) (small_fits n y few k)

-- a place passed as its bits, and those as a wider number
pub place_passed : (x a : ℤ) → unsigned_abs a ≤ place_limit → x ≡ to_z w32 (of_z w32 a) → x ≡ a
place_passed x a h e = e ∙ to_z-of_z w32 a (fits_signed_from_abs w32 a (omega (arith, h)))

-- the difference of two products of components
pub minor_fits : (x y : ℤ) → unsigned_abs x ≤ vector_limit * vector_limit → unsigned_abs y ≤ vector_limit * vector_limit → FitsSigned w64 (x -ℤ y)
minor_fits x y h k = let s = abs_sub x y in fits_signed_from_abs w64 (x -ℤ y) (omega (arith, s, h, k))

pub minor_passed : (x y : ℤ) → unsigned_abs x ≤ vector_limit * vector_limit → unsigned_abs y ≤ vector_limit * vector_limit → to_z w64 (of_z w64 x) -ℤ to_z w64 (of_z w64 y) ≡ x -ℤ y
minor_passed x y h k =
    let few : vector_limit * vector_limit < 2 ^ 63 = omega arith in
    difference_passed w64 x y x y refl refl (small_fits (vector_limit * vector_limit) x few h) (small_fits (vector_limit * vector_limit) y few k)

-- the product of two numbers of moments
pub wide_fits : (a b : ℤ) → unsigned_abs a ≤ moment_limit → unsigned_abs b ≤ moment_limit → FitsSigned w128 (a *ℤ b)
wide_fits a b ha hb = let s = abs_mul a b moment_limit moment_limit ha hb in fits_signed_from_abs w128 (a *ℤ b) (omega (arith, s))

moment_wide : (a : ℤ) → unsigned_abs a ≤ moment_limit → FitsSigned w128 a
moment_wide a h = fits_signed_from_abs w128 a (omega (arith, h))

pub wide_passed : (x y a b : ℤ) → unsigned_abs a ≤ moment_limit → unsigned_abs b ≤ moment_limit → x ≡ to_z w64 (of_z w64 a) → y ≡ to_z w64 (of_z w64 b)
    → to_z w128 (of_z w128 x) *ℤ to_z w128 (of_z w128 y) ≡ a *ℤ b
wide_passed x y a b ha hb ex ey =
    product_passed w128 x y a b (ex ∙ to_z-of_z w64 a (small_fits moment_limit a moment_fits ha)) (ey ∙ to_z-of_z w64 b (small_fits moment_limit b moment_fits hb))
    (moment_wide a ha) (moment_wide b hb)

pub wide_gives : (x a b : ℤ) → unsigned_abs a ≤ moment_limit → unsigned_abs b ≤ moment_limit → x ≡ to_z w64 (of_z w64 a) *ℤ to_z w64 (of_z w64 b) → x ≡ a *ℤ b
wide_gives x a b ha hb e =
    e ∙ product_passed w64 a b a b refl refl (small_fits moment_limit a moment_fits ha) (small_fits moment_limit b moment_fits hb)

-- what is small enough fits in 128 bits
pub wide_by : (m : ℕ) (x : ℤ) → m < 2 ^ 127 → unsigned_abs x ≤ m → FitsSigned w128 x
wide_by m x few h = fits_signed_from_abs w128 x (omega (arith, few, h))
