-- Small numbers as code has them: read again from their bits, and their sums and differences.
use Rattle.std.proofs.Common.{◌≡◌, ◌∙◌, ap₂, sym, subst, to_z, of_z, ℕ, ◌*◌, ◌^◌, ◌<◌, ◌≤◌, ℤ, ◌+ℤ◌, ◌*ℤ◌, ◌-ℤ◌, FitsSigned, unsigned_abs, arith}
use Rattle.std.proofs.lemmas.Int.{fits_signed_from_abs, to_z-of_z}
use Rattle.std.proofs.Math.Nat.{mul-le-mul}
use mir.Syntax.{Width, w32, w128}
use mir.Val.{Fits}
use Rattle.space.proofs.Naturals.{abs_add, abs_sub}
use Rattle.bern_form.specs.Forms.{IsSmall}
use Rattle.wanted_marks.specs.Widths.{quadratic}

-- a square of few
few_squared : (h : ℕ) → h < 64 → h * h < 2 ^ 32
few_squared h few =
    let l : h ≤ 63 = omega (arith, few) in let k : h * h ≤ 63 * 63 = mul-le-mul l l in omega (arith, k)

pub square_fits : (h : ℕ) → h < 64 → Fits w32 (h * h)
square_fits h few = record { fits = few_squared h few }

fits_small : (z : ℤ) → IsSmall z → FitsSigned w128 z
fits_small z h = fits_signed_from_abs w128 z (omega (arith, h))

small_back : (z : ℤ) → IsSmall z → to_z w128 (of_z w128 z) ≡ z
small_back z h = to_z-of_z w128 z (fits_small z h)

-- a product that is small, of numbers that fit
product_back : (x y : ℤ) → FitsSigned w128 x → FitsSigned w128 y → to_z w128 (of_z w128 x) *ℤ to_z w128 (of_z w128 y) ≡ x *ℤ y
product_back x y f g = ap₂ (λ a b. a *ℤ b) (to_z-of_z w128 x f) (to_z-of_z w128 y g)

pub product_fits : (x y : ℤ) → FitsSigned w128 x → FitsSigned w128 y → IsSmall (x *ℤ y) → FitsSigned w128 (to_z w128 (of_z w128 x) *ℤ to_z w128 (of_z w128 y))
product_fits x y f g h = subst (FitsSigned w128) (sym (product_back x y f g)) (fits_small (x *ℤ y) h)

-- a difference
module _ (x e : ℤ) (h : IsSmall x) (k : IsSmall e) where
  both_back : to_z w128 (of_z w128 x) -ℤ to_z w128 (of_z w128 e) ≡ x -ℤ e
  both_back = ap₂ (λ a b. a -ℤ b) (small_back x h) (small_back e k)

  pub less_fits : FitsSigned w128 (to_z w128 (of_z w128 x) -ℤ to_z w128 (of_z w128 e))
  less_fits = subst (FitsSigned w128) (sym both_back) (fits_signed_from_abs w128 (x -ℤ e) (omega (arith, abs_sub x e, h, k)))

  less_is : to_z w128 (of_z w128 (to_z w128 (of_z w128 x) -ℤ to_z w128 (of_z w128 e))) ≡ x -ℤ e
  less_is = to_z-of_z w128 (to_z w128 (of_z w128 x) -ℤ to_z w128 (of_z w128 e)) less_fits ∙ both_back

-- the sum of two, from the same
sum_small : (x y e : ℤ) → IsSmall x → IsSmall y → IsSmall e → FitsSigned w128 ((x -ℤ e) +ℤ (y -ℤ e))
sum_small x y e h j k =
    fits_signed_from_abs w128 ((x -ℤ e) +ℤ (y -ℤ e)) (omega (arith, abs_sub x e, abs_sub y e, abs_add (x -ℤ e) (y -ℤ e), h, j, k))

sum_back : (x y e : ℤ) → IsSmall x → IsSmall y → IsSmall e
    → to_z w128 (of_z w128 (to_z w128 (of_z w128 x) -ℤ to_z w128 (of_z w128 e))) +ℤ to_z w128 (of_z w128 (to_z w128 (of_z w128 y) -ℤ to_z w128 (of_z w128 e)))
    ≡ (x -ℤ e) +ℤ (y -ℤ e)
sum_back x y e h j k = ap₂ (λ a b. a +ℤ b) (less_is x e h k) (less_is y e j k)

pub sum_fits : (x y e : ℤ) → IsSmall x → IsSmall y → IsSmall e
    → FitsSigned w128 (to_z w128 (of_z w128 (to_z w128 (of_z w128 x) -ℤ to_z w128 (of_z w128 e))) +ℤ to_z w128 (of_z w128 (to_z w128 (of_z w128 y) -ℤ to_z w128 (of_z w128 e))))
sum_fits x y e h j k = subst (FitsSigned w128) (sym (sum_back x y e h j k)) (sum_small x y e h j k)

-- a coefficient that is linear, or quadratic, in a number of steps, where what it is computed from fits
linear_back : (w : Width) (a b l : ℤ) → FitsSigned w a → FitsSigned w b → to_z w (of_z w a) +ℤ l *ℤ to_z w (of_z w b) ≡ a +ℤ l *ℤ b
linear_back w a b l f g = ap₂ (λ x y. x +ℤ l *ℤ y) (to_z-of_z w a f) (to_z-of_z w b g)

pub linear_small : (a b l : ℤ) → FitsSigned w128 a → FitsSigned w128 b → IsSmall (a +ℤ l *ℤ b) → IsSmall (to_z w128 (of_z w128 a) +ℤ l *ℤ to_z w128 (of_z w128 b))
linear_small a b l f g h = subst IsSmall (sym (linear_back w128 a b l f g)) h

pub linear_within : (w : Width) (a b l : ℤ) (m n : ℕ) → FitsSigned w a → FitsSigned w b → m ≤ n → unsigned_abs (a +ℤ l *ℤ b) ≤ m
    → unsigned_abs (to_z w (of_z w a) +ℤ l *ℤ to_z w (of_z w b)) ≤ n
linear_within w a b l m n f g s h = subst (λ (z : ℤ). unsigned_abs z ≤ n) (sym (linear_back w a b l f g)) (omega (arith, s, h))

pub linear_is : (w : Width) (r a b l : ℤ) → FitsSigned w r → FitsSigned w a → FitsSigned w b → r ≡ to_z w (of_z w a) +ℤ l *ℤ to_z w (of_z w b)
    → to_z w (of_z w r) ≡ a +ℤ l *ℤ b
linear_is w r a b l e f g h = to_z-of_z w r e ∙ h ∙ linear_back w a b l f g

quadratic_back : (a b c l : ℤ) → FitsSigned w128 a → FitsSigned w128 b → FitsSigned w128 c
    → quadratic (to_z w128 (of_z w128 a)) (to_z w128 (of_z w128 b)) (to_z w128 (of_z w128 c)) l ≡ quadratic a b c l
quadratic_back a b c l f g h =
    let x = to_z-of_z w128 a f in let y = to_z-of_z w128 b g in let z = to_z-of_z w128 c h in λ i. quadratic (x i) (y i) (z i) l

pub quadratic_small : (a b c l : ℤ) → FitsSigned w128 a → FitsSigned w128 b → FitsSigned w128 c → IsSmall (quadratic a b c l)
    → IsSmall (quadratic (to_z w128 (of_z w128 a)) (to_z w128 (of_z w128 b)) (to_z w128 (of_z w128 c)) l)
quadratic_small a b c l f g h s = subst IsSmall (sym (quadratic_back a b c l f g h)) s

pub quadratic_is : (r a b c l : ℤ) → FitsSigned w128 r → FitsSigned w128 a → FitsSigned w128 b → FitsSigned w128 c
    → r ≡ quadratic (to_z w128 (of_z w128 a)) (to_z w128 (of_z w128 b)) (to_z w128 (of_z w128 c)) l → to_z w128 (of_z w128 r) ≡ quadratic a b c l
quadratic_is r a b c l e f g h s = to_z-of_z w128 r e ∙ s ∙ quadratic_back a b c l f g h

-- a coefficient that is taken some times
pub taken_small : (b k : ℤ) → FitsSigned w128 b → IsSmall (k *ℤ b) → IsSmall (k *ℤ to_z w128 (of_z w128 b))
taken_small b k f h = subst (λ z. IsSmall (k *ℤ z)) (sym (to_z-of_z w128 b f)) h
