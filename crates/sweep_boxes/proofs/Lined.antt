-- Places along a line, from bounds of their offsets times a square.
use Rattle.std.proofs.Common.{◌≡◌, ℕ, ◌*◌, ◌≤◌, [], ◌∷◌, ℤ, pos, negsuc, neg_ℤ, ◌+ℤ◌, ◌*ℤ◌, ◌-ℤ◌, ◌≤ℤ◌, unsigned_abs, arith, refl, sym, subst}
use Rattle.std.proofs.lemmas.Int.{ints}
use borrow.Author.Differences.{abs_is}
use Rattle.space.proofs.Solver.{var, mul, ring}
use Rattle.space.proofs.Terms.{sub}
use Rattle.sweep_boxes.specs.Limits.{place_limit}

spread_out : (s z t q : ℤ) → (s *ℤ z -ℤ t) *ℤ q ≡ z *ℤ (s *ℤ q) -ℤ t *ℤ q
spread_out s z t q = ring (s ∷ z ∷ t ∷ q ∷ []) (mul (sub (mul (var 0) (var 1)) (var 2)) (var 3)) (sub (mul (var 1) (mul (var 0) (var 3))) (mul (var 2) (var 3))) refl

pub first_of : (l m d e s z t q ua : ℤ) → l ≤ℤ ua → (ua -ℤ m) ≤ℤ ((s *ℤ z -ℤ t) *ℤ q) → d ≡ (l -ℤ m) +ℤ t *ℤ q → e ≡ s *ℤ q → d ≤ℤ (z *ℤ e)
first_of l m d e s z t q ua h k d_is e_is = subst (λ (y : ℤ). d ≤ℤ (z *ℤ y)) (sym e_is) (omega (arith, ints, h, k, d_is, spread_out s z t q))

pub last_of : (l m d e s z t q ua : ℤ) → ua ≤ℤ l → ((s *ℤ z -ℤ t) *ℤ q) ≤ℤ (ua +ℤ m) → d ≡ (l +ℤ m) +ℤ t *ℤ q → e ≡ s *ℤ q → (z *ℤ e) ≤ℤ d
last_of l m d e s z t q ua h k d_is e_is = subst (λ (y : ℤ). (z *ℤ y) ≤ℤ d) (sym e_is) (omega (arith, ints, h, k, d_is, spread_out s z t q))

-- numbers of a range whose ends are small are small
pub not_beyond : (z h : ℤ) → z ≤ℤ h → unsigned_abs h ≤ place_limit → z ≤ℤ pos place_limit
not_beyond z h l k = omega (arith, ints, l, k, abs_is h)

pub not_before : (z h : ℤ) → h ≤ℤ z → unsigned_abs h ≤ place_limit → neg_ℤ (pos place_limit) ≤ℤ z
not_before z h l k = omega (arith, ints, l, k, abs_is h)

-- a number no further from another than k times a moment
pub within_margin : (a b m margin : ℤ) (k : ℕ) (r : ℤ) → unsigned_abs (a -ℤ b) ≤ k * unsigned_abs m → r ≡ pos k → pos 0 ≤ℤ m → margin ≡ r *ℤ m → ((b -ℤ margin) ≤ℤ a) × (a ≤ℤ (b +ℤ margin))
within_margin a b m margin k r h r_is some is =
    let same : margin ≡ pos (k * unsigned_abs m) = margin_is m margin k r r_is some is in
    (omega (arith, ints, h, same, abs_is (a -ℤ b)), omega (arith, ints, h, same, abs_is (a -ℤ b))) where
      margin_is : (m margin : ℤ) (k : ℕ) (r : ℤ) → r ≡ pos k → pos 0 ≤ℤ m → margin ≡ r *ℤ m → margin ≡ pos (k * unsigned_abs m)
      margin_is (pos n) margin k r r_is some is = subst (λ (z : ℤ). margin ≡ z *ℤ pos n → margin ≡ pos (k * n)) (sym r_is) (λ e. omega (arith, ints, e)) is
      margin_is (negsuc n) margin k r r_is some is = absurd (omega (arith, ints, some))
