-- Sums and products of the numbers that a box is computed from.
use Rattle.std.proofs.Common.{◌≡◌, ℕ, zero, suc, negsuc, ◌+◌, ◌*◌, ◌-◌, ◌^◌, ◌≤◌, ◌<◌, List, [], ◌∷◌, ℤ, pos, ◌+ℤ◌, ◌*ℤ◌, ◌-ℤ◌, ◌≤ℤ◌, unsigned_abs, ◌⊎◌, inl, inr, ⊎_elim, FitsSigned, int_div, int_rem, arith, refl, sym, subst}
use Rattle.std.proofs.lemmas.Int.{ints, quot-rem, rem_below}
use Rattle.std.proofs.lemmas.Bool.{cases_lt}
use Rattle.std.proofs.Math.Nat.{mul-le-mul}
use mir.Syntax.{w128}
use borrow.Author.Differences.{abs_is}
use Rattle.space.specs.Sweeps.{between}
use Rattle.space.proofs.Axis.{rest_is}
use Rattle.space.proofs.Naturals.{abs_add, abs_mul, abs_sub, square_not_negative}
use Rattle.space.proofs.Facts.{fits128}
use Rattle.space.specs.Vectors.{at, cross, dot, sum}
use Rattle.sweep_boxes.specs.Limits.{place_limit}
use Rattle.space.specs.Ranges.{vector_limit}
use Rattle.sweep_boxes.specs.Intervals.{IsNearer, moment_change}
use Rattle.sweep_boxes.specs.Held.{IsGrown, IsHeightSlack}
use Rattle.sweep_boxes.specs.declared.sweep_interval.SweepInterval.{SweepInterval}
use Rattle.sweep_boxes.proofs.Triangle.{square_of_abs}
use Rattle.space.proofs.Solver.{var, num, add, mul, neg, ring}

pub place_is : (time whole : ℕ) (f t : ℤ) → time ≤ whole → pos (whole - time) *ℤ f +ℤ pos time *ℤ t ≡ between (pos time) (pos whole) f t
place_is time whole f t h = subst (λ (z : ℤ). z *ℤ f +ℤ pos time *ℤ t ≡ between (pos time) (pos whole) f t) (rest_is time whole h) refl

-- what lies between two numbers is no further from zero than one of them
pub between_far : (l h z : ℤ) (m : ℤ) → pos (unsigned_abs l) ≤ℤ m → pos (unsigned_abs h) ≤ℤ m → l ≤ℤ z → z ≤ℤ h → pos (unsigned_abs z) ≤ℤ m
between_far l h z m a b c d = omega (arith, ints, a, b, c, d, abs_is l, abs_is h, abs_is z)

-- products with the numbers between two others
pub product_mono : (a x y : ℤ) → pos 0 ≤ℤ a → x ≤ℤ y → (x *ℤ a) ≤ℤ (y *ℤ a)
product_mono (pos n) x y h l = scaled n x y l where
  scaled : (n : ℕ) (x y : ℤ) → x ≤ℤ y → (x *ℤ pos n) ≤ℤ (y *ℤ pos n)
  scaled zero x y l = omega (arith, ints)
  scaled (suc n) x y l = omega (arith, ints, scaled n x y l, l)
product_mono (negsuc n) x y h l = absurd (omega (arith, ints, h))

negated : (x a : ℤ) → x *ℤ (pos 0 -ℤ a) ≡ pos 0 -ℤ x *ℤ a
negated x a = ring (x ∷ a ∷ []) (mul (var 0) (add (num (pos 0)) (neg (var 1)))) (add (num (pos 0)) (neg (mul (var 0) (var 1)))) refl

pub product_anti : (a x y : ℤ) → a ≤ℤ pos 0 → x ≤ℤ y → (y *ℤ a) ≤ℤ (x *ℤ a)
product_anti a x y h l = omega (arith, ints, product_mono (pos 0 -ℤ a) x y (omega (arith, ints, h)) l, negated x a, negated y a)

-- products of numbers that are no further from zero than others
pub product_below : (x y m n : ℤ) → pos (unsigned_abs x) ≤ℤ m → pos (unsigned_abs y) ≤ℤ n → pos (unsigned_abs (x *ℤ y)) ≤ℤ (m *ℤ n)
product_below x y (pos m) (pos n) h k = omega (arith, ints, abs_mul x y m n (omega (arith, ints, h)) (omega (arith, ints, k)))
product_below x y (negsuc m) n h k = absurd (omega (arith, ints, h))
product_below x y (pos m) (negsuc n) h k = absurd (omega (arith, ints, k))

pub change_below : (c x y e f m n s t g : ℤ) → pos (unsigned_abs x) ≤ℤ m → pos (unsigned_abs y) ≤ℤ n → pos (unsigned_abs e) ≤ℤ s → pos (unsigned_abs f) ≤ℤ t
    → g ≡ (pos (unsigned_abs c) +ℤ m *ℤ t) +ℤ n *ℤ s → pos (unsigned_abs (c +ℤ (x *ℤ f -ℤ y *ℤ e))) ≤ℤ g
change_below c x y e f m n s t g hx hy he hf is =
    let a = product_below x f m t hx hf in let b = product_below y e n s hy he in
    omega (arith, ints, is, a, b, abs_add c (x *ℤ f -ℤ y *ℤ e), abs_sub (x *ℤ f) (y *ℤ e))

square_below : (x a : ℤ) → pos (unsigned_abs x) ≤ℤ a → (x *ℤ x) ≤ℤ (a *ℤ a)
square_below x a h = omega (arith, ints, product_below x x a a h h, abs_is (x *ℤ x))

pub squares_below : (x y z a b c r : ℤ) → pos (unsigned_abs x) ≤ℤ a → pos (unsigned_abs y) ≤ℤ b → pos (unsigned_abs z) ≤ℤ c → ((a *ℤ a +ℤ b *ℤ b) +ℤ c *ℤ c) ≤ℤ r
    → ((x *ℤ x +ℤ y *ℤ y) +ℤ z *ℤ z) ≤ℤ r
squares_below x y z a b c r h k l m = omega (arith, ints, square_below x a h, square_below y b k, square_below z c l, m)

-- a scaled length's square times that of an axis
pub record RadiusFits (x n : ℤ) : Type 0 where
  pub square : FitsSigned w128 (x *ℤ x)
  pub whole : FitsSigned w128 ((x *ℤ x) *ℤ n)
  pub some : pos 0 ≤ℤ ((x *ℤ x) *ℤ n)
  pub small : unsigned_abs ((x *ℤ x) *ℤ n) ≤ 10 ^ 36

pub radius_fits : (x n : ℤ) → unsigned_abs x ≤ 256 * place_limit → pos 0 ≤ℤ n → n ≤ℤ pos (3 * (vector_limit * vector_limit)) → RadiusFits x n
radius_fits x n h some few =
    let square = abs_mul x x (256 * place_limit) (256 * place_limit) h h in
    let length : unsigned_abs n ≤ 3 * (vector_limit * vector_limit) = omega (arith, ints, some, few, abs_is n) in
    let whole = abs_mul (x *ℤ x) n (256 * place_limit * (256 * place_limit)) (3 * (vector_limit * vector_limit)) square length in
    record {
      square = fits128 (x *ℤ x) (256 * place_limit * (256 * place_limit)) square (omega arith);
      whole = fits128 ((x *ℤ x) *ℤ n) (256 * place_limit * (256 * place_limit) * (3 * (vector_limit * vector_limit))) whole (omega arith);
      some = product_some (x *ℤ x) n (square_not_negative x) some;
      small = omega (arith, whole);
    } where
      product_some : (z d : ℤ) → pos 0 ≤ℤ z → pos 0 ≤ℤ d → pos 0 ≤ℤ (z *ℤ d)
      product_some (pos m) (pos n) h k = omega (arith, ints)
      product_some (negsuc m) d h k = absurd (omega (arith, ints, h))
      product_some (pos m) (negsuc n) h k = absurd (omega (arith, ints, k))

pub dot_below : (p e far axis_change : List ℤ) → IsNearer p far → IsNearer e axis_change → pos (unsigned_abs (dot p e)) ≤ℤ dot far axis_change
dot_below p e far axis_change h k =
    let x = product_below (at p 0) (at e 0) (at far 0) (at axis_change 0) h.x k.x in
    let y = product_below (at p 1) (at e 1) (at far 1) (at axis_change 1) h.y k.y in
    let z = product_below (at p 2) (at e 2) (at far 2) (at axis_change 2) h.z k.z in
    omega (arith, ints, x, y, z, abs_add (at p 0 *ℤ at e 0) (at p 1 *ℤ at e 1), abs_add (at p 0 *ℤ at e 0 +ℤ at p 1 *ℤ at e 1) (at p 2 *ℤ at e 2))

pub height_slack_below : (da pe b t : ℤ) → pos (unsigned_abs pe) ≤ℤ t → unsigned_abs (da +ℤ pe) ≤ unsigned_abs da + unsigned_abs t
height_slack_below da pe b t h = omega (arith, ints, h, abs_add da pe, abs_is t)

-- the numbers of an interval, from what their computation gives
pub lifted : (total drift swing bend da ft dt : ℤ) (interval : SweepInterval) (far axis_change : List ℤ) → total ≡ drift +ℤ (swing +ℤ bend) → drift ≡ pos (unsigned_abs da) → swing ≡ pos (unsigned_abs ft) → bend ≡ pos (unsigned_abs dt)
    → da ≡ dot interval.offset_change interval.axis → ft ≡ dot far axis_change → dt ≡ dot interval.offset_change interval.axis_change → IsNearer interval.axis_change axis_change → IsHeightSlack total interval far
lifted total drift swing bend da ft dt interval far axis_change is e f g da_is ft_is dt_is near = record {
  v = unsigned_abs da + unsigned_abs ft;
  b = unsigned_abs dt;
  total_is = omega (arith, ints, is, e, f, g);
  change = λ p nearer.
      subst (λ (z : ℤ). unsigned_abs (dot interval.offset_change interval.axis +ℤ dot p interval.axis_change) ≤ unsigned_abs z + unsigned_abs ft) (sym da_is)
      (subst (λ (z : ℤ). unsigned_abs (dot interval.offset_change interval.axis +ℤ dot p interval.axis_change) ≤ unsigned_abs (dot interval.offset_change interval.axis) + unsigned_abs z) (sym ft_is)
      (height_slack_below (dot interval.offset_change interval.axis) (dot p interval.axis_change) (pos 0) (dot far axis_change) (dot_below p interval.axis_change far axis_change nearer near)));
  bend = subst (λ (z : ℤ). unsigned_abs (dot interval.offset_change interval.axis_change) ≤ unsigned_abs z) (sym dt_is) (omega arith);
}

pub sizes_of : (a b c t : ℤ) → t ≡ a +ℤ (b +ℤ c) → pos 0 ≤ℤ a → pos 0 ≤ℤ b → pos 0 ≤ℤ c → t ≡ pos (unsigned_abs a + (unsigned_abs b + unsigned_abs c))
sizes_of a b c t e x y z = omega (arith, ints, e, x, y, z, abs_is a, abs_is b, abs_is c)

pub grown_by : (total r m n : ℤ) (interval : SweepInterval) (widest : ℤ) (far axis_change drift bend : List ℤ) → total ≡ r +ℤ (m +ℤ n) → pos 0 ≤ℤ r → pos 0 ≤ℤ m → pos 0 ≤ℤ n
    → drift ≡ cross interval.offset_change interval.axis → bend ≡ cross interval.offset_change interval.axis_change → IsNearer interval.axis_change axis_change
    → (((pos interval.scale *ℤ widest) *ℤ (pos interval.scale *ℤ widest)) *ℤ interval.longest) ≤ℤ (r *ℤ r)
    → ((v e : List ℤ) → IsNearer v far → IsNearer e axis_change → dot (sum drift (cross v e)) (sum drift (cross v e)) ≤ℤ (m *ℤ m))
    → dot bend bend ≤ℤ (n *ℤ n) → IsGrown total interval widest far
grown_by total r m n interval widest far axis_change drift bend is some_r some_m some_n drift_is bend_is near wide change bent = record {
  r = unsigned_abs r;
  m = unsigned_abs m;
  n = unsigned_abs n;
  total_is = sizes_of r m n total is some_r some_m some_n;
  wide = subst (λ (z : ℤ). (((pos interval.scale *ℤ widest) *ℤ (pos interval.scale *ℤ widest)) *ℤ interval.longest) ≤ℤ z) (sym (square_of_abs r)) wide;
  change = λ v nearer.
      subst (λ (z : ℤ). dot (moment_change v interval.axis interval.offset_change interval.axis_change) (moment_change v interval.axis interval.offset_change interval.axis_change) ≤ℤ z) (sym (square_of_abs m))
      (subst (λ (d : List ℤ). dot (sum d (cross v interval.axis_change)) (sum d (cross v interval.axis_change)) ≤ℤ (m *ℤ m)) drift_is (change v interval.axis_change nearer near));
  bend = subst (λ (z : ℤ). dot (cross interval.offset_change interval.axis_change) (cross interval.offset_change interval.axis_change) ≤ℤ z) (sym (square_of_abs n))
      (subst (λ (d : List ℤ). dot d d ≤ℤ (n *ℤ n)) bend_is bent);
}

pub minus_fits : (z : ℤ) → unsigned_abs z ≤ 3 * 10 ^ 18 → FitsSigned w128 (pos 0 -ℤ z)
minus_fits z h = omega (arith, ints, h, abs_is z)

pub sum_fits : (a b : ℤ) → unsigned_abs a ≤ 10 ^ 18 → unsigned_abs b ≤ 3 * 10 ^ 18 → FitsSigned w128 (a +ℤ b)
sum_fits a b h k = omega (arith, ints, h, k, abs_is a, abs_is b)

pub scaled_some : (s : ℕ) (n : ℤ) → 1 ≤ s → pos 1 ≤ℤ n → pos 1 ≤ℤ (pos s *ℤ n)
scaled_some s (pos n) h k = let one : 1 ≤ n = omega (arith, ints, k) in let more : 1 * 1 ≤ s * n = mul-le-mul h one in omega (arith, ints, more)
scaled_some s (negsuc n) h k = absurd (omega (arith, ints, k))

-- a quotient that is rounded towards zero
pub most_or_more : (a b : ℤ) → (a ≤ℤ b) ⊎ ((b +ℤ pos 1) ≤ℤ a)
most_or_more (pos m) (pos n) = ⊎_elim (λ l. inr (omega (arith, ints))) (λ l. inl (omega (arith, ints))) (cases_lt n m)
most_or_more (pos m) (negsuc n) = inr (omega (arith, ints))
most_or_more (negsuc m) (pos n) = inl (omega (arith, ints))
most_or_more (negsuc m) (negsuc n) = ⊎_elim (λ l. inr (omega (arith, ints))) (λ l. inl (omega (arith, ints))) (cases_lt m n)

one_more : (z n : ℤ) → (z +ℤ pos 1) *ℤ n ≡ z *ℤ n +ℤ n
one_more z n = ring (z ∷ n ∷ []) (mul (add (var 0) (num (pos 1))) (var 1)) (add (mul (var 0) (var 1)) (var 1)) refl

not_last : (q r n b pn qn more : ℤ) → b ≡ qn +ℤ r → unsigned_abs r < unsigned_abs n → pos 1 ≤ℤ n → more ≡ qn +ℤ n → more ≤ℤ pn → pn ≤ℤ b → ⊥
not_last q r n b pn qn more is small some m_is m h = omega (arith, ints, is, small, some, m_is, m, h, abs_is r, abs_is n)

not_first : (q r n b pn qn more : ℤ) → b ≡ qn +ℤ r → unsigned_abs r < unsigned_abs n → pos 1 ≤ℤ n → more ≡ pn +ℤ n → more ≤ℤ qn → b ≤ℤ pn → ⊥
not_first q r n b pn qn more is small some m_is m h = omega (arith, ints, is, small, some, m_is, m, h, abs_is r, abs_is n)

pub quotient_last : (b n p : ℤ) → pos 1 ≤ℤ n → (p *ℤ n) ≤ℤ b → p ≤ℤ int_div b n
quotient_last b n p some h =
    let q = int_div b n in let r = int_rem b n in
    ⊎_elim (λ most. most)
    (λ more. absurd (not_last q r n b (p *ℤ n) (q *ℤ n) ((q +ℤ pos 1) *ℤ n) (sym (quot-rem b n)) (rem_below b n (omega (arith, ints, some, abs_is n))) some (one_more q n) (product_mono n (q +ℤ pos 1) p (omega (arith, ints, some)) more) h))
    (most_or_more p q)

pub quotient_first : (b n p : ℤ) → pos 1 ≤ℤ n → b ≤ℤ (p *ℤ n) → int_div b n ≤ℤ p
quotient_first b n p some h =
    let q = int_div b n in let r = int_rem b n in
    ⊎_elim (λ most. most)
    (λ more. absurd (not_first q r n b (p *ℤ n) (q *ℤ n) ((p +ℤ pos 1) *ℤ n) (sym (quot-rem b n)) (rem_below b n (omega (arith, ints, some, abs_is n))) some (one_more p n) (product_mono n (p +ℤ pos 1) q (omega (arith, ints, some)) more) h))
    (most_or_more q p)
