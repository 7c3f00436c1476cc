-- How large the numbers of one point's tests can be: each coefficient stays below 4 * 10^37.
use Rattle.std.proofs.Common.{◌≡◌, ℕ, zero, suc, ◌+◌, ◌*◌, ◌-◌, ◌^◌, ◌≤◌, ◌<◌, [], ◌∷◌, List, ℤ, pos, ◌+ℤ◌, ◌*ℤ◌, ◌-ℤ◌, unsigned_abs, arith, subst, sym}
use Rattle.std.specs.List.{All}
use Rattle.bern_form.specs.Forms.{IsSmall, product11, product22, lifted, sum2, scaled2, scaled4, difference4}
use Rattle.space.specs.Vectors.{at, dot}
use Rattle.space.specs.Sweeps.{SweepOf, IsSweep, axis_at, between, offset, offset_at}
use Rattle.space.specs.Ranges.{IsPoint, IsWithin}
use Rattle.bern_form.specs.Sizes.{IsBounded2, IsBounded4, axis_limit, offset_limit, scale_limit}
use Rattle.space.proofs.Axis.{rest_is}
use Rattle.space.proofs.Naturals.{abs_add, abs_mul, abs_sub}

sum_small : (a b : ℤ) (m n : ℕ) → unsigned_abs a ≤ m → unsigned_abs b ≤ n → unsigned_abs (a +ℤ b) ≤ m + n
sum_small a b m n h k = let s = abs_add a b in omega arith

difference_small : (a b : ℤ) (m n : ℕ) → unsigned_abs a ≤ m → unsigned_abs b ≤ n → unsigned_abs (a -ℤ b) ≤ m + n
difference_small a b m n h k = let s = abs_sub a b in omega arith

-- a place between two ends, at the time k / S
pub before_small : (k S m : ℕ) (f : ℤ) → k ≤ S → unsigned_abs f ≤ m → unsigned_abs ((pos S -ℤ pos k) *ℤ f) ≤ (S - k) * m
before_small k S m f h p = abs_mul (pos S -ℤ pos k) f (S - k) m (subst (λ z. unsigned_abs z ≤ S - k) (sym (rest_is k S h)) (omega arith)) p

pub after_small : (k m : ℕ) (t : ℤ) → unsigned_abs t ≤ m → unsigned_abs (pos k *ℤ t) ≤ k * m
after_small k m t q = abs_mul (pos k) t k m (omega arith) q

pub between_small : (k S m : ℕ) (f t : ℤ) → k ≤ S → unsigned_abs f ≤ m → unsigned_abs t ≤ m → unsigned_abs (between (pos k) (pos S) f t) ≤ S * m
between_small k S m f t h p q =
    let r = S - k in
    let e : r + k ≡ S = omega arith in
    let whole = sum_small ((pos S -ℤ pos k) *ℤ f) (pos k *ℤ t) (r * m) (k * m) (before_small k S m f h p) (after_small k m t q) in
    subst (λ s. unsigned_abs (between (pos k) (pos S) f t) ≤ s * m) e (omega arith)

pub offset_small : (k S m : ℕ) (p f t : ℤ) → k ≤ S → unsigned_abs p ≤ m → unsigned_abs f ≤ m → unsigned_abs t ≤ m
    → unsigned_abs (offset (pos k) (pos S) p f t) ≤ S * (2 * m)
offset_small k S m p f t h a b c =
    let one = abs_mul (pos S) p S m (omega arith) a in
    let two = between_small k S m f t h b c in
    let whole = difference_small (pos S *ℤ p) (between (pos k) (pos S) f t) (S * m) (S * m) one two in
    omega arith

-- the offset and the axis of a valid sweep at a sample
pub offset_within : (m : SweepOf) (p : List ℤ) (k S : ℕ) → IsSweep m → IsPoint p → k ≤ S → S ≤ scale_limit → IsWithin offset_limit (offset_at m p (pos k) (pos S))
offset_within m p k S h q l s =
    let x = offset_small k S 1000000 (at p 0) (at m.from 0) (at m.to 0) l q.0 h.from.0 h.to.0 in
    let y = offset_small k S 1000000 (at p 1) (at m.from 1) (at m.to 1) l q.1 h.from.1 h.to.1 in
    let z = offset_small k S 1000000 (at p 2) (at m.from 2) (at m.to 2) l q.2 h.from.2 h.to.2 in
    (omega arith, omega arith, omega arith)

pub axis_within : (m : SweepOf) (k S : ℕ) → IsSweep m → k ≤ S → S ≤ scale_limit → IsWithin axis_limit (axis_at m (pos k) (pos S))
axis_within m k S h l s =
    let x = between_small k S 100000 (at m.axis_from 0) (at m.axis_to 0) l h.axis_from.0 h.axis_to.0 in
    let y = between_small k S 100000 (at m.axis_from 1) (at m.axis_to 1) l h.axis_from.1 h.axis_to.1 in
    let z = between_small k S 100000 (at m.axis_from 2) (at m.axis_to 2) l h.axis_from.2 h.axis_to.2 in
    (omega arith, omega arith, omega arith)

-- scalar products and spreads
pub dot_small : (p a : List ℤ) (m n : ℕ) → IsWithin m p → IsWithin n a → unsigned_abs (dot p a) ≤ 3 * (m * n)
dot_small p a m n h k =
    let x = abs_mul (at p 0) (at a 0) m n h.0 k.0 in
    let y = abs_mul (at p 1) (at a 1) m n h.1 k.1 in
    let z = abs_mul (at p 2) (at a 2) m n h.2 k.2 in
    let s = sum_small (at p 0 *ℤ at a 0) (at p 1 *ℤ at a 1) (m * n) (m * n) x y in
    let t = sum_small (at p 0 *ℤ at a 0 +ℤ at p 1 *ℤ at a 1) (at p 2 *ℤ at a 2) (m * n + m * n) (m * n) s z in
    omega arith

-- products, sums and differences of bounded forms
pub product11_bounded : (a b : List ℤ) (m n : ℕ) → unsigned_abs (at a 0) ≤ m → unsigned_abs (at a 1) ≤ m → unsigned_abs (at b 0) ≤ n → unsigned_abs (at b 1) ≤ n
    → IsBounded2 (m * n) (product11 a b)
product11_bounded a b m n a0 a1 b0 b1 =
    let x = abs_mul (at a 0) (at b 1) m n a0 b1 in let y = abs_mul (at a 1) (at b 0) m n a1 b0 in
    let s = sum_small (at a 0 *ℤ at b 1) (at a 1 *ℤ at b 0) (m * n) (m * n) x y in
    record { first = abs_mul (at a 0) (at b 0) m n a0 b0; middle = omega arith; last = abs_mul (at a 1) (at b 1) m n a1 b1 }

pub sum2_bounded : (a b : List ℤ) (m n : ℕ) → IsBounded2 m a → IsBounded2 n b → IsBounded2 (m + n) (sum2 a b)
sum2_bounded a b m n h k =
    let s = sum_small (at a 1) (at b 1) (2 * m) (2 * n) h.middle k.middle in
    record { first = sum_small (at a 0) (at b 0) m n h.first k.first; middle = omega arith; last = sum_small (at a 2) (at b 2) m n h.last k.last }

pub scaled2_bounded : (s : ℤ) (a : List ℤ) (w m : ℕ) → unsigned_abs s ≤ w → IsBounded2 m a → IsBounded2 (w * m) (scaled2 s a)
scaled2_bounded s a w m h k =
    let x = abs_mul s (at a 1) w (2 * m) h k.middle in
    record { first = abs_mul s (at a 0) w m h k.first; middle = omega arith; last = abs_mul s (at a 2) w m h k.last }

pub product22_bounded : (a b : List ℤ) (m n : ℕ) → IsBounded2 m a → IsBounded2 n b → IsBounded4 (6 * (m * n)) (product22 a b)
product22_bounded a b m n h g =
    let a0b0 = abs_mul (at a 0) (at b 0) m n h.first g.first in
    let a0b1 = abs_mul (at a 0) (at b 1) m (2 * n) h.first g.middle in let a1b0 = abs_mul (at a 1) (at b 0) (2 * m) n h.middle g.first in
    let a0b2 = abs_mul (at a 0) (at b 2) m n h.first g.last in let a1b1 = abs_mul (at a 1) (at b 1) (2 * m) (2 * n) h.middle g.middle in let a2b0 = abs_mul (at a 2) (at b 0) m n h.last g.first in
    let a1b2 = abs_mul (at a 1) (at b 2) (2 * m) n h.middle g.last in let a2b1 = abs_mul (at a 2) (at b 1) m (2 * n) h.last g.middle in
    let a2b2 = abs_mul (at a 2) (at b 2) m n h.last g.last in
    let s1 = sum_small (at a 0 *ℤ at b 1) (at a 1 *ℤ at b 0) (m * (2 * n)) (2 * m * n) a0b1 a1b0 in
    let s2 = sum_small (at a 0 *ℤ at b 2) (at a 1 *ℤ at b 1) (m * n) (2 * m * (2 * n)) a0b2 a1b1 in
    let t2 = sum_small (at a 0 *ℤ at b 2 +ℤ at a 1 *ℤ at b 1) (at a 2 *ℤ at b 0) (m * n + 2 * m * (2 * n)) (m * n) s2 a2b0 in
    let s3 = sum_small (at a 1 *ℤ at b 2) (at a 2 *ℤ at b 1) (2 * m * n) (m * (2 * n)) a1b2 a2b1 in
    record { c0 = omega arith; c1 = omega arith; c2 = omega arith; c3 = omega arith; c4 = omega arith }

pub lifted_bounded : (a : List ℤ) (m : ℕ) → IsBounded2 m a → IsBounded4 (6 * m) (lifted a)
lifted_bounded a m h =
    let p = product22_bounded a (pos 1 ∷ pos 2 ∷ pos 1 ∷ []) m 1 h record { first = omega arith; middle = omega arith; last = omega arith } in
    let c0 = p.c0 in let c1 = p.c1 in let c2 = p.c2 in let c3 = p.c3 in let c4 = p.c4 in
    record { c0 = omega arith; c1 = omega arith; c2 = omega arith; c3 = omega arith; c4 = omega arith }

pub difference4_bounded : (a b : List ℤ) (m n : ℕ) → IsBounded4 m a → IsBounded4 n b → IsBounded4 (m + n) (difference4 a b)
difference4_bounded a b m n h k = record {
  c0 = difference_small (at a 0) (at b 0) m n h.c0 k.c0;
  c1 = difference_small (at a 1) (at b 1) m n h.c1 k.c1;
  c2 = difference_small (at a 2) (at b 2) m n h.c2 k.c2;
  c3 = difference_small (at a 3) (at b 3) m n h.c3 k.c3;
  c4 = difference_small (at a 4) (at b 4) m n h.c4 k.c4;
}

pub scaled4_bounded : (s : ℤ) (a : List ℤ) (w m : ℕ) → unsigned_abs s ≤ w → IsBounded4 m a → IsBounded4 (w * m) (scaled4 s a)
scaled4_bounded s a w m h k = record {
  c0 = abs_mul s (at a 0) w m h k.c0;
  c1 = abs_mul s (at a 1) w m h k.c1;
  c2 = abs_mul s (at a 2) w m h k.c2;
  c3 = abs_mul s (at a 3) w m h k.c3;
  c4 = abs_mul s (at a 4) w m h k.c4;
}

-- a list of coefficients is small where the list that it equals is
pub small_as : {a b : List ℤ} → a ≡ b → All IsSmall b → All IsSmall a
small_as e h = subst (All IsSmall) (sym e) h

-- a list of three, or of five, small numbers
pub three_small : (a b c : ℤ) → IsSmall a → IsSmall b → IsSmall c → All IsSmall (a ∷ b ∷ c ∷ [])
three_small a b c h0 h1 h2 zero d l = h0
three_small a b c h0 h1 h2 (suc zero) d l = h1
three_small a b c h0 h1 h2 (suc (suc zero)) d l = h2
three_small a b c h0 h1 h2 (suc (suc (suc k))) d l = absurd (omega arith)

pub five_small : (a b c e f : ℤ) → IsSmall a → IsSmall b → IsSmall c → IsSmall e → IsSmall f → All IsSmall (a ∷ b ∷ c ∷ e ∷ f ∷ [])
five_small a b c e f h0 h1 h2 h3 h4 zero d l = h0
five_small a b c e f h0 h1 h2 h3 h4 (suc zero) d l = h1
five_small a b c e f h0 h1 h2 h3 h4 (suc (suc zero)) d l = h2
five_small a b c e f h0 h1 h2 h3 h4 (suc (suc (suc zero))) d l = h3
five_small a b c e f h0 h1 h2 h3 h4 (suc (suc (suc (suc zero)))) d l = h4
five_small a b c e f h0 h1 h2 h3 h4 (suc (suc (suc (suc (suc k))))) d l = absurd (omega arith)

-- what is bounded well below the limit is small
pub bounded2_small : (a b c : ℤ) (m : ℕ) → 2 * m < 4 * 10 ^ 37 → IsBounded2 m (a ∷ b ∷ c ∷ []) → All IsSmall (a ∷ b ∷ c ∷ [])
bounded2_small a b c m l h =
    let h0 = h.first in let h1 = h.middle in let h2 = h.last in
    three_small a b c (omega arith) (omega arith) (omega arith)

pub bounded4_small : (a b c e f : ℤ) (m : ℕ) → m < 4 * 10 ^ 37 → IsBounded4 m (a ∷ b ∷ c ∷ e ∷ f ∷ []) → All IsSmall (a ∷ b ∷ c ∷ e ∷ f ∷ [])
bounded4_small a b c e f m l h =
    let h0 = h.c0 in let h1 = h.c1 in let h2 = h.c2 in let h3 = h.c3 in let h4 = h.c4 in
    five_small a b c e f (omega arith) (omega arith) (omega arith) (omega arith) (omega arith)
