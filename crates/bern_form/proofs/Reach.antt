-- A point that a slab holds is in reach: along each axis it is no further from the ends of the move than the slab is high and wide.
use Rattle.std.proofs.Common.{◌≡◌, ℕ, zero, suc, ◌+◌, ◌*◌, ◌-◌, ◌≤◌, ◌<◌, List, [], ◌∷◌, ℤ, pos, negsuc, ◌+ℤ◌, ◌*ℤ◌, ◌-ℤ◌, ◌≤ℤ◌, unsigned_abs, arith, refl, sym, subst, ap, ◌∙◌, ◌⊎◌, inl, inr, ⊎_elim}
use Rattle.std.proofs.lemmas.Int.{ints}
use Rattle.std.proofs.Math.Nat.{le_of_mul-le-mul_left}
use borrow.Author.Differences.{abs_is}
use Rattle.space.specs.Vectors.{at, dot, spread}
use Rattle.space.specs.Sweeps.{SweepOf, IsSweep, IsTime, offset, offset_at, axis_at}
use Rattle.bern_form.specs.Slab.{SlabSize}
use Rattle.bern_form.proofs.Relations.{HoldsAt}
use Rattle.space.proofs.ReachLemmas.{InReach, IsNear, IsNearEither, near_both}
use Rattle.space.proofs.Naturals.{square_not_negative, natural, dot_natural, spread_natural}
use Rattle.space.proofs.Axis.{axis_not_zero, rest_is}
use Rattle.bern_form.proofs.Roots.{root_le}
use Rattle.space.proofs.Solver.{var, num, add, mul, neg, ring}

-- the length of the offset
radius : (H G D N W U : ℕ) → 0 < N → D * N ≡ W + U * U → 4 * W ≤ (G * G) * N → U * U ≤ (H * H) * N → D ≤ (H + G) * (H + G)
radius H G D N W U p e w u =
    le_of_mul-le-mul_left {k = N} (let x : 0 ≤ H * G * N = omega arith in let y : 0 ≤ G * G * N = omega arith in omega arith) p

part_of : (a b c : ℤ) (D : ℕ) → (a *ℤ a +ℤ b *ℤ b) +ℤ c *ℤ c ≡ pos D → (a *ℤ a) ≤ℤ pos D × (b *ℤ b) ≤ℤ pos D × (c *ℤ c) ≤ℤ pos D
part_of a b c D h =
    let x = square_not_negative a in let y = square_not_negative b in let z = square_not_negative c in
    (omega (arith, ints, h), omega (arith, ints, h), omega (arith, ints, h))

size_of : (z : ℤ) (D R : ℕ) → (z *ℤ z) ≤ℤ pos D → D ≤ R * R → unsigned_abs z ≤ R
size_of (pos n) D R h k = root_le n R (omega (arith, ints, h))
size_of (negsuc n) D R h k = root_le (suc n) R (omega (arith, ints, h))

-- one coordinate: where both ends lie further from p than R, so does every place between them
order : (p q z : ℤ) → z ≡ p -ℤ q → (p ≤ℤ q) ⊎ ((x : ℕ) × (p -ℤ q ≡ pos (x + 1)))
order p q (pos zero) e = inl (omega (arith, ints))
order p q (pos (suc x)) e = inr (x, omega (arith, ints))
order p q (negsuc x) e = inl (omega (arith, ints))

split_offset : (a b p f t : ℤ) → offset a b p f t ≡ (b -ℤ a) *ℤ (p -ℤ f) +ℤ a *ℤ (p -ℤ t)
split_offset a b p f t =
    let A = var 0 in let B = var 1 in let P = var 2 in let F = var 3 in let T = var 4 in
    ring (a ∷ b ∷ p ∷ f ∷ t ∷ []) (add (mul B P) (neg (add (mul (add B (neg A)) F) (mul A T)))) (add (mul (add B (neg A)) (add P (neg F))) (mul A (add P (neg T)))) refl

far : (e a b R x y : ℕ) → e + a ≡ b → 0 < b → e * (R + 1 + x) + a * (R + 1 + y) ≤ b * R → ⊥
far e a b R x y h k l = let z = ap (λ i. i * R) h in omega arith

above_gap : (p f : ℤ) (R x : ℕ) → p -ℤ (f +ℤ pos R) ≡ pos (x + 1) → p -ℤ f ≡ pos (R + 1 + x)
above_gap p f R x h = omega (arith, ints, h)

below_gap : (p f : ℤ) (R x : ℕ) → (f -ℤ pos R) -ℤ p ≡ pos (x + 1) → f -ℤ p ≡ pos (R + 1 + x)
below_gap p f R x h = omega (arith, ints, h)

not_above : (a b R : ℕ) (p f t : ℤ) → 0 < b → a ≤ b → unsigned_abs (offset (pos a) (pos b) p f t) ≤ b * R → (p ≤ℤ (f +ℤ pos R)) ⊎ (p ≤ℤ (t +ℤ pos R))
not_above a b R p f t h k s =
    ⊎_elim (λ l. inl l)
    (λ x. ⊎_elim (λ l. inr l)
    (λ y.
    let e : offset (pos a) (pos b) p f t ≡ pos ((b - a) * (R + 1 + x.0) + a * (R + 1 + y.0)) =
    split_offset (pos a) (pos b) p f t ∙ ap (λ z. z *ℤ (p -ℤ f) +ℤ pos a *ℤ (p -ℤ t)) (rest_is a b k)
    ∙ ap (λ z. pos (b - a) *ℤ z +ℤ pos a *ℤ (p -ℤ t)) (above_gap p f R x.0 x.1) ∙ ap (λ z. pos (b - a) *ℤ pos (R + 1 + x.0) +ℤ pos a *ℤ z) (above_gap p t R y.0 y.1) in
    absurd (far (b - a) a b R x.0 y.0 (omega arith) h (subst (λ z. unsigned_abs z ≤ b * R) e s)))
    (order p (t +ℤ pos R) (p -ℤ (t +ℤ pos R)) refl))
    (order p (f +ℤ pos R) (p -ℤ (f +ℤ pos R)) refl)

turned_offset : (a b p f t : ℤ) → offset a b p f t ≡ pos 0 -ℤ ((b -ℤ a) *ℤ (f -ℤ p) +ℤ a *ℤ (t -ℤ p))
turned_offset a b p f t =
    let A = var 0 in let B = var 1 in let P = var 2 in let F = var 3 in let T = var 4 in
    ring (a ∷ b ∷ p ∷ f ∷ t ∷ []) (add (mul B P) (neg (add (mul (add B (neg A)) F) (mul A T)))) (add (num (pos 0)) (neg (add (mul (add B (neg A)) (add F (neg P))) (mul A (add T (neg P)))))) refl

turned_size : (n k : ℕ) → unsigned_abs (pos 0 -ℤ pos n) ≤ k → n ≤ k
turned_size n k h = let s = abs_is (pos 0 -ℤ pos n) in omega (arith, ints, s, h)

not_below : (a b R : ℕ) (p f t : ℤ) → 0 < b → a ≤ b → unsigned_abs (offset (pos a) (pos b) p f t) ≤ b * R → ((f -ℤ pos R) ≤ℤ p) ⊎ ((t -ℤ pos R) ≤ℤ p)
not_below a b R p f t h k s =
    ⊎_elim (λ l. inl l)
    (λ x. ⊎_elim (λ l. inr l)
    (λ y.
    let n = (b - a) * (R + 1 + x.0) + a * (R + 1 + y.0) in
    let e : offset (pos a) (pos b) p f t ≡ pos 0 -ℤ pos n =
    turned_offset (pos a) (pos b) p f t ∙ ap (λ z. pos 0 -ℤ (z *ℤ (f -ℤ p) +ℤ pos a *ℤ (t -ℤ p))) (rest_is a b k)
    ∙ ap (λ z. pos 0 -ℤ (pos (b - a) *ℤ z +ℤ pos a *ℤ (t -ℤ p))) (below_gap p f R x.0 x.1) ∙ ap (λ z. pos 0 -ℤ (pos (b - a) *ℤ pos (R + 1 + x.0) +ℤ pos a *ℤ z)) (below_gap p t R y.0 y.1) in
    absurd (far (b - a) a b R x.0 y.0 (omega arith) h (turned_size n (b * R) (subst (λ z. unsigned_abs z ≤ b * R) e s))))
    (order (t -ℤ pos R) p ((t -ℤ pos R) -ℤ p) refl))
    (order (f -ℤ pos R) p ((f -ℤ pos R) -ℤ p) refl)

pub near_of : (a b R : ℕ) (p f t : ℤ) → 0 < b → a ≤ b → unsigned_abs (offset (pos a) (pos b) p f t) ≤ b * R → IsNearEither (pos R) f t p
near_of a b R p f t h k s = (not_below a b R p f t h k s, not_above a b R p f t h k s)

spread_is : (D N U W : ℕ) → pos D *ℤ pos N -ℤ pos U *ℤ pos U ≡ pos W → D * N ≡ W + U * U
spread_is D N U W h = omega (arith, ints, h)

positive : (n : ℕ) → (n ≡ 0 → ⊥) → 0 < n
positive zero h = absurd (h refl)
positive (suc n) h = omega arith

-- The place that a slab covers is no further from the tip than hi + dia
pub held_within : (s : SlabSize) (hi dia : ℕ) (m : SweepOf) (p : List ℤ) (a b : ℕ) → s.hi ≡ pos hi → s.dia ≡ pos dia → IsSweep m → IsTime a b → HoldsAt s m p a b
    → InReach (pos (hi + dia)) m.from m.to p
held_within s hi dia m p a b eh ed sweep time c =
    let P = offset_at m p (pos a) (pos b) in let A = axis_at m (pos a) (pos b) in
    let u = natural (dot P A) c.forward in
    let n = natural (dot A A) (dot_natural A) in
    let w = natural (spread P A) (spread_natural P A) in
    let d = natural (dot P P) (dot_natural P) in
    let some : 0 < n.0 = positive n.0 (λ z. axis_not_zero m a b sweep time (n.1 ∙ ap pos z)) in
    let e : d.0 * n.0 ≡ w.0 + u.0 * u.0 =
    spread_is d.0 n.0 u.0 w.0 (sym (ap (λ z. z *ℤ dot A A -ℤ dot P A *ℤ dot P A) d.1 ∙ ap (λ z. pos d.0 *ℤ z -ℤ dot P A *ℤ dot P A) n.1 ∙ ap (λ z. pos d.0 *ℤ pos n.0 -ℤ z *ℤ z) u.1) ∙ w.1) in
    let low = subst (λ v. (v *ℤ v) ≤ℤ (((pos b *ℤ s.hi) *ℤ (pos b *ℤ s.hi)) *ℤ dot A A)) u.1 c.below in
    let low2 = subst (λ v. (pos u.0 *ℤ pos u.0) ≤ℤ (((pos b *ℤ v) *ℤ (pos b *ℤ v)) *ℤ dot A A)) eh low in
    let low3 = subst (λ v. (pos u.0 *ℤ pos u.0) ≤ℤ (((pos b *ℤ pos hi) *ℤ (pos b *ℤ pos hi)) *ℤ v)) n.1 low2 in
    let side = subst (λ v. (pos 4 *ℤ v) ≤ℤ (((pos b *ℤ s.dia) *ℤ (pos b *ℤ s.dia)) *ℤ dot A A)) w.1 c.near in
    let side2 = subst (λ v. (pos 4 *ℤ pos w.0) ≤ℤ (((pos b *ℤ v) *ℤ (pos b *ℤ v)) *ℤ dot A A)) ed side in
    let side3 = subst (λ v. (pos 4 *ℤ pos w.0) ≤ℤ (((pos b *ℤ pos dia) *ℤ (pos b *ℤ pos dia)) *ℤ v)) n.1 side2 in
    let R = hi + dia in
    let big : d.0 ≤ b * R * (b * R) = let g = radius (b * hi) (b * dia) d.0 n.0 w.0 u.0 some e (omega (arith, ints, side3)) (omega (arith, ints, low3)) in omega arith in
    let q = part_of (at P 0) (at P 1) (at P 2) d.0 d.1 in record {
      x = near_both (pos R) (at m.from 0) (at m.to 0) (at p 0) (near_of a b R (at p 0) (at m.from 0) (at m.to 0) time.0 time.1 (size_of (at P 0) d.0 (b * R) q.0 big));
      y = near_both (pos R) (at m.from 1) (at m.to 1) (at p 1) (near_of a b R (at p 1) (at m.from 1) (at m.to 1) time.0 time.1 (size_of (at P 1) d.0 (b * R) q.1 big));
      z = near_both (pos R) (at m.from 2) (at m.to 2) (at p 2) (near_of a b R (at p 2) (at m.from 2) (at m.to 2) time.0 time.1 (size_of (at P 2) d.0 (b * R) q.2 big));
    }

-- a point in reach is in any greater reach
near_more : (r s f t p : ℤ) → r ≤ℤ s → IsNear r f t p → IsNear s f t p
near_more r s f t p h n = record { above = let a = n.above in omega (arith, ints); below = let b = n.below in omega (arith, ints) }

pub reach_more : (r s : ℤ) (from to p : List ℤ) → r ≤ℤ s → InReach r from to p → InReach s from to p
reach_more r s from to p h n = record {
  x = near_more r s (at from 0) (at to 0) (at p 0) h n.x;
  y = near_more r s (at from 1) (at to 1) (at p 1) h n.y;
  z = near_more r s (at from 2) (at to 2) (at p 2) h n.z;
}
