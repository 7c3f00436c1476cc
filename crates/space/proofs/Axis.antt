-- The axis of a valid sweep is zero at no rational time.
use Rattle.std.proofs.Common.{◌≡◌, ℕ, zero, suc, ◌+◌, ◌-◌, ◌≤◌, ◌<◌, [], ◌∷◌, ℤ, pos, negsuc, ◌+ℤ◌, ◌*ℤ◌, ◌-ℤ◌, ◌≤ℤ◌, ◌<ℤ◌, arith, refl, subst, ap, ◌∙◌}
use Rattle.std.proofs.lemmas.Int.{ints}
use Rattle.space.specs.Vectors.{at, dot}
use Rattle.space.specs.Sweeps.{SweepOf, IsSweep, IsTime, axis_at}
use Rattle.space.proofs.Naturals.{square_not_negative, dot_natural}
use Rattle.space.proofs.Solver.{var, add, mul, neg, ring}
use Rattle.space.proofs.Tests.{not_opposite, not_zero}

cancel : (e : ℕ) (z : ℤ) → 0 < e → pos e *ℤ z ≡ pos 0 → z ≡ pos 0
cancel (suc e) (pos zero) h k = refl
cancel (suc e) (pos (suc n)) h k = absurd (omega (arith, ints, k))
cancel (suc e) (negsuc n) h k = absurd (omega (arith, ints, k))
cancel zero z h k = absurd (omega arith)

square_zero : (z : ℤ) → z *ℤ z ≡ pos 0 → z ≡ pos 0
square_zero (pos zero) h = refl
square_zero (pos (suc n)) h = absurd (omega (arith, ints, h))
square_zero (negsuc n) h = absurd (omega (arith, ints, h))

squares_zero : (a b c : ℤ) → (a *ℤ a +ℤ b *ℤ b) +ℤ c *ℤ c ≡ pos 0 → (a ≡ pos 0) × (b ≡ pos 0) × (c ≡ pos 0)
squares_zero a b c h =
    let x = square_not_negative a in let y = square_not_negative b in let z = square_not_negative c in
    (square_zero a (omega (arith, ints, h)), square_zero b (omega (arith, ints, h)), square_zero c (omega (arith, ints, h)))

zeros : (s t : ℤ) → pos 0 *ℤ s -ℤ pos 0 *ℤ t ≡ pos 0
zeros s t = omega (arith, ints)

-- e f + a t = 0 in two components makes their cross product zero
parallel : (e a f t g s : ℤ) → e *ℤ f +ℤ a *ℤ t ≡ pos 0 → e *ℤ g +ℤ a *ℤ s ≡ pos 0 → e *ℤ (f *ℤ s -ℤ g *ℤ t) ≡ pos 0
parallel e a f t g s h k =
    let E = var 0 in let A = var 1 in let F = var 2 in let T = var 3 in let G = var 4 in let S = var 5 in
    ring (e ∷ a ∷ f ∷ t ∷ g ∷ s ∷ []) (mul E (add (mul F S) (neg (mul G T)))) (add (mul (add (mul E F) (mul A T)) S) (neg (mul (add (mul E G) (mul A S)) T))) refl
    ∙ ap (λ z. z *ℤ s -ℤ (e *ℤ g +ℤ a *ℤ s) *ℤ t) h ∙ ap (λ z. pos 0 *ℤ s -ℤ z *ℤ t) k ∙ zeros s t

same_from : (x y : ℤ) → x -ℤ y ≡ pos 0 → x ≡ y
same_from x y h = omega (arith, ints)

no_sum : (t s u : ℤ) → (pos 0 *ℤ t +ℤ pos 0 *ℤ s) +ℤ pos 0 *ℤ u ≡ pos 0
no_sum t s u = omega (arith, ints)

-- the dot product: e (f . t) = - a (t . t)
against : (e a f t g s k u : ℤ) → e *ℤ f +ℤ a *ℤ t ≡ pos 0 → e *ℤ g +ℤ a *ℤ s ≡ pos 0 → e *ℤ k +ℤ a *ℤ u ≡ pos 0
    → e *ℤ ((f *ℤ t +ℤ g *ℤ s) +ℤ k *ℤ u) +ℤ a *ℤ ((t *ℤ t +ℤ s *ℤ s) +ℤ u *ℤ u) ≡ pos 0
against e a f t g s k u h1 h2 h3 =
    let E = var 0 in let A = var 1 in let F = var 2 in let T = var 3 in let G = var 4 in let S = var 5 in let K = var 6 in let U = var 7 in
    ring (e ∷ a ∷ f ∷ t ∷ g ∷ s ∷ k ∷ u ∷ [])
    (add (mul E (add (add (mul F T) (mul G S)) (mul K U))) (mul A (add (add (mul T T) (mul S S)) (mul U U))))
    (add (add (mul (add (mul E F) (mul A T)) T) (mul (add (mul E G) (mul A S)) S)) (mul (add (mul E K) (mul A U)) U)) refl
    ∙ ap (λ z. (z *ℤ t +ℤ (e *ℤ g +ℤ a *ℤ s) *ℤ s) +ℤ (e *ℤ k +ℤ a *ℤ u) *ℤ u) h1
    ∙ ap (λ z. (pos 0 *ℤ t +ℤ z *ℤ s) +ℤ (e *ℤ k +ℤ a *ℤ u) *ℤ u) h2
    ∙ ap (λ z. (pos 0 *ℤ t +ℤ pos 0 *ℤ s) +ℤ z *ℤ u) h3 ∙ no_sum t s u

below_by : (e a : ℕ) (x y : ℤ) → 0 < e → 0 < a → pos 0 ≤ℤ y → (y ≡ pos 0 → ⊥) → pos e *ℤ x +ℤ pos a *ℤ y ≡ pos 0 → x <ℤ pos 0
below_by e a (negsuc n) y h k l p q = omega (arith, ints)
below_by e a (pos n) (negsuc y) h k l p q = absurd (omega (arith, ints))
below_by e a (pos n) (pos zero) h k l p q = absurd (p refl)
below_by e (suc a) (pos n) (pos (suc y)) h k l p q = absurd (omega (arith, ints, q))
below_by e zero (pos n) (pos (suc y)) h k l p q = absurd (omega arith)

pub rest_is : (a b : ℕ) → a ≤ b → pos b -ℤ pos a ≡ pos (b - a)
rest_is a b h = omega (arith, ints)

second_out : (z : ℤ) (x : ℤ) → pos 0 *ℤ z +ℤ x ≡ pos 0 → x ≡ pos 0
second_out z x h = omega (arith, ints, h)

first_out : (z : ℤ) (x : ℤ) → x +ℤ pos 0 *ℤ z ≡ pos 0 → x ≡ pos 0
first_out z x h = omega (arith, ints, h)

no_axis : (m : SweepOf) (e a : ℕ) → IsSweep m → 0 < e + a
    → pos e *ℤ at m.axis_from 0 +ℤ pos a *ℤ at m.axis_to 0 ≡ pos 0
    → pos e *ℤ at m.axis_from 1 +ℤ pos a *ℤ at m.axis_to 1 ≡ pos 0
    → pos e *ℤ at m.axis_from 2 +ℤ pos a *ℤ at m.axis_to 2 ≡ pos 0 → ⊥
no_axis m zero a v h x y z =
    let g : 0 < a = omega arith in
    let f = m.axis_from in let t = m.axis_to in
    not_zero t v.last_axis (cancel a (at t 0) g (second_out (at f 0) (pos a *ℤ at t 0) x), cancel a (at t 1) g (second_out (at f 1) (pos a *ℤ at t 1) y), cancel a (at t 2) g (second_out (at f 2) (pos a *ℤ at t 2) z))
no_axis m (suc e) zero v h x y z =
    let f = m.axis_from in let t = m.axis_to in
    let n = suc e in
    let g : 0 < n = omega arith in
    not_zero f v.first_axis (cancel n (at f 0) g (first_out (at t 0) (pos n *ℤ at f 0) x), cancel n (at f 1) g (first_out (at t 1) (pos n *ℤ at f 1) y), cancel n (at f 2) g (first_out (at t 2) (pos n *ℤ at f 2) z))
no_axis m (suc e) (suc a) v h x y z =
    let f = m.axis_from in let t = m.axis_to in
    let n = suc e in let k = suc a in
    let g : 0 < n = omega arith in
    let own : dot t t ≡ pos 0 → ⊥ = λ q. not_zero t v.last_axis (squares_zero (at t 0) (at t 1) (at t 2) q) in
    not_opposite f t v.apart record {
      x = same_from (at f 1 *ℤ at t 2) (at f 2 *ℤ at t 1) (cancel n (at f 1 *ℤ at t 2 -ℤ at f 2 *ℤ at t 1) g (parallel (pos n) (pos k) (at f 1) (at t 1) (at f 2) (at t 2) y z));
      y = same_from (at f 2 *ℤ at t 0) (at f 0 *ℤ at t 2) (cancel n (at f 2 *ℤ at t 0 -ℤ at f 0 *ℤ at t 2) g (parallel (pos n) (pos k) (at f 2) (at t 2) (at f 0) (at t 0) z x));
      z = same_from (at f 0 *ℤ at t 1) (at f 1 *ℤ at t 0) (cancel n (at f 0 *ℤ at t 1 -ℤ at f 1 *ℤ at t 0) g (parallel (pos n) (pos k) (at f 0) (at t 0) (at f 1) (at t 1) x y));
      against = below_by n k (dot f t) (dot t t) g (omega arith) (dot_natural t) own (against (pos n) (pos k) (at f 0) (at t 0) (at f 1) (at t 1) (at f 2) (at t 2) x y z);
    }

-- At no rational time is the axis of a valid move zero
pub axis_not_zero : (m : SweepOf) (a b : ℕ) → IsSweep m → IsTime a b → dot (axis_at m (pos a) (pos b)) (axis_at m (pos a) (pos b)) ≡ pos 0 → ⊥
axis_not_zero m a b v time e =
    let h = time.0 in let k = time.1 in
    let A = axis_at m (pos a) (pos b) in
    let z = squares_zero (at A 0) (at A 1) (at A 2) e in
    let r = rest_is a b k in
    no_axis m (b - a) a v (omega arith)
    (subst (λ w. w *ℤ at m.axis_from 0 +ℤ pos a *ℤ at m.axis_to 0 ≡ pos 0) r z.0)
    (subst (λ w. w *ℤ at m.axis_from 1 +ℤ pos a *ℤ at m.axis_to 1 ≡ pos 0) r z.1)
    (subst (λ w. w *ℤ at m.axis_from 2 +ℤ pos a *ℤ at m.axis_to 2 ≡ pos 0) r z.2)
