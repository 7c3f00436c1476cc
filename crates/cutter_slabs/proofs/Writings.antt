-- A cutter holds a point at a time however the time is written.
use Rattle.std.proofs.Common.{◌≡◌, ℕ, ◌*◌, ◌<◌, ◌≤◌, List, [], ◌∷◌, ℤ, pos, negsuc, ◌*ℤ◌, ◌≤ℤ◌, arith, refl, ap, sym, subst, ◌∙◌, ⊎_elim}
use Rattle.std.proofs.lemmas.Int.{ints}
use Rattle.std.proofs.Math.Nat.{mul-le-mul}
use Rattle.space.specs.Sweeps.{SweepOf, axis_at, between, offset, offset_at}
use Rattle.space.specs.Vectors.{at, dot, spread}
use Rattle.space.proofs.Solver.{Term, add, mul, ring, var}
use Rattle.space.proofs.Terms.{dots, from, square, sub}
use Rattle.cutter_slabs.specs.Cutter.{CutterSize, IsCutter, flat_of}
use Rattle.cutter_slabs.specs.Inside.{IsInside}
use Rattle.cutter_slabs.specs.Meets.{InsideAt}
use Rattle.cutter_slabs.proofs.Cones.{InCone}
use Rattle.cutter_slabs.proofs.Corners.{InCutter}
use Rattle.cutter_slabs.proofs.Places.{Place, place_of}
use Rattle.cutter_slabs.proofs.Round.{IsAbove}
use Rattle.cutter_slabs.proofs.Times.{above_back, cone_back, round_back, scaled_above, scaled_cone, scaled_round}
use Rattle.cutter_slabs.proofs.Whole.{above_down, leaning_down, leaning_up, round_down, round_up}

-- a vector times a number
abbrev pub times : ℤ → List ℤ → List ℤ
times k v = (k *ℤ at v 0) ∷ (k *ℤ at v 1) ∷ (k *ℤ at v 2) ∷ []

three : (a b c x y z : ℤ) → a ≡ x → b ≡ y → c ≡ z → (a ∷ b ∷ c ∷ []) ≡ (x ∷ y ∷ z ∷ [])
three a b c x y z e f g = cc

-- a place between two ends, and an offset from it, written with another number
offset_times : (a b k p f t : ℤ) → offset (a *ℤ k) (b *ℤ k) p f t ≡ k *ℤ offset a b p f t
offset_times a b k p f t =
    let A = var 0 in let B = var 1 in let K = var 2 in let P = var 3 in let F = var 4 in let T = var 5 in
    ring (a ∷ b ∷ k ∷ p ∷ f ∷ t ∷ [])
    (sub (mul (mul B K) P) (add (mul (sub (mul B K) (mul A K)) F) (mul (mul A K) T)))
    (mul K (sub (mul B P) (add (mul (sub B A) F) (mul A T)))) refl

between_times : (a b k f t : ℤ) → between (a *ℤ k) (b *ℤ k) f t ≡ k *ℤ between a b f t
between_times a b k f t =
    let A = var 0 in let B = var 1 in let K = var 2 in let F = var 3 in let T = var 4 in
    ring (a ∷ b ∷ k ∷ f ∷ t ∷ [])
    (add (mul (sub (mul B K) (mul A K)) F) (mul (mul A K) T))
    (mul K (add (mul (sub B A) F) (mul A T))) refl

offsets_times : (m : SweepOf) (p : List ℤ) (a b k : ℕ) → offset_at m p (pos (a * k)) (pos (b * k)) ≡ times (pos k) (offset_at m p (pos a) (pos b))
offsets_times m p a b k =
    let o : ℕ → ℤ = λ i. offset (pos (a * k)) (pos (b * k)) (at p i) (at m.from i) (at m.to i) in
    let x : ℕ → ℤ = λ i. pos k *ℤ offset (pos a) (pos b) (at p i) (at m.from i) (at m.to i) in
    let e : (i : ℕ) → o i ≡ x i = λ i. offset_times (pos a) (pos b) (pos k) (at p i) (at m.from i) (at m.to i) in
    three (o 0) (o 1) (o 2) (x 0) (x 1) (x 2) (e 0) (e 1) (e 2)

axes_times : (m : SweepOf) (a b k : ℕ) → axis_at m (pos (a * k)) (pos (b * k)) ≡ times (pos k) (axis_at m (pos a) (pos b))
axes_times m a b k =
    let o : ℕ → ℤ = λ i. between (pos (a * k)) (pos (b * k)) (at m.axis_from i) (at m.axis_to i) in
    let x : ℕ → ℤ = λ i. pos k *ℤ between (pos a) (pos b) (at m.axis_from i) (at m.axis_to i) in
    let e : (i : ℕ) → o i ≡ x i = λ i. between_times (pos a) (pos b) (pos k) (at m.axis_from i) (at m.axis_to i) in
    three (o 0) (o 1) (o 2) (x 0) (x 1) (x 2) (e 0) (e 1) (e 2)

-- the scalar product and the spread of such vectors
dot_times : (k : ℤ) (p a : List ℤ) → dot (times k p) (times k a) ≡ (k *ℤ k) *ℤ dot p a
dot_times k p a =
    let P = from 0 in let A = from 3 in let K = var 6 in
    ring (at p 0 ∷ at p 1 ∷ at p 2 ∷ at a 0 ∷ at a 1 ∷ at a 2 ∷ k ∷ [])
    (dots (λ i. mul K (P i)) (λ i. mul K (A i))) (mul (mul K K) (dots P A)) refl

spread_times : (k : ℤ) (p a : List ℤ) → spread (times k p) (times k a) ≡ ((k *ℤ k) *ℤ (k *ℤ k)) *ℤ spread p a
spread_times k p a =
    let P = from 0 in let A = from 3 in let K = var 6 in
    let kp : ℕ → Term = λ i. mul K (P i) in let ka : ℕ → Term = λ i. mul K (A i) in
    ring (at p 0 ∷ at p 1 ∷ at p 2 ∷ at a 0 ∷ at a 1 ∷ at a 2 ∷ k ∷ [])
    (sub (mul (dots kp kp) (dots ka ka)) (square (dots kp ka)))
    (mul (mul (mul K K) (mul K K)) (sub (mul (dots P P) (dots A A)) (square (dots P A)))) refl

-- the place of such vectors
abbrev place_times : (k : ℕ) (p a : List ℤ) (x : Place p a) → Place (times (pos k) p) (times (pos k) a)
place_times k p a x = record {
  u = k * k * x.u;
  n = k * k * x.n;
  w = k * k * (k * k) * x.w;
  u_is = dot_times (pos k) p a ∙ ap (λ z. (pos k *ℤ pos k) *ℤ z) x.u_is;
  n_is = dot_times (pos k) a a ∙ ap (λ z. (pos k *ℤ pos k) *ℤ z) x.n_is;
  w_is = spread_times (pos k) p a ∙ ap (λ z. ((pos k *ℤ pos k) *ℤ (pos k *ℤ pos k)) *ℤ z) x.w_is;
}

longer : (b k z : ℕ) → k * (b * z) ≡ b * k * z
longer b k z = omega arith

round_times : (c : CutterSize) (b k u N W : ℕ) → InCutter (k * (b * c.r)) (k * (b * flat_of c)) (k * (b * c.h)) u N W → InCutter (b * k * c.r) (b * k * flat_of c) (b * k * c.h) u N W
round_times c b k u N W i =
    subst (λ x. InCutter x (b * k * flat_of c) (b * k * c.h) u N W) (longer b k c.r)
    (subst (λ x. InCutter (k * (b * c.r)) x (b * k * c.h) u N W) (longer b k (flat_of c)) (subst (λ x. InCutter (k * (b * c.r)) (k * (b * flat_of c)) x u N W) (longer b k c.h) i))

round_divided : (c : CutterSize) (b k u N W : ℕ) → InCutter (b * k * c.r) (b * k * flat_of c) (b * k * c.h) u N W → InCutter (k * (b * c.r)) (k * (b * flat_of c)) (k * (b * c.h)) u N W
round_divided c b k u N W i =
    subst (λ x. InCutter x (k * (b * flat_of c)) (k * (b * c.h)) u N W) (sym (longer b k c.r))
    (subst (λ x. InCutter (b * k * c.r) x (k * (b * c.h)) u N W) (sym (longer b k (flat_of c))) (subst (λ x. InCutter (b * k * c.r) (b * k * flat_of c) x u N W) (sym (longer b k c.h)) i))

cone_times : (c : CutterSize) (t b k u N W : ℕ) → InCone t (k * (b * c.d)) (k * (b * c.h)) u N W → InCone t (b * k * c.d) (b * k * c.h) u N W
cone_times c t b k u N W i =
    subst (λ x. InCone t x (b * k * c.h) u N W) (longer b k c.d) (subst (λ x. InCone t (k * (b * c.d)) x u N W) (longer b k c.h) i)

cone_divided : (c : CutterSize) (t b k u N W : ℕ) → InCone t (b * k * c.d) (b * k * c.h) u N W → InCone t (k * (b * c.d)) (k * (b * c.h)) u N W
cone_divided c t b k u N W i =
    subst (λ x. InCone t x (k * (b * c.h)) u N W) (sym (longer b k c.d)) (subst (λ x. InCone t (b * k * c.d) x u N W) (sym (longer b k c.h)) i)

above_times : (c : CutterSize) (b k : ℕ) (x y : ℕ) → IsAbove c b x y → IsAbove c (b * k) (k * k * x) (k * k * y)
above_times c b k x y h = subst (λ z. (z * z) * (k * k * y) ≤ (k * k * x) * (k * k * x)) (longer b k c.base) (scaled_above (b * c.base) x y k h)

above_divided : (c : CutterSize) (b k : ℕ) (x y : ℕ) → 0 < k → IsAbove c (b * k) (k * k * x) (k * k * y) → IsAbove c b x y
above_divided c b k x y some h = above_back (b * c.base) x y k some (subst (λ z. (z * z) * (k * k * y) ≤ (k * k * x) * (k * k * x)) (sym (longer b k c.base)) h)

-- the cutter with all lengths times k holds the offset times k under the axis times k
times_inside : (c : CutterSize) (t b k : ℕ) (p a : List ℤ) → IsCutter c → 0 < k → IsInside c t b p a → IsInside c t (b * k) (times (pos k) p) (times (pos k) a)
times_inside c t b k p a valid some inside =
    let x = place_of p a inside.forward in
    let y = place_times k p a x in
    let forward : pos 0 ≤ℤ dot (times (pos k) p) (times (pos k) a) = subst (λ z. pos 0 ≤ℤ z) (sym y.u_is) (omega (arith, ints)) in
    let above = above_times c b k x.u x.n (above_down c b p a x inside.above) in
    ⊎_elim
    (λ round.
    round_up c t (b * k) (times (pos k) p) (times (pos k) a) y valid round.upright forward above
    (round_times c b k y.u y.n y.w (scaled_round (b * c.r) (b * flat_of c) (b * c.h) x.u x.n x.w k some (round_down c b p a x valid inside.height round))))
    (λ cone.
    leaning_up c t (b * k) (times (pos k) p) (times (pos k) a) y cone.leaning forward above
    (cone_times c t b k y.u y.n y.w (scaled_cone t (b * c.d) (b * c.h) x.u x.n x.w k some (leaning_down c t b p a x inside.height cone))))
    inside.shape

behind : (k n : ℕ) → 0 < k → pos 0 ≤ℤ ((pos k *ℤ pos k) *ℤ negsuc n) → ⊥
behind k n some h = let s = mul-le-mul some some in omega (arith, ints, s, h)

-- a product with a number above 0 is not below 0 where the other factor isn't
ahead : (k : ℕ) (z : ℤ) → 0 < k → pos 0 ≤ℤ ((pos k *ℤ pos k) *ℤ z) → pos 0 ≤ℤ z
ahead k (pos n) some h = omega (arith, ints)
ahead k (negsuc n) some h = absurd (behind k n some h)

divided_inside : (c : CutterSize) (t b k : ℕ) (p a : List ℤ) → IsCutter c → 0 < k → IsInside c t (b * k) (times (pos k) p) (times (pos k) a) → IsInside c t b p a
divided_inside c t b k p a valid some inside =
    let forward = ahead k (dot p a) some (subst (λ z. pos 0 ≤ℤ z) (dot_times (pos k) p a) inside.forward) in
    let x = place_of p a forward in
    let y = place_times k p a x in
    let above = above_divided c b k x.u x.n some (above_down c (b * k) (times (pos k) p) (times (pos k) a) y inside.above) in
    ⊎_elim
    (λ round.
    round_up c t b p a x valid round.upright forward above
    (round_back (b * c.r) (b * flat_of c) (b * c.h) x.u x.n x.w k some
    (round_divided c b k y.u y.n y.w (round_down c (b * k) (times (pos k) p) (times (pos k) a) y valid inside.height round))))
    (λ cone.
    leaning_up c t b p a x cone.leaning forward above
    (cone_back t (b * c.d) (b * c.h) x.u x.n x.w k some
    (cone_divided c t b k y.u y.n y.w (leaning_down c t (b * k) (times (pos k) p) (times (pos k) a) y inside.height cone))))
    inside.shape

pub written_on : (c : CutterSize) (t : ℕ) (m : SweepOf) (p : List ℤ) (a b k : ℕ) → IsCutter c → 0 < k → InsideAt c t m p a b → InsideAt c t m p (a * k) (b * k)
written_on c t m p a b k valid some inside =
    subst (λ o. IsInside c t (b * k) o (axis_at m (pos (a * k)) (pos (b * k)))) (sym (offsets_times m p a b k))
    (subst (λ x. IsInside c t (b * k) (times (pos k) (offset_at m p (pos a) (pos b))) x) (sym (axes_times m a b k))
    (times_inside c t b k (offset_at m p (pos a) (pos b)) (axis_at m (pos a) (pos b)) valid some inside))

pub written_back : (c : CutterSize) (t : ℕ) (m : SweepOf) (p : List ℤ) (a b k : ℕ) → IsCutter c → 0 < k → InsideAt c t m p (a * k) (b * k) → InsideAt c t m p a b
written_back c t m p a b k valid some inside =
    divided_inside c t b k (offset_at m p (pos a) (pos b)) (axis_at m (pos a) (pos b)) valid some
    (subst (λ x. IsInside c t (b * k) (times (pos k) (offset_at m p (pos a) (pos b))) x) (axes_times m a b k)
    (subst (λ o. IsInside c t (b * k) o (axis_at m (pos (a * k)) (pos (b * k)))) (offsets_times m p a b k) inside))
