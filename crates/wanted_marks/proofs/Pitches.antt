-- A pitch is k steps, so it adds k times what a step adds.
use Rattle.std.proofs.Common.{◌≡◌, ℕ, [], ◌∷◌, List, ℤ, pos, ◌+ℤ◌, ◌*ℤ◌, ◌-ℤ◌, refl, ap, ap₂, ◌∙◌}
use Rattle.space.specs.Vectors.{at}
use Rattle.space.proofs.Solver.{var, add, mul, ring}
use Rattle.space.proofs.Terms.{from, sub}
use Rattle.bern_form.specs.Cells.{dot_on_cell}
use Rattle.bern_form.specs.Forms.{scaled4}
use Rattle.moment_forms.specs.Moments.{middle_moment, moment, vector_sum}
use Rattle.wanted_marks.specs.Ways.{scaled_vector}
use Rattle.wanted_marks.specs.Widths.{spread_form}
use Rattle.wanted_marks.proofs.Stepping.{cross3, dot3, same3, same5, spread}

-- the moment
minor_times : (k t w a b : ℤ) → (k *ℤ t) *ℤ b -ℤ (k *ℤ w) *ℤ a ≡ k *ℤ (t *ℤ b -ℤ w *ℤ a)
minor_times k t w a b =
    let K = var 0 in let T = var 1 in let W = var 2 in let A = var 3 in let B = var 4 in
    ring (k ∷ t ∷ w ∷ a ∷ b ∷ []) (sub (mul (mul K T) B) (mul (mul K W) A)) (mul K (sub (mul T B) (mul W A))) refl

pub moment_times : (k : ℤ) (v a : List ℤ) → moment (scaled_vector k v) a ≡ scaled_vector k (moment v a)
moment_times k v a =
    same3 _ _ _ _ _ _ (minor_times k (at v 1) (at v 2) (at a 1) (at a 2)) (minor_times k (at v 2) (at v 0) (at a 2) (at a 0)) (minor_times k (at v 0) (at v 1) (at a 0) (at a 1))

sum_times : (k x y : ℤ) → k *ℤ x +ℤ k *ℤ y ≡ k *ℤ (x +ℤ y)
sum_times k x y = let K = var 0 in let X = var 1 in let Y = var 2 in ring (k ∷ x ∷ y ∷ []) (add (mul K X) (mul K Y)) (mul K (add X Y)) refl

vector_sum_times : (k : ℤ) (x y : List ℤ) → vector_sum (scaled_vector k x) (scaled_vector k y) ≡ scaled_vector k (vector_sum x y)
vector_sum_times k x y = same3 _ _ _ _ _ _ (sum_times k (at x 0) (at y 0)) (sum_times k (at x 1) (at y 1)) (sum_times k (at x 2) (at y 2))

pub middle_times : (k : ℤ) (v a c : List ℤ) → middle_moment (scaled_vector k v) (scaled_vector k v) a c ≡ scaled_vector k (middle_moment v v a c)
middle_times k v a c = ap₂ vector_sum (moment_times k v c) (moment_times k v a) ∙ vector_sum_times k (moment v c) (moment v a)

-- u, and a scalar product of two steps
pub dot_times : (k : ℤ) (v a c : List ℤ) → dot_on_cell (scaled_vector k v) (scaled_vector k v) a c ≡ scaled_vector k (dot_on_cell v v a c)
dot_times k v a c =
    let e = k ∷ at v 0 ∷ at v 1 ∷ at v 2 ∷ at a 0 ∷ at a 1 ∷ at a 2 ∷ at c 0 ∷ at c 1 ∷ at c 2 ∷ [] in
    let K = var 0 in let V = from 1 in let A = from 4 in let C = from 7 in let M = λ (i : ℕ). mul K (V i) in
    same3 _ _ _ _ _ _ (ring e (dot3 M A) (mul K (dot3 V A)) refl) (ring e (cross3 M M A C) (mul K (cross3 V V A C)) refl) (ring e (dot3 M C) (mul K (dot3 V C)) refl)

-- a multiple of d n - u w, where d and u are taken k times
pub spread_times : (k : ℤ) (d n u w : List ℤ) → spread_form (pos 8) (scaled_vector k d) n (scaled_vector k u) w ≡ scaled4 k (spread_form (pos 8) d n u w)
spread_times k d n u w =
    let e = k ∷ at d 0 ∷ at d 1 ∷ at d 2 ∷ at n 0 ∷ at n 1 ∷ at n 2 ∷ at u 0 ∷ at u 1 ∷ at u 2 ∷ at w 0 ∷ at w 1 ∷ at w 2 ∷ [] in
    let K = var 0 in let D = from 1 in let N = from 4 in let U = from 7 in let W = from 10 in
    let a = spread 8 (λ i. mul K (D i)) N (λ i. mul K (U i)) W in
    let b = λ (i : ℕ). mul K (spread 8 D N U W i) in
    same5 _ _ _ _ _ _ _ _ _ _ (ring e (a 0) (b 0) refl) (ring e (a 1) (b 1) refl) (ring e (a 2) (b 2) refl) (ring e (a 3) (b 3) refl) (ring e (a 4) (b 4) refl)

-- two steps may be taken in either order
dot_turned : (t v : List ℤ) → dot_on_cell t t v v ≡ dot_on_cell v v t t
dot_turned t v =
    let e = at t 0 ∷ at t 1 ∷ at t 2 ∷ at v 0 ∷ at v 1 ∷ at v 2 ∷ [] in let T = from 0 in let V = from 3 in
    same3 _ _ _ _ _ _ (ring e (dot3 T V) (dot3 V T) refl) (ring e (cross3 T T V V) (cross3 V V T T) refl) (ring e (dot3 T V) (dot3 V T) refl)

spread_turned : (d n u w : List ℤ) → spread_form (pos 8) d n u w ≡ spread_form (pos 8) d n w u
spread_turned d n u w =
    let e = at d 0 ∷ at d 1 ∷ at d 2 ∷ at n 0 ∷ at n 1 ∷ at n 2 ∷ at u 0 ∷ at u 1 ∷ at u 2 ∷ at w 0 ∷ at w 1 ∷ at w 2 ∷ [] in
    let D = from 0 in let N = from 3 in let U = from 6 in let W = from 9 in
    let a = spread 8 D N U W in let b = spread 8 D N W U in
    same5 _ _ _ _ _ _ _ _ _ _ (ring e (a 0) (b 0) refl) (ring e (a 1) (b 1) refl) (ring e (a 2) (b 2) refl) (ring e (a 3) (b 3) refl) (ring e (a 4) (b 4) refl)

pub crossed_turned : (t v n u w : List ℤ) → spread_form (pos 8) (dot_on_cell t t v v) n u w ≡ spread_form (pos 8) (dot_on_cell v v t t) n w u
crossed_turned t v n u w = ap (λ d. spread_form (pos 8) d n u w) (dot_turned t v) ∙ spread_turned (dot_on_cell v v t t) n u w
