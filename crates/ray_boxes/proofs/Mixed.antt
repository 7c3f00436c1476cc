-- Along a ray the forms of a point between two others are made of theirs: u is a sum of both u, with weights that give the place
-- between them, and so are the quantities of degree 4, with the squares and the double product of the weights.
use Rattle.std.proofs.Common.{◌≡◌, ℕ, zero, suc, ◌+◌, ◌<◌, [], ◌∷◌, List, ℤ, pos, ◌+ℤ◌, ◌*ℤ◌, ◌-ℤ◌, arith, refl, ap, ap₂, sym, ◌∙◌}
use Rattle.space.specs.Sweeps.{SweepOf, axis_at, between, offset_at}
use Rattle.space.specs.Vectors.{at}
use Rattle.space.proofs.Solver.{Term, var, num, add, mul, ring}
use Rattle.space.proofs.Terms.{dots, from, sub}
use Rattle.bern_form.specs.Forms.{product22, scaled2, value2}
use Rattle.bern_form.specs.Cells.{dot_on_cell}

same3 : (a b c d e f : ℤ) → a ≡ d → b ≡ e → c ≡ f → a ∷ b ∷ c ∷ [] ≡ d ∷ e ∷ f ∷ []
same3 a b c d e f h k l = ap (λ z. z ∷ b ∷ c ∷ []) h ∙ ap (λ z. d ∷ z ∷ c ∷ []) k ∙ ap (λ z. d ∷ e ∷ z ∷ []) l

-- three numbers between three others, with the weights w and v
abbrev pub mixed : List ℤ → List ℤ → ℤ → ℤ → List ℤ
mixed p q w v = (w *ℤ at p 0 +ℤ v *ℤ at q 0) ∷ (w *ℤ at p 1 +ℤ v *ℤ at q 1) ∷ (w *ℤ at p 2 +ℤ v *ℤ at q 2) ∷ []

-- w^2 a + 2 w v b + v^2 c
abbrev pub blend : ℤ → ℤ → ℤ → ℤ → ℤ → ℤ
blend w v a b c = ((w *ℤ w) *ℤ a +ℤ (pos 2 *ℤ (w *ℤ v)) *ℤ b) +ℤ (v *ℤ v) *ℤ c

abbrev pub blended : ℤ → ℤ → List ℤ → List ℤ → List ℤ → List ℤ
blended w v d e g = blend w v (at d 0) (at e 0) (at g 0) ∷ blend w v (at d 1) (at e 1) (at g 1) ∷ blend w v (at d 2) (at e 2) (at g 2) ∷ []

-- terms
abbrev mix_term : (ℕ → Term) → (ℕ → Term) → Term → Term → ℕ → Term
mix_term p q w v k = add (mul w (p k)) (mul v (q k))

abbrev blend_term : Term → Term → Term → Term → Term → Term
blend_term w v a b c = add (add (mul (mul w w) a) (mul (mul (num (pos 2)) (mul w v)) b)) (mul (mul v v) c)

abbrev cross_term : (ℕ → Term) → (ℕ → Term) → (ℕ → Term) → (ℕ → Term) → ℕ → Term
cross_term p q a c k = add (mul (p k) (c k)) (mul (q k) (a k))

abbrev crosses : (ℕ → Term) → (ℕ → Term) → (ℕ → Term) → (ℕ → Term) → Term
crosses p q a c = add (add (cross_term p q a c 0) (cross_term p q a c 1)) (cross_term p q a c 2)

abbrev scaled : Term → (ℕ → Term) → ℕ → Term
scaled f a k = mul f (a k)

abbrev conv : (ℕ → Term) → (ℕ → Term) → ℕ → Term
conv a b zero = mul (a 0) (b 0)
conv a b (suc zero) = add (mul (a 0) (b 1)) (mul (a 1) (b 0))
conv a b (suc (suc zero)) = add (add (mul (a 0) (b 2)) (mul (a 1) (b 1))) (mul (a 2) (b 0))
conv a b (suc (suc (suc zero))) = add (mul (a 1) (b 2)) (mul (a 2) (b 1))
conv a b (suc (suc (suc (suc k)))) = mul (a 2) (b 2)

-- scalar products on a stretch: of what is between two, and of what is scaled
dot_mixed : (p p' q q' a c : List ℤ) (w v : ℤ) → dot_on_cell (mixed p p' w v) (mixed q q' w v) a c ≡ mixed (dot_on_cell p q a c) (dot_on_cell p' q' a c) w v
dot_mixed p p' q q' a c w v =
    let e = at p 0 ∷ at p 1 ∷ at p 2 ∷ at p' 0 ∷ at p' 1 ∷ at p' 2 ∷ at q 0 ∷ at q 1 ∷ at q 2 ∷ at q' 0 ∷ at q' 1 ∷ at q' 2 ∷ at a 0 ∷ at a 1 ∷ at a 2 ∷ at c 0 ∷ at c 1 ∷ at c 2 ∷ w ∷ v ∷ [] in
    let W = var 18 in let V = var 19 in
    let P = mix_term (from 0) (from 3) W V in let Q = mix_term (from 6) (from 9) W V in
    same3 _ _ _ _ _ _
    (ring e (dots P (from 12)) (add (mul W (dots (from 0) (from 12))) (mul V (dots (from 3) (from 12)))) refl)
    (ring e (crosses P Q (from 12) (from 15)) (add (mul W (crosses (from 0) (from 6) (from 12) (from 15))) (mul V (crosses (from 3) (from 9) (from 12) (from 15)))) refl)
    (ring e (dots Q (from 15)) (add (mul W (dots (from 6) (from 15))) (mul V (dots (from 9) (from 15)))) refl)

dot_scaled : (s : ℤ) (p q a c : List ℤ) → dot_on_cell (scaled2 s p) (scaled2 s q) a c ≡ scaled2 s (dot_on_cell p q a c)
dot_scaled s p q a c =
    let e = at p 0 ∷ at p 1 ∷ at p 2 ∷ at q 0 ∷ at q 1 ∷ at q 2 ∷ at a 0 ∷ at a 1 ∷ at a 2 ∷ at c 0 ∷ at c 1 ∷ at c 2 ∷ s ∷ [] in
    let S = var 12 in
    same3 _ _ _ _ _ _
    (ring e (dots (scaled S (from 0)) (from 6)) (mul S (dots (from 0) (from 6))) refl)
    (ring e (crosses (scaled S (from 0)) (scaled S (from 3)) (from 6) (from 9)) (mul S (crosses (from 0) (from 3) (from 6) (from 9))) refl)
    (ring e (dots (scaled S (from 3)) (from 9)) (mul S (dots (from 3) (from 9))) refl)

square_mixed : (p p' q q' : List ℤ) (w v : ℤ) → dot_on_cell (mixed p p' w v) (mixed q q' w v) (mixed p p' w v) (mixed q q' w v)
    ≡ blended w v (dot_on_cell p q p q) (dot_on_cell p q p' q') (dot_on_cell p' q' p' q')
square_mixed p p' q q' w v =
    let e = at p 0 ∷ at p 1 ∷ at p 2 ∷ at p' 0 ∷ at p' 1 ∷ at p' 2 ∷ at q 0 ∷ at q 1 ∷ at q 2 ∷ at q' 0 ∷ at q' 1 ∷ at q' 2 ∷ w ∷ v ∷ [] in
    let W = var 12 in let V = var 13 in
    let P = mix_term (from 0) (from 3) W V in let Q = mix_term (from 6) (from 9) W V in
    same3 _ _ _ _ _ _
    (ring e (dots P P) (blend_term W V (dots (from 0) (from 0)) (dots (from 0) (from 3)) (dots (from 3) (from 3))) refl)
    (ring e (crosses P Q P Q) (blend_term W V (crosses (from 0) (from 6) (from 0) (from 6)) (crosses (from 0) (from 6) (from 3) (from 9)) (crosses (from 3) (from 9) (from 3) (from 9))) refl)
    (ring e (dots Q Q) (blend_term W V (dots (from 6) (from 6)) (dots (from 6) (from 9)) (dots (from 9) (from 9))) refl)

square_scaled : (s : ℤ) (p q : List ℤ) → dot_on_cell (scaled2 s p) (scaled2 s q) (scaled2 s p) (scaled2 s q) ≡ scaled2 (s *ℤ s) (dot_on_cell p q p q)
square_scaled s p q =
    let e = at p 0 ∷ at p 1 ∷ at p 2 ∷ at q 0 ∷ at q 1 ∷ at q 2 ∷ s ∷ [] in
    let S = var 6 in let P = scaled S (from 0) in let Q = scaled S (from 3) in
    same3 _ _ _ _ _ _
    (ring e (dots P P) (mul (mul S S) (dots (from 0) (from 0))) refl)
    (ring e (crosses P Q P Q) (mul (mul S S) (crosses (from 0) (from 3) (from 0) (from 3))) refl)
    (ring e (dots Q Q) (mul (mul S S) (dots (from 3) (from 3))) refl)

-- a point between two others: w + v times the point is w times the one and v times the other
pub record IsAlong (p q r : List ℤ) (w v : ℕ) : Type 0 where
  pub place : 0 < v + w
  pub x : (pos w +ℤ pos v) *ℤ at r 0 ≡ pos w *ℤ at p 0 +ℤ pos v *ℤ at q 0
  pub y : (pos w +ℤ pos v) *ℤ at r 1 ≡ pos w *ℤ at p 1 +ℤ pos v *ℤ at q 1
  pub z : (pos w +ℤ pos v) *ℤ at r 2 ≡ pos w *ℤ at p 2 +ℤ pos v *ℤ at q 2

offset_along : (w v S r p q b : ℤ) → (w +ℤ v) *ℤ r ≡ w *ℤ p +ℤ v *ℤ q → (w +ℤ v) *ℤ (S *ℤ r -ℤ b) ≡ w *ℤ (S *ℤ p -ℤ b) +ℤ v *ℤ (S *ℤ q -ℤ b)
offset_along w v S r p q b h =
    let W = var 0 in let V = var 1 in let X = var 2 in let B = var 3 in let R = var 4 in let Q = var 5 in
    let before : (w +ℤ v) *ℤ (S *ℤ r -ℤ b) ≡ S *ℤ ((w +ℤ v) *ℤ r) -ℤ (w +ℤ v) *ℤ b =
    ring (w ∷ v ∷ S ∷ b ∷ r ∷ []) (mul (add W V) (sub (mul X R) B)) (sub (mul X (mul (add W V) R)) (mul (add W V) B)) refl in
    let after : S *ℤ (w *ℤ p +ℤ v *ℤ q) -ℤ (w +ℤ v) *ℤ b ≡ w *ℤ (S *ℤ p -ℤ b) +ℤ v *ℤ (S *ℤ q -ℤ b) =
    ring (w ∷ v ∷ S ∷ b ∷ p ∷ q ∷ []) (sub (mul X (add (mul W R) (mul V Q))) (mul (add W V) B)) (add (mul W (sub (mul X R) B)) (mul V (sub (mul X Q) B))) refl in
    before ∙ ap (λ z. S *ℤ z -ℤ (w +ℤ v) *ℤ b) h ∙ after

offset_mixed : (m : SweepOf) (p q r : List ℤ) (w v k S : ℕ) → IsAlong p q r w v
    → scaled2 (pos w +ℤ pos v) (offset_at m r (pos k) (pos S)) ≡ mixed (offset_at m p (pos k) (pos S)) (offset_at m q (pos k) (pos S)) (pos w) (pos v)
offset_mixed m p q r w v k S h =
    let b = λ (i : ℕ). between (pos k) (pos S) (at m.from i) (at m.to i) in
    same3 _ _ _ _ _ _
    (offset_along (pos w) (pos v) (pos S) (at r 0) (at p 0) (at q 0) (b 0) h.x)
    (offset_along (pos w) (pos v) (pos S) (at r 1) (at p 1) (at q 1) (b 1) h.y)
    (offset_along (pos w) (pos v) (pos S) (at r 2) (at p 2) (at q 2) (b 2) h.z)

-- u and d of the point
pub u_mixed : (m : SweepOf) (p q r : List ℤ) (w v j k S : ℕ) → IsAlong p q r w v → (let a = axis_at m (pos j) (pos S) in let c = axis_at m (pos k) (pos S) in
    scaled2 (pos w +ℤ pos v) (dot_on_cell (offset_at m r (pos j) (pos S)) (offset_at m r (pos k) (pos S)) a c)
    ≡ mixed (dot_on_cell (offset_at m p (pos j) (pos S)) (offset_at m p (pos k) (pos S)) a c) (dot_on_cell (offset_at m q (pos j) (pos S)) (offset_at m q (pos k) (pos S)) a c) (pos w) (pos v))
u_mixed m p q r w v j k S h =
    let at_j = λ (x : List ℤ). offset_at m x (pos j) (pos S) in let at_k = λ (x : List ℤ). offset_at m x (pos k) (pos S) in
    let a = axis_at m (pos j) (pos S) in let c = axis_at m (pos k) (pos S) in
    sym (dot_scaled (pos w +ℤ pos v) (at_j r) (at_k r) a c)
    ∙ ap₂ (λ x y. dot_on_cell x y a c) (offset_mixed m p q r w v j S h) (offset_mixed m p q r w v k S h)
    ∙ dot_mixed (at_j p) (at_j q) (at_k p) (at_k q) a c (pos w) (pos v)

pub d_mixed : (m : SweepOf) (p q r : List ℤ) (w v j k S : ℕ) → IsAlong p q r w v
    → (let P = offset_at m p (pos j) (pos S) in let P' = offset_at m p (pos k) (pos S) in let Q = offset_at m q (pos j) (pos S) in let Q' = offset_at m q (pos k) (pos S) in
    let R = offset_at m r (pos j) (pos S) in let R' = offset_at m r (pos k) (pos S) in
    scaled2 ((pos w +ℤ pos v) *ℤ (pos w +ℤ pos v)) (dot_on_cell R R' R R') ≡ blended (pos w) (pos v) (dot_on_cell P P' P P') (dot_on_cell P P' Q Q') (dot_on_cell Q Q' Q Q'))
d_mixed m p q r w v j k S h =
    let at_j = λ (x : List ℤ). offset_at m x (pos j) (pos S) in let at_k = λ (x : List ℤ). offset_at m x (pos k) (pos S) in
    sym (square_scaled (pos w +ℤ pos v) (at_j r) (at_k r))
    ∙ ap₂ (λ x y. dot_on_cell x y x y) (offset_mixed m p q r w v j S h) (offset_mixed m p q r w v k S h)
    ∙ square_mixed (at_j p) (at_j q) (at_k p) (at_k q) (pos w) (pos v)

-- products of degree 4, coefficient by coefficient
product_scaled : (s : ℤ) (u : List ℤ) (k : ℕ) → k < 5 → at (product22 (scaled2 s u) (scaled2 s u)) k ≡ (s *ℤ s) *ℤ at (product22 u u) k
product_scaled s u zero l = ring (at u 0 ∷ at u 1 ∷ at u 2 ∷ s ∷ []) (conv (scaled (var 3) (from 0)) (scaled (var 3) (from 0)) 0) (mul (mul (var 3) (var 3)) (conv (from 0) (from 0) 0)) refl
product_scaled s u (suc zero) l = ring (at u 0 ∷ at u 1 ∷ at u 2 ∷ s ∷ []) (conv (scaled (var 3) (from 0)) (scaled (var 3) (from 0)) 1) (mul (mul (var 3) (var 3)) (conv (from 0) (from 0) 1)) refl
product_scaled s u (suc (suc zero)) l = ring (at u 0 ∷ at u 1 ∷ at u 2 ∷ s ∷ []) (conv (scaled (var 3) (from 0)) (scaled (var 3) (from 0)) 2) (mul (mul (var 3) (var 3)) (conv (from 0) (from 0) 2)) refl
product_scaled s u (suc (suc (suc zero))) l = ring (at u 0 ∷ at u 1 ∷ at u 2 ∷ s ∷ []) (conv (scaled (var 3) (from 0)) (scaled (var 3) (from 0)) 3) (mul (mul (var 3) (var 3)) (conv (from 0) (from 0) 3)) refl
product_scaled s u (suc (suc (suc (suc zero)))) l = ring (at u 0 ∷ at u 1 ∷ at u 2 ∷ s ∷ []) (conv (scaled (var 3) (from 0)) (scaled (var 3) (from 0)) 4) (mul (mul (var 3) (var 3)) (conv (from 0) (from 0) 4)) refl
product_scaled s u (suc (suc (suc (suc (suc k))))) l = absurd (omega arith)

abbrev eight : List ℤ → List ℤ → ℤ → ℤ → List ℤ
eight u v w z = at u 0 ∷ at u 1 ∷ at u 2 ∷ at v 0 ∷ at v 1 ∷ at v 2 ∷ w ∷ z ∷ []

abbrev left2 : ℕ → Term
left2 k = let M = mix_term (from 0) (from 3) (var 6) (var 7) in conv M M k

abbrev right2 : ℕ → Term
right2 k = blend_term (var 6) (var 7) (conv (from 0) (from 0) k) (conv (from 0) (from 3) k) (conv (from 3) (from 3) k)

product_mixed : (u v : List ℤ) (w z : ℤ) (k : ℕ) → k < 5 → at (product22 (mixed u v w z) (mixed u v w z)) k ≡ blend w z (at (product22 u u) k) (at (product22 u v) k) (at (product22 v v) k)
product_mixed u v w z zero l = ring (eight u v w z) (left2 0) (right2 0) refl
product_mixed u v w z (suc zero) l = ring (eight u v w z) (left2 1) (right2 1) refl
product_mixed u v w z (suc (suc zero)) l = ring (eight u v w z) (left2 2) (right2 2) refl
product_mixed u v w z (suc (suc (suc zero))) l = ring (eight u v w z) (left2 3) (right2 3) refl
product_mixed u v w z (suc (suc (suc (suc zero)))) l = ring (eight u v w z) (left2 4) (right2 4) refl
product_mixed u v w z (suc (suc (suc (suc (suc k))))) l = absurd (omega arith)

abbrev seven : List ℤ → List ℤ → ℤ → List ℤ
seven d n s = at d 0 ∷ at d 1 ∷ at d 2 ∷ at n 0 ∷ at n 1 ∷ at n 2 ∷ s ∷ []

other_scaled : (s : ℤ) (d n : List ℤ) (k : ℕ) → k < 5 → at (product22 (scaled2 s d) n) k ≡ s *ℤ at (product22 d n) k
other_scaled s d n zero l = ring (seven d n s) (conv (scaled (var 6) (from 0)) (from 3) 0) (mul (var 6) (conv (from 0) (from 3) 0)) refl
other_scaled s d n (suc zero) l = ring (seven d n s) (conv (scaled (var 6) (from 0)) (from 3) 1) (mul (var 6) (conv (from 0) (from 3) 1)) refl
other_scaled s d n (suc (suc zero)) l = ring (seven d n s) (conv (scaled (var 6) (from 0)) (from 3) 2) (mul (var 6) (conv (from 0) (from 3) 2)) refl
other_scaled s d n (suc (suc (suc zero))) l = ring (seven d n s) (conv (scaled (var 6) (from 0)) (from 3) 3) (mul (var 6) (conv (from 0) (from 3) 3)) refl
other_scaled s d n (suc (suc (suc (suc zero)))) l = ring (seven d n s) (conv (scaled (var 6) (from 0)) (from 3) 4) (mul (var 6) (conv (from 0) (from 3) 4)) refl
other_scaled s d n (suc (suc (suc (suc (suc k))))) l = absurd (omega arith)

abbrev fourteen : List ℤ → List ℤ → List ℤ → List ℤ → ℤ → ℤ → List ℤ
fourteen d e g n w v = at d 0 ∷ at d 1 ∷ at d 2 ∷ at e 0 ∷ at e 1 ∷ at e 2 ∷ at g 0 ∷ at g 1 ∷ at g 2 ∷ at n 0 ∷ at n 1 ∷ at n 2 ∷ w ∷ v ∷ []

abbrev left3 : ℕ → Term
left3 k = conv (λ i. blend_term (var 12) (var 13) (from 0 i) (from 3 i) (from 6 i)) (from 9) k

abbrev right3 : ℕ → Term
right3 k = blend_term (var 12) (var 13) (conv (from 0) (from 9) k) (conv (from 3) (from 9) k) (conv (from 6) (from 9) k)

other_blended : (d e g n : List ℤ) (w v : ℤ) (k : ℕ) → k < 5 → at (product22 (blended w v d e g) n) k ≡ blend w v (at (product22 d n) k) (at (product22 e n) k) (at (product22 g n) k)
other_blended d e g n w v zero l = ring (fourteen d e g n w v) (left3 0) (right3 0) refl
other_blended d e g n w v (suc zero) l = ring (fourteen d e g n w v) (left3 1) (right3 1) refl
other_blended d e g n w v (suc (suc zero)) l = ring (fourteen d e g n w v) (left3 2) (right3 2) refl
other_blended d e g n w v (suc (suc (suc zero))) l = ring (fourteen d e g n w v) (left3 3) (right3 3) refl
other_blended d e g n w v (suc (suc (suc (suc zero)))) l = ring (fourteen d e g n w v) (left3 4) (right3 4) refl
other_blended d e g n w v (suc (suc (suc (suc (suc k))))) l = absurd (omega arith)

pub squares_along : (w v : ℤ) (u u' r : List ℤ) (k : ℕ) → k < 5 → scaled2 (w +ℤ v) r ≡ mixed u u' w v
    → ((w +ℤ v) *ℤ (w +ℤ v)) *ℤ at (product22 r r) k ≡ blend w v (at (product22 u u) k) (at (product22 u u') k) (at (product22 u' u') k)
squares_along w v u u' r k l e = sym (product_scaled (w +ℤ v) r k l) ∙ ap (λ x. at (product22 x x) k) e ∙ product_mixed u u' w v k l

pub both_along : (w v : ℤ) (d e g r n : List ℤ) (k : ℕ) → k < 5 → scaled2 ((w +ℤ v) *ℤ (w +ℤ v)) r ≡ blended w v d e g
    → ((w +ℤ v) *ℤ (w +ℤ v)) *ℤ at (product22 r n) k ≡ blend w v (at (product22 d n) k) (at (product22 e n) k) (at (product22 g n) k)
both_along w v d e g r n k l h = sym (other_scaled ((w +ℤ v) *ℤ (w +ℤ v)) r n k l) ∙ ap (λ x. at (product22 x n) k) h ∙ other_blended d e g n w v k l

-- a row of a grid stands for the point's coefficient
pub row_height : (w v a b c f x : ℤ) → ((w +ℤ v) *ℤ (w +ℤ v)) *ℤ x ≡ blend w v a b c
    → ((w +ℤ v) *ℤ (w +ℤ v)) *ℤ (x -ℤ f) ≡ value2 ((a -ℤ f) ∷ (pos 2 *ℤ b -ℤ pos 2 *ℤ f) ∷ (c -ℤ f) ∷ []) v w
row_height w v a b c f x h =
    let W = var 0 in let V = var 1 in let F = var 2 in let X = var 3 in let B = var 4 in let C = var 5 in let S = mul (add W V) (add W V) in
    let before : ((w +ℤ v) *ℤ (w +ℤ v)) *ℤ (x -ℤ f) ≡ ((w +ℤ v) *ℤ (w +ℤ v)) *ℤ x -ℤ ((w +ℤ v) *ℤ (w +ℤ v)) *ℤ f =
    ring (w ∷ v ∷ f ∷ x ∷ []) (mul S (sub X F)) (sub (mul S X) (mul S F)) refl in
    let after : blend w v a b c -ℤ ((w +ℤ v) *ℤ (w +ℤ v)) *ℤ f ≡ value2 ((a -ℤ f) ∷ (pos 2 *ℤ b -ℤ pos 2 *ℤ f) ∷ (c -ℤ f) ∷ []) v w =
    ring (w ∷ v ∷ f ∷ a ∷ b ∷ c ∷ []) (sub (blend_term W V X B C) (mul S F))
    (add (add (mul (sub X F) (mul W W)) (mul (sub (mul (num (pos 2)) B) (mul (num (pos 2)) F)) (mul V W))) (mul (sub C F) (mul V V))) refl in
    before ∙ ap (λ z. z -ℤ ((w +ℤ v) *ℤ (w +ℤ v)) *ℤ f) h ∙ after

pub row_width : (w v a b c a' b' c' f x y : ℤ) → ((w +ℤ v) *ℤ (w +ℤ v)) *ℤ x ≡ blend w v a b c → ((w +ℤ v) *ℤ (w +ℤ v)) *ℤ y ≡ blend w v a' b' c'
    → ((w +ℤ v) *ℤ (w +ℤ v)) *ℤ (pos 4 *ℤ (x -ℤ y) -ℤ f)
    ≡ value2 ((pos 4 *ℤ (a -ℤ a') -ℤ f) ∷ (pos 8 *ℤ (b -ℤ b') -ℤ pos 2 *ℤ f) ∷ (pos 4 *ℤ (c -ℤ c') -ℤ f) ∷ []) v w
row_width w v a b c a' b' c' f x y h k =
    let W = var 0 in let V = var 1 in let F = var 2 in let A = var 3 in let B = var 4 in let C = var 5 in let A' = var 6 in let B' = var 7 in let C' = var 8 in let S = mul (add W V) (add W V) in
    let four = λ (t : Term). mul (num (pos 4)) t in let two = λ (t : Term). mul (num (pos 2)) t in
    let before : ((w +ℤ v) *ℤ (w +ℤ v)) *ℤ (pos 4 *ℤ (x -ℤ y) -ℤ f) ≡ pos 4 *ℤ (((w +ℤ v) *ℤ (w +ℤ v)) *ℤ x -ℤ ((w +ℤ v) *ℤ (w +ℤ v)) *ℤ y) -ℤ ((w +ℤ v) *ℤ (w +ℤ v)) *ℤ f =
    ring (w ∷ v ∷ f ∷ x ∷ y ∷ []) (mul S (sub (four (sub A B)) F)) (sub (four (sub (mul S A) (mul S B))) (mul S F)) refl in
    let after : pos 4 *ℤ (blend w v a b c -ℤ blend w v a' b' c') -ℤ ((w +ℤ v) *ℤ (w +ℤ v)) *ℤ f
    ≡ value2 ((pos 4 *ℤ (a -ℤ a') -ℤ f) ∷ (pos 8 *ℤ (b -ℤ b') -ℤ pos 2 *ℤ f) ∷ (pos 4 *ℤ (c -ℤ c') -ℤ f) ∷ []) v w =
    ring (w ∷ v ∷ f ∷ a ∷ b ∷ c ∷ a' ∷ b' ∷ c' ∷ []) (sub (four (sub (blend_term W V A B C) (blend_term W V A' B' C'))) (mul S F))
    (add (add (mul (sub (four (sub A A')) F) (mul W W)) (mul (sub (mul (num (pos 8)) (sub B B')) (two F)) (mul V W))) (mul (sub (four (sub C C')) F) (mul V V))) refl in
    before ∙ ap₂ (λ z t. pos 4 *ℤ (z -ℤ t) -ℤ ((w +ℤ v) *ℤ (w +ℤ v)) *ℤ f) h k ∙ after
