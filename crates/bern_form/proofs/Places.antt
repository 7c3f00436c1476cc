-- The forms of a cell at a time inside it: with x = a S - k b and y = (k + 1) b - a S the time a / b lies at the place
-- x / (x + y) of cell k, and each form has there its quantity at that time, times a power of S.
use Rattle.std.proofs.Common.{◌≡◌, ℕ, [], ◌∷◌, List, ℤ, pos, ◌+ℤ◌, ◌*ℤ◌, ◌-ℤ◌, refl, ap, ◌∙◌}
use Rattle.space.specs.Vectors.{at, dot, spread}
use Rattle.bern_form.specs.Forms.{value2, value4, product22, lifted, scaled2, scaled4, difference4}
use Rattle.space.specs.Sweeps.{SweepOf, between, offset, offset_at, axis_at}
use Rattle.bern_form.specs.Cells.{dot_on_cell, start_offset, end_offset, start_axis, end_axis, u_list, n_list, d_list, scaled_square, along_list, across_list}
use Rattle.space.proofs.Solver.{Term, var, num, add, mul, ring}
use Rattle.space.proofs.Terms.{sub, dots, from}
use Rattle.bern_form.proofs.Forms.{product22_is, lifted_is, scaled2_is, scaled4_is, difference4_is}

-- the vector between two ends, with the weights y and x
abbrev pub mixed : List ℤ → List ℤ → ℤ → ℤ → List ℤ
mixed p q x y = (y *ℤ at p 0 +ℤ x *ℤ at q 0) ∷ (y *ℤ at p 1 +ℤ x *ℤ at q 1) ∷ (y *ℤ at p 2 +ℤ x *ℤ at q 2) ∷ []

-- a dot_on_cell list stands for the scalar product of the vectors between the ends
pub dot_on_cell_is : (p q a c : List ℤ) (x y : ℤ) → value2 (dot_on_cell p q a c) x y ≡ dot (mixed p q x y) (mixed a c x y)
dot_on_cell_is p q a c x y =
    let X = var 12 in let Y = var 13 in
    let P = from 0 in let Q = from 3 in let A = from 6 in let C = from 9 in
    ring (at p 0 ∷ at p 1 ∷ at p 2 ∷ at q 0 ∷ at q 1 ∷ at q 2 ∷ at a 0 ∷ at a 1 ∷ at a 2 ∷ at c 0 ∷ at c 1 ∷ at c 2 ∷ x ∷ y ∷ [])
    (add (add (mul (dots P A) (mul Y Y))
    (mul (add (add (add (mul (P 0) (C 0)) (mul (Q 0) (A 0))) (add (mul (P 1) (C 1)) (mul (Q 1) (A 1)))) (add (mul (P 2) (C 2)) (mul (Q 2) (A 2)))) (mul X Y)))
    (mul (dots Q C) (mul X X)))
    (dots (λ k. add (mul Y (P k)) (mul X (Q k))) (λ k. add (mul Y (A k)) (mul X (C k)))) refl

-- between the ends of a cell lies S times what lies between the ends of the move
between_place : (S k a b f t : ℤ)
    → ((k +ℤ pos 1) *ℤ b -ℤ a *ℤ S) *ℤ between k S f t +ℤ (a *ℤ S -ℤ k *ℤ b) *ℤ between (k +ℤ pos 1) S f t ≡ S *ℤ between a b f t
between_place S k a b f t =
    let S' = var 0 in let k' = var 1 in let a' = var 2 in let b' = var 3 in let f' = var 4 in let t' = var 5 in
    let next = add k' (num (pos 1)) in
    let at_end = λ (e : Term). add (mul (sub S' e) f') (mul e t') in
    ring (S ∷ k ∷ a ∷ b ∷ f ∷ t ∷ [])
    (add (mul (sub (mul next b') (mul a' S')) (at_end k')) (mul (sub (mul a' S') (mul k' b')) (at_end next)))
    (mul S' (add (mul (sub b' a') f') (mul a' t'))) refl

offset_place : (S k a b p f t : ℤ)
    → ((k +ℤ pos 1) *ℤ b -ℤ a *ℤ S) *ℤ offset k S p f t +ℤ (a *ℤ S -ℤ k *ℤ b) *ℤ offset (k +ℤ pos 1) S p f t ≡ S *ℤ offset a b p f t
offset_place S k a b p f t =
    let S' = var 0 in let k' = var 1 in let a' = var 2 in let b' = var 3 in let p' = var 4 in let f' = var 5 in let t' = var 6 in
    let next = add k' (num (pos 1)) in
    let at_end = λ (e : Term). sub (mul S' p') (add (mul (sub S' e) f') (mul e t')) in
    ring (S ∷ k ∷ a ∷ b ∷ p ∷ f ∷ t ∷ [])
    (add (mul (sub (mul next b') (mul a' S')) (at_end k')) (mul (sub (mul a' S') (mul k' b')) (at_end next)))
    (mul S' (sub (mul b' p') (add (mul (sub b' a') f') (mul a' t')))) refl

-- the scalar product of two vectors that are S times others
dot_scaled : (S p q r a b c P Q R A B C : ℤ) → P ≡ S *ℤ p → Q ≡ S *ℤ q → R ≡ S *ℤ r → A ≡ S *ℤ a → B ≡ S *ℤ b → C ≡ S *ℤ c
    → (P *ℤ A +ℤ Q *ℤ B) +ℤ R *ℤ C ≡ (S *ℤ S) *ℤ ((p *ℤ a +ℤ q *ℤ b) +ℤ r *ℤ c)
dot_scaled S p q r a b c P Q R A B C e1 e2 e3 e4 e5 e6 =
    let s = var 0 in
    let known : ((S *ℤ p) *ℤ (S *ℤ a) +ℤ (S *ℤ q) *ℤ (S *ℤ b)) +ℤ (S *ℤ r) *ℤ (S *ℤ c) ≡ (S *ℤ S) *ℤ ((p *ℤ a +ℤ q *ℤ b) +ℤ r *ℤ c) =
    ring (S ∷ p ∷ q ∷ r ∷ a ∷ b ∷ c ∷ []) (dots (λ k. mul s (from 1 k)) (λ k. mul s (from 4 k))) (mul (mul s s) (dots (from 1) (from 4))) refl in
    cc

-- the weights of the time a / b on cell k, and their sum
abbrev pub late : ℕ → ℕ → ℕ → ℕ → ℤ
late S k a b = pos a *ℤ pos S -ℤ pos k *ℤ pos b

abbrev pub early : ℕ → ℕ → ℕ → ℕ → ℤ
early S k a b = (pos k +ℤ pos 1) *ℤ pos b -ℤ pos a *ℤ pos S

weights : (S k a b : ℤ) → (a *ℤ S -ℤ k *ℤ b) +ℤ ((k +ℤ pos 1) *ℤ b -ℤ a *ℤ S) ≡ b
weights S k a b =
    let S' = var 0 in let k' = var 1 in let a' = var 2 in let b' = var 3 in
    ring (S ∷ k ∷ a ∷ b ∷ []) (add (sub (mul a' S') (mul k' b')) (sub (mul (add k' (num (pos 1))) b') (mul a' S'))) b' refl

-- u, N and D at the time a / b, times the square of S
pub u_place : (m : SweepOf) (p : List ℤ) (k S a b : ℕ)
    → value2 (u_list m p k S) (late S k a b) (early S k a b) ≡ (pos S *ℤ pos S) *ℤ dot (offset_at m p (pos a) (pos b)) (axis_at m (pos a) (pos b))
u_place m p k S a b =
    let x = late S k a b in let y = early S k a b in
    let P = offset_at m p (pos a) (pos b) in let A = axis_at m (pos a) (pos b) in
    let M = mixed (start_offset m p k S) (end_offset m p k S) x y in let B = mixed (start_axis m k S) (end_axis m k S) x y in
    let o = λ (i : ℕ). offset_place (pos S) (pos k) (pos a) (pos b) (at p i) (at m.from i) (at m.to i) in
    let e = λ (i : ℕ). between_place (pos S) (pos k) (pos a) (pos b) (at m.axis_from i) (at m.axis_to i) in
    dot_on_cell_is (start_offset m p k S) (end_offset m p k S) (start_axis m k S) (end_axis m k S) x y
    ∙ dot_scaled (pos S) (at P 0) (at P 1) (at P 2) (at A 0) (at A 1) (at A 2) (at M 0) (at M 1) (at M 2) (at B 0) (at B 1) (at B 2) (o 0) (o 1) (o 2) (e 0) (e 1) (e 2)

pub n_place : (m : SweepOf) (k S a b : ℕ)
    → value2 (n_list m k S) (late S k a b) (early S k a b) ≡ (pos S *ℤ pos S) *ℤ dot (axis_at m (pos a) (pos b)) (axis_at m (pos a) (pos b))
n_place m k S a b =
    let x = late S k a b in let y = early S k a b in
    let A = axis_at m (pos a) (pos b) in
    let B = mixed (start_axis m k S) (end_axis m k S) x y in
    let e = λ (i : ℕ). between_place (pos S) (pos k) (pos a) (pos b) (at m.axis_from i) (at m.axis_to i) in
    dot_on_cell_is (start_axis m k S) (end_axis m k S) (start_axis m k S) (end_axis m k S) x y
    ∙ dot_scaled (pos S) (at A 0) (at A 1) (at A 2) (at A 0) (at A 1) (at A 2) (at B 0) (at B 1) (at B 2) (at B 0) (at B 1) (at B 2) (e 0) (e 1) (e 2) (e 0) (e 1) (e 2)

pub d_place : (m : SweepOf) (p : List ℤ) (k S a b : ℕ)
    → value2 (d_list m p k S) (late S k a b) (early S k a b)
    ≡ (pos S *ℤ pos S) *ℤ dot (offset_at m p (pos a) (pos b)) (offset_at m p (pos a) (pos b))
d_place m p k S a b =
    let x = late S k a b in let y = early S k a b in
    let P = offset_at m p (pos a) (pos b) in
    let M = mixed (start_offset m p k S) (end_offset m p k S) x y in
    let o = λ (i : ℕ). offset_place (pos S) (pos k) (pos a) (pos b) (at p i) (at m.from i) (at m.to i) in
    dot_on_cell_is (start_offset m p k S) (end_offset m p k S) (start_offset m p k S) (end_offset m p k S) x y
    ∙ dot_scaled (pos S) (at P 0) (at P 1) (at P 2) (at P 0) (at P 1) (at P 2) (at M 0) (at M 1) (at M 2) (at M 0) (at M 1) (at M 2) (o 0) (o 1) (o 2) (o 0) (o 1) (o 2)

-- what the lists of degree 4 stand for, from those of degree 2
raised_is : (s : ℤ) (n : List ℤ) (x y : ℤ) → value4 (lifted (scaled2 s n)) x y ≡ (s *ℤ value2 n x y) *ℤ ((x +ℤ y) *ℤ (x +ℤ y))
raised_is s n x y = lifted_is (scaled2 s n) x y ∙ ap (λ z. z *ℤ ((x +ℤ y) *ℤ (x +ℤ y))) (scaled2_is s n x y)

along_is : (s : ℤ) (u n : List ℤ) (x y : ℤ)
    → value4 (difference4 (product22 u u) (lifted (scaled2 s n))) x y ≡ value2 u x y *ℤ value2 u x y -ℤ (s *ℤ value2 n x y) *ℤ ((x +ℤ y) *ℤ (x +ℤ y))
along_is s u n x y =
    difference4_is (product22 u u) (lifted (scaled2 s n)) x y
    ∙ ap (λ z. z -ℤ value4 (lifted (scaled2 s n)) x y) (product22_is u u x y) ∙ ap (λ z. value2 u x y *ℤ value2 u x y -ℤ z) (raised_is s n x y)

w_is : (d n u : List ℤ) (x y : ℤ)
    → value4 (scaled4 (pos 4) (difference4 (product22 d n) (product22 u u))) x y ≡ pos 4 *ℤ (value2 d x y *ℤ value2 n x y -ℤ value2 u x y *ℤ value2 u x y)
w_is d n u x y =
    scaled4_is (pos 4) (difference4 (product22 d n) (product22 u u)) x y
    ∙ ap (λ z. pos 4 *ℤ z) (difference4_is (product22 d n) (product22 u u) x y
    ∙ ap (λ z. z -ℤ value4 (product22 u u) x y) (product22_is d n x y) ∙ ap (λ z. value2 d x y *ℤ value2 n x y -ℤ z) (product22_is u u x y))

across_is : (s : ℤ) (d n u : List ℤ) (x y : ℤ)
    → value4 (difference4 (scaled4 (pos 4) (difference4 (product22 d n) (product22 u u))) (lifted (scaled2 s n))) x y
    ≡ pos 4 *ℤ (value2 d x y *ℤ value2 n x y -ℤ value2 u x y *ℤ value2 u x y) -ℤ (s *ℤ value2 n x y) *ℤ ((x +ℤ y) *ℤ (x +ℤ y))
across_is s d n u x y =
    let w = scaled4 (pos 4) (difference4 (product22 d n) (product22 u u)) in
    difference4_is w (lifted (scaled2 s n)) x y
    ∙ ap (λ z. z -ℤ value4 (lifted (scaled2 s n)) x y) (w_is d n u x y)
    ∙ ap (λ z. pos 4 *ℤ (value2 d x y *ℤ value2 n x y -ℤ value2 u x y *ℤ value2 u x y) -ℤ z) (raised_is s n x y)

along_scaled : (S b z u n U N w : ℤ) → U ≡ (S *ℤ S) *ℤ u → N ≡ (S *ℤ S) *ℤ n → w ≡ b
    → U *ℤ U -ℤ (((S *ℤ z) *ℤ (S *ℤ z)) *ℤ N) *ℤ (w *ℤ w) ≡ ((S *ℤ S) *ℤ (S *ℤ S)) *ℤ (u *ℤ u -ℤ ((b *ℤ z) *ℤ (b *ℤ z)) *ℤ n)
along_scaled S b z u n U N w e1 e2 e3 =
    let s = var 0 in let b' = var 1 in let z' = var 2 in let u' = mul (mul s s) (var 3) in let n' = mul (mul s s) (var 4) in
    let known : ((S *ℤ S) *ℤ u) *ℤ ((S *ℤ S) *ℤ u) -ℤ (((S *ℤ z) *ℤ (S *ℤ z)) *ℤ ((S *ℤ S) *ℤ n)) *ℤ (b *ℤ b) ≡ ((S *ℤ S) *ℤ (S *ℤ S)) *ℤ (u *ℤ u -ℤ ((b *ℤ z) *ℤ (b *ℤ z)) *ℤ n) =
    ring (S ∷ b ∷ z ∷ u ∷ n ∷ [])
    (sub (mul u' u') (mul (mul (mul (mul s z') (mul s z')) n') (mul b' b')))
    (mul (mul (mul s s) (mul s s)) (sub (mul (var 3) (var 3)) (mul (mul (mul b' z') (mul b' z')) (var 4)))) refl in
    cc

across_scaled : (S b z d n u D N U w : ℤ) → D ≡ (S *ℤ S) *ℤ d → N ≡ (S *ℤ S) *ℤ n → U ≡ (S *ℤ S) *ℤ u → w ≡ b
    → pos 4 *ℤ (D *ℤ N -ℤ U *ℤ U) -ℤ (((S *ℤ z) *ℤ (S *ℤ z)) *ℤ N) *ℤ (w *ℤ w)
    ≡ ((S *ℤ S) *ℤ (S *ℤ S)) *ℤ (pos 4 *ℤ (d *ℤ n -ℤ u *ℤ u) -ℤ ((b *ℤ z) *ℤ (b *ℤ z)) *ℤ n)
across_scaled S b z d n u D N U w e1 e2 e3 e4 =
    let s = var 0 in let b' = var 1 in let z' = var 2 in let d' = mul (mul s s) (var 3) in let n' = mul (mul s s) (var 4) in let u' = mul (mul s s) (var 5) in
    let four = num (pos 4) in
    let known : pos 4 *ℤ (((S *ℤ S) *ℤ d) *ℤ ((S *ℤ S) *ℤ n) -ℤ ((S *ℤ S) *ℤ u) *ℤ ((S *ℤ S) *ℤ u)) -ℤ (((S *ℤ z) *ℤ (S *ℤ z)) *ℤ ((S *ℤ S) *ℤ n)) *ℤ (b *ℤ b)
    ≡ ((S *ℤ S) *ℤ (S *ℤ S)) *ℤ (pos 4 *ℤ (d *ℤ n -ℤ u *ℤ u) -ℤ ((b *ℤ z) *ℤ (b *ℤ z)) *ℤ n) =
    ring (S ∷ b ∷ z ∷ d ∷ n ∷ u ∷ [])
    (sub (mul four (sub (mul d' n') (mul u' u'))) (mul (mul (mul (mul s z') (mul s z')) n') (mul b' b')))
    (mul (mul (mul s s) (mul s s)) (sub (mul four (sub (mul (var 3) (var 4)) (mul (var 5) (var 5)))) (mul (mul (mul b' z') (mul b' z')) (var 4)))) refl in
    cc

-- u^2 - z^2 N and 4 W - dia^2 N at the time a / b, lengths times b, times the fourth power of S
pub along_place : (m : SweepOf) (p : List ℤ) (k S a b : ℕ) (z : ℤ)
    → value4 (along_list m p k S z) (late S k a b) (early S k a b)
    ≡ ((pos S *ℤ pos S) *ℤ (pos S *ℤ pos S))
    *ℤ (dot (offset_at m p (pos a) (pos b)) (axis_at m (pos a) (pos b)) *ℤ dot (offset_at m p (pos a) (pos b)) (axis_at m (pos a) (pos b))
    -ℤ ((pos b *ℤ z) *ℤ (pos b *ℤ z)) *ℤ dot (axis_at m (pos a) (pos b)) (axis_at m (pos a) (pos b)))
along_place m p k S a b z =
    let x = late S k a b in let y = early S k a b in
    let u = u_list m p k S in let n = n_list m k S in
    let P = offset_at m p (pos a) (pos b) in let A = axis_at m (pos a) (pos b) in
    along_is (scaled_square S z) u n x y
    ∙ along_scaled (pos S) (pos b) z (dot P A) (dot A A) (value2 u x y) (value2 n x y) (x +ℤ y) (u_place m p k S a b) (n_place m k S a b) (weights (pos S) (pos k) (pos a) (pos b))

pub across_place : (m : SweepOf) (p : List ℤ) (k S a b : ℕ) (z : ℤ)
    → value4 (across_list m p k S z) (late S k a b) (early S k a b)
    ≡ ((pos S *ℤ pos S) *ℤ (pos S *ℤ pos S))
    *ℤ (pos 4 *ℤ spread (offset_at m p (pos a) (pos b)) (axis_at m (pos a) (pos b)) -ℤ ((pos b *ℤ z) *ℤ (pos b *ℤ z)) *ℤ dot (axis_at m (pos a) (pos b)) (axis_at m (pos a) (pos b)))
across_place m p k S a b z =
    let x = late S k a b in let y = early S k a b in
    let u = u_list m p k S in let n = n_list m k S in let d = d_list m p k S in
    let P = offset_at m p (pos a) (pos b) in let A = axis_at m (pos a) (pos b) in
    across_is (scaled_square S z) d n u x y
    ∙ across_scaled (pos S) (pos b) z (dot P P) (dot A A) (dot P A) (value2 d x y) (value2 n x y) (value2 u x y) (x +ℤ y)
    (d_place m p k S a b) (n_place m k S a b) (u_place m p k S a b) (weights (pos S) (pos k) (pos a) (pos b))
