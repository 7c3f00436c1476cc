-- The forms on a cell of a stretch, however many cells that has: offsets and axes are linear in time, so they are sums of the forms on the
-- stretch.
use Rattle.std.proofs.Common.{◌≡◌, ℕ, zero, suc, ◌+◌, ◌<◌, [], ◌∷◌, List, ℤ, pos, ◌+ℤ◌, ◌*ℤ◌, ◌-ℤ◌, arith, refl, sym, ap, ◌∙◌}
use Rattle.space.specs.Vectors.{at}
use Rattle.space.proofs.Solver.{Term, var, num, add, mul, ring}
use Rattle.space.proofs.Terms.{dots, from, sub}
use Rattle.bern_form.specs.Cells.{dot_on_cell}
use Rattle.bern_form.specs.Forms.{lifted, product22, scaled2}
use Rattle.moment_forms.specs.Moments.{middle_moment, moment, moment_product, vector_product}
use Rattle.moment_forms.proofs.Fives.{each_of_five}
use Rattle.moment_forms.proofs.Lagrange.{cell, conv}

same3 : (a b c d e f : ℤ) → a ≡ d → b ≡ e → c ≡ f → a ∷ b ∷ c ∷ [] ≡ d ∷ e ∷ f ∷ []
same3 a b c d e f h k l = λ i. h i ∷ k i ∷ l i ∷ []

-- The squares and the product of two forms of degree 1: the weights w and x of a stretch's first end at both ends of a cell, and those of
-- its last end, v and y.
abbrev pub squared : ℤ → ℤ → List ℤ
squared w x = (w *ℤ w) ∷ (pos 2 *ℤ (w *ℤ x)) ∷ (x *ℤ x) ∷ []

abbrev pub crossed : ℤ → ℤ → ℤ → ℤ → List ℤ
crossed w v x y = (w *ℤ v) ∷ (w *ℤ y +ℤ v *ℤ x) ∷ (x *ℤ y) ∷ []

-- a form of degree 2 on the cell, by its coefficients on the stretch
abbrev pub mean2 : ℤ → ℤ → ℤ → ℤ → List ℤ → ℕ → ℤ
mean2 w v x y c k = (at (squared w x) k *ℤ at c 0 +ℤ at (crossed w v x y) k *ℤ at c 1) +ℤ at (squared v y) k *ℤ at c 2

abbrev part2 : ℤ → ℤ → ℤ → ℤ → List ℤ → List ℤ
part2 w v x y c = mean2 w v x y c 0 ∷ mean2 w v x y c 1 ∷ mean2 w v x y c 2 ∷ []

-- and one of degree 4
abbrev pub weight : ℤ → ℤ → ℤ → ℤ → ℕ → ℕ → ℤ
weight w v x y k zero = at (product22 (squared w x) (squared w x)) k
weight w v x y k (suc zero) = at (product22 (squared w x) (crossed w v x y)) k
weight w v x y k (suc (suc zero)) = at (product22 (crossed w v x y) (crossed w v x y)) k
weight w v x y k (suc (suc (suc zero))) = at (product22 (crossed w v x y) (squared v y)) k
weight w v x y k (suc (suc (suc (suc i)))) = at (product22 (squared v y) (squared v y)) k

abbrev pub summed : (ℕ → ℤ) → (ℕ → ℤ) → ℤ
summed m c = (((m 0 *ℤ c 0 +ℤ m 1 *ℤ c 1) +ℤ m 2 *ℤ c 2) +ℤ m 3 *ℤ c 3) +ℤ m 4 *ℤ c 4

-- terms
abbrev squares : Term → Term → ℕ → Term
squares w x zero = mul w w
squares w x (suc zero) = mul (num (pos 2)) (mul w x)
squares w x (suc (suc k)) = mul x x

abbrev crosses : Term → Term → Term → Term → ℕ → Term
crosses w v x y zero = mul w v
crosses w v x y (suc zero) = add (mul w y) (mul v x)
crosses w v x y (suc (suc k)) = mul x y

abbrev means : Term → Term → Term → Term → (ℕ → Term) → ℕ → Term
means w v x y c k = add (add (mul (squares w x k) (c 0)) (mul (crosses w v x y k) (c 1))) (mul (squares v y k) (c 2))

abbrev weighed : Term → Term → Term → Term → (ℕ → Term) → ℕ → Term
weighed w v x y c k =
    let s = squares w x in let b = crosses w v x y in let t = squares v y in
    add (add (add (add (mul (conv s s k) (c 0)) (mul (conv s b k) (c 1))) (mul (conv b b k) (c 2))) (mul (conv b t k) (c 3))) (mul (conv t t k) (c 4))

abbrev scaled : Term → (ℕ → Term) → ℕ → Term
scaled s a k = mul s (a k)

-- products of degree 4, coefficient by coefficient
abbrev ten : List ℤ → List ℤ → ℤ → ℤ → ℤ → ℤ → List ℤ
ten a b w v x y = at a 0 ∷ at a 1 ∷ at a 2 ∷ at b 0 ∷ at b 1 ∷ at b 2 ∷ w ∷ v ∷ x ∷ y ∷ []

abbrev left_part : ℕ → Term
left_part k = conv (means (var 6) (var 7) (var 8) (var 9) (from 0)) (means (var 6) (var 7) (var 8) (var 9) (from 3)) k

abbrev right_part : ℕ → Term
right_part k = weighed (var 6) (var 7) (var 8) (var 9) (conv (from 0) (from 3)) k

product_part : (a b : List ℤ) (w v x y : ℤ) (k : ℕ) → k < 5 → at (product22 (part2 w v x y a) (part2 w v x y b)) k ≡ summed (weight w v x y k) (at (product22 a b))
product_part a b w v x y =
    let e = ten a b w v x y in
    each_of_five (λ k. at (product22 (part2 w v x y a) (part2 w v x y b)) k ≡ summed (weight w v x y k) (at (product22 a b)))
    (ring e (left_part 0) (right_part 0) refl) (ring e (left_part 1) (right_part 1) refl) (ring e (left_part 2) (right_part 2) refl)
    (ring e (left_part 3) (right_part 3) refl) (ring e (left_part 4) (right_part 4) refl)

abbrev seven : List ℤ → List ℤ → ℤ → List ℤ
seven a b s = at a 0 ∷ at a 1 ∷ at a 2 ∷ at b 0 ∷ at b 1 ∷ at b 2 ∷ s ∷ []

abbrev left_scaled : ℕ → Term
left_scaled k = mul (mul (var 6) (var 6)) (conv (from 0) (from 3) k)

abbrev right_scaled : ℕ → Term
right_scaled k = conv (scaled (var 6) (from 0)) (scaled (var 6) (from 3)) k

product_scaled : (s : ℤ) (a b : List ℤ) (k : ℕ) → k < 5 → (s *ℤ s) *ℤ at (product22 a b) k ≡ at (product22 (scaled2 s a) (scaled2 s b)) k
product_scaled s a b =
    let e = seven a b s in
    each_of_five (λ k. (s *ℤ s) *ℤ at (product22 a b) k ≡ at (product22 (scaled2 s a) (scaled2 s b)) k)
    (ring e (left_scaled 0) (right_scaled 0) refl) (ring e (left_scaled 1) (right_scaled 1) refl) (ring e (left_scaled 2) (right_scaled 2) refl)
    (ring e (left_scaled 3) (right_scaled 3) refl) (ring e (left_scaled 4) (right_scaled 4) refl)

-- s times the form A of a cell is the part of the stretch's form a
abbrev pub IsPart : ℤ → ℤ → ℤ → ℤ → ℤ → List ℤ → List ℤ → Type 0
IsPart s w v x y a A = scaled2 s A ≡ part2 w v x y a

product_of_parts : (s w v x y : ℤ) (a b A B : List ℤ) (k : ℕ) → k < 5 → IsPart s w v x y a A → IsPart s w v x y b B
    → (s *ℤ s) *ℤ at (product22 A B) k ≡ summed (weight w v x y k) (at (product22 a b))
product_of_parts s w v x y a b A B k l ea eb = product_scaled s A B k l ∙ (λ i. at (product22 (ea i) (eb i)) k) ∙ product_part a b w v x y k l

-- A vector at a sample of a cell: s times it is a weighted sum of those at both ends of the stretch.
pub record IsMixed (s w v : ℤ) (p q r : List ℤ) : Type 0 where
  pub x : s *ℤ at r 0 ≡ w *ℤ at p 0 +ℤ v *ℤ at q 0
  pub y : s *ℤ at r 1 ≡ w *ℤ at p 1 +ℤ v *ℤ at q 1
  pub z : s *ℤ at r 2 ≡ w *ℤ at p 2 +ℤ v *ℤ at q 2

-- at both samples of a cell
pub record AreMixed (s w v x y : ℤ) (p q P Q : List ℤ) : Type 0 where
  pub start : IsMixed s w v p q P
  pub end : IsMixed s x y p q Q

-- scalar products
abbrev mix : Term → Term → (ℕ → Term) → (ℕ → Term) → ℕ → Term
mix w v p q k = add (mul w (p k)) (mul v (q k))

abbrev thirteen : List ℤ → List ℤ → List ℤ → List ℤ → ℤ → List ℤ
thirteen p q a c s = at p 0 ∷ at p 1 ∷ at p 2 ∷ at q 0 ∷ at q 1 ∷ at q 2 ∷ at a 0 ∷ at a 1 ∷ at a 2 ∷ at c 0 ∷ at c 1 ∷ at c 2 ∷ s ∷ []

dot_scaled : (s : ℤ) (p q a c : List ℤ) → scaled2 (s *ℤ s) (dot_on_cell p q a c) ≡ dot_on_cell (scaled2 s p) (scaled2 s q) (scaled2 s a) (scaled2 s c)
dot_scaled s p q a c =
    let e = thirteen p q a c s in let S = var 12 in let t = λ (n : ℕ). scaled S (from n) in
    let left = λ (k : ℕ). mul (mul S S) (cell (from 0) (from 3) (from 6) (from 9) k) in let right = cell (t 0) (t 3) (t 6) (t 9) in
    same3 _ _ _ _ _ _ (ring e (left 0) (right 0) refl) (ring e (left 1) (right 1) refl) (ring e (left 2) (right 2) refl)

abbrev mixture : ℤ → ℤ → List ℤ → List ℤ → List ℤ
mixture w v p q = (w *ℤ at p 0 +ℤ v *ℤ at q 0) ∷ (w *ℤ at p 1 +ℤ v *ℤ at q 1) ∷ (w *ℤ at p 2 +ℤ v *ℤ at q 2) ∷ []

dot_mixed : (p q a c : List ℤ) (w v x y : ℤ) → dot_on_cell (mixture w v p q) (mixture x y p q) (mixture w v a c) (mixture x y a c) ≡ part2 w v x y (dot_on_cell p q a c)
dot_mixed p q a c w v x y =
    let e = at p 0 ∷ at p 1 ∷ at p 2 ∷ at q 0 ∷ at q 1 ∷ at q 2 ∷ at a 0 ∷ at a 1 ∷ at a 2 ∷ at c 0 ∷ at c 1 ∷ at c 2 ∷ w ∷ v ∷ x ∷ y ∷ [] in
    let W = var 12 in let V = var 13 in let X = var 14 in let Y = var 15 in
    let left = cell (mix W V (from 0) (from 3)) (mix X Y (from 0) (from 3)) (mix W V (from 6) (from 9)) (mix X Y (from 6) (from 9)) in
    let right = means W V X Y (cell (from 0) (from 3) (from 6) (from 9)) in
    same3 _ _ _ _ _ _ (ring e (left 0) (right 0) refl) (ring e (left 1) (right 1) refl) (ring e (left 2) (right 2) refl)

mixed_is : (s w v : ℤ) (p q r : List ℤ) → IsMixed s w v p q r → scaled2 s r ≡ mixture w v p q
mixed_is s w v p q r h = same3 _ _ _ _ _ _ h.x h.y h.z

pub dot_part : (s w v x y : ℤ) (p q a c P Q A C : List ℤ) → AreMixed s w v x y p q P Q → AreMixed s w v x y a c A C
    → IsPart (s *ℤ s) w v x y (dot_on_cell p q a c) (dot_on_cell P Q A C)
dot_part s w v x y p q a c P Q A C h k =
    dot_scaled s P Q A C
    ∙ (λ i. dot_on_cell (mixed_is s w v p q P h.start i) (mixed_is s x y p q Q h.end i) (mixed_is s w v a c A k.start i) (mixed_is s x y a c C k.end i))
    ∙ dot_mixed p q a c w v x y

-- a component of the moment, by two components of the offsets and of the axes
abbrev turning : ℤ → ℤ → ℤ → ℤ → ℤ → ℤ → ℤ → ℤ → List ℤ
turning p p' q q' a a' c c' = (p *ℤ a' -ℤ p' *ℤ a) ∷ ((p *ℤ c' -ℤ p' *ℤ c) +ℤ (q *ℤ a' -ℤ q' *ℤ a)) ∷ (q *ℤ c' -ℤ q' *ℤ c) ∷ []

abbrev minor : Term → Term → Term → Term → Term
minor p p' a a' = sub (mul p a') (mul p' a)

abbrev turns : Term → Term → Term → Term → Term → Term → Term → Term → ℕ → Term
turns p p' q q' a a' c c' zero = minor p p' a a'
turns p p' q q' a a' c c' (suc zero) = add (minor p p' c c') (minor q q' a a')
turns p p' q q' a a' c c' (suc (suc k)) = minor q q' c c'

turn_scaled : (s p p' q q' a a' c c' : ℤ) → scaled2 (s *ℤ s) (turning p p' q q' a a' c c')
    ≡ turning (s *ℤ p) (s *ℤ p') (s *ℤ q) (s *ℤ q') (s *ℤ a) (s *ℤ a') (s *ℤ c) (s *ℤ c')
turn_scaled s p p' q q' a a' c c' =
    let e = p ∷ p' ∷ q ∷ q' ∷ a ∷ a' ∷ c ∷ c' ∷ s ∷ [] in let S = var 8 in let t = λ (n : ℕ). mul S (var n) in
    let left = λ (k : ℕ). mul (mul S S) (turns (var 0) (var 1) (var 2) (var 3) (var 4) (var 5) (var 6) (var 7) k) in
    let right = turns (t 0) (t 1) (t 2) (t 3) (t 4) (t 5) (t 6) (t 7) in
    same3 _ _ _ _ _ _ (ring e (left 0) (right 0) refl) (ring e (left 1) (right 1) refl) (ring e (left 2) (right 2) refl)

turn_mixed : (w v x y p p' q q' a a' c c' : ℤ) → turning (w *ℤ p +ℤ v *ℤ q) (w *ℤ p' +ℤ v *ℤ q') (x *ℤ p +ℤ y *ℤ q) (x *ℤ p' +ℤ y *ℤ q')
    (w *ℤ a +ℤ v *ℤ c) (w *ℤ a' +ℤ v *ℤ c') (x *ℤ a +ℤ y *ℤ c) (x *ℤ a' +ℤ y *ℤ c')
    ≡ part2 w v x y (turning p p' q q' a a' c c')
turn_mixed w v x y p p' q q' a a' c c' =
    let e = p ∷ p' ∷ q ∷ q' ∷ a ∷ a' ∷ c ∷ c' ∷ w ∷ v ∷ x ∷ y ∷ [] in let W = var 8 in let V = var 9 in let X = var 10 in let Y = var 11 in
    let one = λ (n k : ℕ). add (mul W (var n)) (mul V (var k)) in let two = λ (n k : ℕ). add (mul X (var n)) (mul Y (var k)) in
    let left = turns (one 0 2) (one 1 3) (two 0 2) (two 1 3) (one 4 6) (one 5 7) (two 4 6) (two 5 7) in
    let right = means W V X Y (turns (var 0) (var 1) (var 2) (var 3) (var 4) (var 5) (var 6) (var 7)) in
    same3 _ _ _ _ _ _ (ring e (left 0) (right 0) refl) (ring e (left 1) (right 1) refl) (ring e (left 2) (right 2) refl)

turn_part : (s w v x y p p' q q' a a' c c' P P' Q Q' A A' C C' : ℤ) → s *ℤ P ≡ w *ℤ p +ℤ v *ℤ q → s *ℤ P' ≡ w *ℤ p' +ℤ v *ℤ q'
    → s *ℤ Q ≡ x *ℤ p +ℤ y *ℤ q → s *ℤ Q' ≡ x *ℤ p' +ℤ y *ℤ q' → s *ℤ A ≡ w *ℤ a +ℤ v *ℤ c → s *ℤ A' ≡ w *ℤ a' +ℤ v *ℤ c'
    → s *ℤ C ≡ x *ℤ a +ℤ y *ℤ c → s *ℤ C' ≡ x *ℤ a' +ℤ y *ℤ c'
    → IsPart (s *ℤ s) w v x y (turning p p' q q' a a' c c') (turning P P' Q Q' A A' C C')
turn_part s w v x y p p' q q' a a' c c' P P' Q Q' A A' C C' e0 e1 e2 e3 e4 e5 e6 e7 =
    turn_scaled s P P' Q Q' A A' C C' ∙ (λ i. turning (e0 i) (e1 i) (e2 i) (e3 i) (e4 i) (e5 i) (e6 i) (e7 i)) ∙ turn_mixed w v x y p p' q q' a a' c c'

abbrev turn_x : List ℤ → List ℤ → List ℤ → List ℤ → List ℤ
turn_x p q a c = turning (at p 1) (at p 2) (at q 1) (at q 2) (at a 1) (at a 2) (at c 1) (at c 2)

abbrev turn_y : List ℤ → List ℤ → List ℤ → List ℤ → List ℤ
turn_y p q a c = turning (at p 2) (at p 0) (at q 2) (at q 0) (at a 2) (at a 0) (at c 2) (at c 0)

abbrev turn_z : List ℤ → List ℤ → List ℤ → List ℤ → List ℤ
turn_z p q a c = turning (at p 0) (at p 1) (at q 0) (at q 1) (at a 0) (at a 1) (at c 0) (at c 1)

pub record AreTurned (s w v x y : ℤ) (p q a c P Q A C : List ℤ) : Type 0 where
  pub about_x : IsPart s w v x y (turn_x p q a c) (turn_x P Q A C)
  pub about_y : IsPart s w v x y (turn_y p q a c) (turn_y P Q A C)
  pub about_z : IsPart s w v x y (turn_z p q a c) (turn_z P Q A C)

pub turn_parts : (s w v x y : ℤ) (p q a c P Q A C : List ℤ) → AreMixed s w v x y p q P Q → AreMixed s w v x y a c A C → AreTurned (s *ℤ s) w v x y p q a c P Q A C
turn_parts s w v x y p q a c P Q A C h k = record {
  about_x = turn_part s w v x y _ _ _ _ _ _ _ _ _ _ _ _ _ _ _ _ h.start.y h.start.z h.end.y h.end.z k.start.y k.start.z k.end.y k.end.z;
  about_y = turn_part s w v x y _ _ _ _ _ _ _ _ _ _ _ _ _ _ _ _ h.start.z h.start.x h.end.z h.end.x k.start.z k.start.x k.end.z k.end.x;
  about_z = turn_part s w v x y _ _ _ _ _ _ _ _ _ _ _ _ _ _ _ _ h.start.x h.start.y h.end.x h.end.y k.start.x k.start.y k.end.x k.end.y;
}

-- the scalar product of two moments, by their components
abbrev eighteen : List ℤ → List ℤ → List ℤ → List ℤ → List ℤ → List ℤ → List ℤ
eighteen x0 x1 x2 y0 y1 y2 =
    at x0 0 ∷ at x0 1 ∷ at x0 2 ∷ at x1 0 ∷ at x1 1 ∷ at x1 2 ∷ at x2 0 ∷ at x2 1 ∷ at x2 2
    ∷ at y0 0 ∷ at y0 1 ∷ at y0 2 ∷ at y1 0 ∷ at y1 1 ∷ at y1 2 ∷ at y2 0 ∷ at y2 1 ∷ at y2 2 ∷ []

abbrev whole : ℕ → Term
whole zero = dots (from 0) (from 9)
whole (suc zero) = add (dots (from 0) (from 12)) (dots (from 3) (from 9))
whole (suc (suc zero)) = add (add (dots (from 0) (from 15)) (dots (from 3) (from 12))) (dots (from 6) (from 9))
whole (suc (suc (suc zero))) = add (dots (from 3) (from 15)) (dots (from 6) (from 12))
whole (suc (suc (suc (suc k)))) = dots (from 6) (from 15)

abbrev component : ℕ → ℕ → ℕ → Term
component n i zero = var (n + i)
component n i (suc zero) = var (n + 3 + i)
component n i (suc (suc k)) = var (n + 6 + i)

abbrev by_components : ℕ → Term
by_components k = add (add (conv (component 0 0) (component 9 0) k) (conv (component 0 1) (component 9 1) k)) (conv (component 0 2) (component 9 2) k)

abbrev component_of : List ℤ → List ℤ → List ℤ → ℕ → List ℤ
component_of a b c i = at a i ∷ at b i ∷ at c i ∷ []

abbrev three_products : List ℤ → List ℤ → List ℤ → List ℤ → List ℤ → List ℤ → ℕ → ℤ
three_products a b c d e f k = (at (product22 a b) k +ℤ at (product22 c d) k) +ℤ at (product22 e f) k

vector_is : (x0 x1 x2 y0 y1 y2 : List ℤ) (k : ℕ) → k < 5 → at (vector_product x0 x1 x2 y0 y1 y2) k
    ≡ three_products (component_of x0 x1 x2 0) (component_of y0 y1 y2 0) (component_of x0 x1 x2 1) (component_of y0 y1 y2 1) (component_of x0 x1 x2 2) (component_of y0 y1 y2 2) k
vector_is x0 x1 x2 y0 y1 y2 =
    let e = eighteen x0 x1 x2 y0 y1 y2 in
    each_of_five (λ k. at (vector_product x0 x1 x2 y0 y1 y2) k
    ≡ three_products (component_of x0 x1 x2 0) (component_of y0 y1 y2 0) (component_of x0 x1 x2 1) (component_of y0 y1 y2 1) (component_of x0 x1 x2 2) (component_of y0 y1 y2 2) k)
    (ring e (whole 0) (by_components 0) refl) (ring e (whole 1) (by_components 1) refl) (ring e (whole 2) (by_components 2) refl)
    (ring e (whole 3) (by_components 3) refl) (ring e (whole 4) (by_components 4) refl)

moment_is : (p p' q q' a c : List ℤ) (k : ℕ) → k < 5 → at (moment_product p p' q q' a c) k
    ≡ three_products (turn_x p p' a c) (turn_x q q' a c) (turn_y p p' a c) (turn_y q q' a c) (turn_z p p' a c) (turn_z q q' a c) k
moment_is p p' q q' a c k l = vector_is (moment p a) (middle_moment p p' a c) (moment p' c) (moment q a) (middle_moment q q' a c) (moment q' c) k l

thrice : (s a b c : ℤ) → s *ℤ ((a +ℤ b) +ℤ c) ≡ (s *ℤ a +ℤ s *ℤ b) +ℤ s *ℤ c
thrice s a b c = ring (s ∷ a ∷ b ∷ c ∷ []) (mul (var 0) (add (add (var 1) (var 2)) (var 3))) (add (add (mul (var 0) (var 1)) (mul (var 0) (var 2))) (mul (var 0) (var 3))) refl

summed_same : (m c d : ℕ → ℤ) → ((k : ℕ) → k < 5 → c k ≡ d k) → summed m c ≡ summed m d
summed_same m c d h =
    λ i. (((m 0 *ℤ h 0 (omega arith) i +ℤ m 1 *ℤ h 1 (omega arith) i) +ℤ m 2 *ℤ h 2 (omega arith) i) +ℤ m 3 *ℤ h 3 (omega arith) i) +ℤ m 4 *ℤ h 4 (omega arith) i

summed_thrice : (m a b c : ℕ → ℤ) → (summed m a +ℤ summed m b) +ℤ summed m c ≡ summed m (λ k. (a k +ℤ b k) +ℤ c k)
summed_thrice m a b c =
    let e = m 0 ∷ m 1 ∷ m 2 ∷ m 3 ∷ m 4 ∷ a 0 ∷ a 1 ∷ a 2 ∷ a 3 ∷ a 4 ∷ b 0 ∷ b 1 ∷ b 2 ∷ b 3 ∷ b 4 ∷ c 0 ∷ c 1 ∷ c 2 ∷ c 3 ∷ c 4 ∷ [] in
    let sum = λ (t : ℕ → Term). add (add (add (add (mul (var 0) (t 0)) (mul (var 1) (t 1))) (mul (var 2) (t 2))) (mul (var 3) (t 3))) (mul (var 4) (t 4)) in
    ring e (add (add (sum (from 5)) (sum (from 10))) (sum (from 15))) (sum (λ k. add (add (from 5 k) (from 10 k)) (from 15 k))) refl

pub moment_part : (s w v x y : ℤ) (p p' q q' a c P P' Q Q' A C : List ℤ) (k : ℕ) → k < 5 → AreTurned s w v x y p p' a c P P' A C → AreTurned s w v x y q q' a c Q Q' A C
    → (s *ℤ s) *ℤ at (moment_product P P' Q Q' A C) k ≡ summed (weight w v x y k) (at (moment_product p p' q q' a c))
moment_part s w v x y p p' q q' a c P P' Q Q' A C k l f g =
    let m = weight w v x y k in
    let ex = product_of_parts s w v x y (turn_x p p' a c) (turn_x q q' a c) (turn_x P P' A C) (turn_x Q Q' A C) k l f.about_x g.about_x in
    let ey = product_of_parts s w v x y (turn_y p p' a c) (turn_y q q' a c) (turn_y P P' A C) (turn_y Q Q' A C) k l f.about_y g.about_y in
    let ez = product_of_parts s w v x y (turn_z p p' a c) (turn_z q q' a c) (turn_z P P' A C) (turn_z Q Q' A C) k l f.about_z g.about_z in
    ap (λ z. (s *ℤ s) *ℤ z) (moment_is P P' Q Q' A C k l) ∙ thrice (s *ℤ s) _ _ _ ∙ (λ i. (ex i +ℤ ey i) +ℤ ez i)
    ∙ summed_thrice m (at (product22 (turn_x p p' a c) (turn_x q q' a c))) (at (product22 (turn_y p p' a c) (turn_y q q' a c))) (at (product22 (turn_z p p' a c) (turn_z q q' a c)))
    ∙ summed_same m _ _ (λ i h. sym (moment_is p p' q q' a c i h))

-- the squared length of the axis, raised
abbrev ones : ℕ → Term
ones zero = num (pos 1)
ones (suc zero) = num (pos 2)
ones (suc (suc k)) = num (pos 1)

ones_part : (s w v x y : ℤ) → s ≡ w +ℤ v → s ≡ x +ℤ y → IsPart (s *ℤ s) w v x y (pos 1 ∷ pos 2 ∷ pos 1 ∷ []) (pos 1 ∷ pos 2 ∷ pos 1 ∷ [])
ones_part s w v x y h k =
    let e = w ∷ v ∷ x ∷ y ∷ [] in let W = add (var 0) (var 1) in let X = add (var 2) (var 3) in
    let right = means (var 0) (var 1) (var 2) (var 3) ones in
    same3 _ _ _ _ _ _
    ((λ i. (h i *ℤ h i) *ℤ pos 1) ∙ ring e (mul (mul W W) (ones 0)) (right 0) refl)
    ((λ i. (h i *ℤ k i) *ℤ pos 2) ∙ ring e (mul (mul W X) (ones 1)) (right 1) refl)
    ((λ i. (k i *ℤ k i) *ℤ pos 1) ∙ ring e (mul (mul X X) (ones 2)) (right 2) refl)

pub raised_part : (s w v x y : ℤ) (n N : List ℤ) (k : ℕ) → k < 5 → s ≡ w +ℤ v → s ≡ x +ℤ y → IsPart (s *ℤ s) w v x y n N
    → ((s *ℤ s) *ℤ (s *ℤ s)) *ℤ at (lifted N) k ≡ summed (weight w v x y k) (at (lifted n))
raised_part s w v x y n N k l h j e = product_of_parts (s *ℤ s) w v x y n (pos 1 ∷ pos 2 ∷ pos 1 ∷ []) N (pos 1 ∷ pos 2 ∷ pos 1 ∷ []) k l e (ones_part s w v x y h j)
