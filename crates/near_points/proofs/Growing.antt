-- The square of the moment of the points of a ray is a quadratic in their index, and the height is linear in it.
use Rattle.std.proofs.Common.{◌≡◌, ℕ, zero, suc, ◌+◌, ◌-◌, ◌*◌, ◌<◌, ◌≤◌, [], ◌∷◌, ℤ, pos, negsuc, ◌+ℤ◌, ◌*ℤ◌, ◌-ℤ◌, ◌≤ℤ◌, ◌<ℤ◌, unsigned_abs, arith, refl, ap, ap₂, subst, ◌∙◌}
use Rattle.std.proofs.lemmas.Int.{ints}
use Rattle.std.proofs.Math.Nat.{mul-le-mul}
use borrow.Author.Differences.{abs_is}
use Rattle.space.proofs.Solver.{Term, var, num, add, mul, ring}
use Rattle.space.proofs.Terms.{sub, square}
use Rattle.space.proofs.Naturals.{abs_add, abs_mul, square_not_negative}
use Rattle.near_points.specs.declared.axis_offset.AxisOffset.{AxisOffset}
use Rattle.near_points.specs.declared.ray_step.RayStep.{RayStep}
use Rattle.near_points.specs.Limits.{moment_limit}
use Rattle.near_points.specs.Lines.{FitsAfter, second_at, third_at, width_at}

-- what the square of the moment grows by to the next point
abbrev pub growth_at : AxisOffset → RayStep → ℤ → ℤ
growth_at s t l = (t.second *ℤ t.second +ℤ t.third *ℤ t.third) +ℤ pos 2 *ℤ (second_at s t l *ℤ t.second +ℤ third_at s t l *ℤ t.third)

-- the terms of both
abbrev width_term : Term → Term → Term → Term
width_term a p q = add (add (square a) (square p)) (square q)

abbrev growth_term : Term → Term → Term → Term → Term
growth_term p q b d = add (add (square b) (square d)) (mul (num (pos 2)) (add (mul p b) (mul q d)))

pub width_next : (s : AxisOffset) (t : RayStep) (l : ℤ) → width_at s t l +ℤ growth_at s t l ≡ width_at s t (l +ℤ pos 1)
width_next s t l =
    let A = var 0 in let P = var 1 in let Q = var 2 in let B = var 3 in let D = var 4 in let L = var 5 in
    let p = add P (mul L B) in let q = add Q (mul L D) in let n = add L (num (pos 1)) in
    ring (s.along ∷ s.second ∷ s.third ∷ t.second ∷ t.third ∷ l ∷ []) (add (width_term A p q) (growth_term p q B D)) (width_term A (add P (mul n B)) (add Q (mul n D))) refl

pub growth_next : (s : AxisOffset) (t : RayStep) (l : ℤ) → growth_at s t l +ℤ pos 2 *ℤ (t.second *ℤ t.second +ℤ t.third *ℤ t.third) ≡ growth_at s t (l +ℤ pos 1)
growth_next s t l =
    let P = var 0 in let Q = var 1 in let B = var 2 in let D = var 3 in let L = var 4 in let n = add L (num (pos 1)) in
    ring (s.second ∷ s.third ∷ t.second ∷ t.third ∷ l ∷ []) (add (growth_term (add P (mul L B)) (add Q (mul L D)) B D) (mul (num (pos 2)) (add (square B) (square D))))
    (growth_term (add P (mul n B)) (add Q (mul n D)) B D) refl

-- what the square grows by to the point before
abbrev pub back_at : AxisOffset → RayStep → ℤ → ℤ
back_at s t l = (t.second *ℤ t.second +ℤ t.third *ℤ t.third) -ℤ pos 2 *ℤ (second_at s t l *ℤ t.second +ℤ third_at s t l *ℤ t.third)

abbrev back_term : Term → Term → Term → Term → Term
back_term p q b d = sub (add (square b) (square d)) (mul (num (pos 2)) (add (mul p b) (mul q d)))

pub width_back : (s : AxisOffset) (t : RayStep) (l : ℤ) → width_at s t l +ℤ back_at s t l ≡ width_at s t (l -ℤ pos 1)
width_back s t l =
    let A = var 0 in let P = var 1 in let Q = var 2 in let B = var 3 in let D = var 4 in let L = var 5 in
    let p = add P (mul L B) in let q = add Q (mul L D) in let n = sub L (num (pos 1)) in
    ring (s.along ∷ s.second ∷ s.third ∷ t.second ∷ t.third ∷ l ∷ []) (add (width_term A p q) (back_term p q B D)) (width_term A (add P (mul n B)) (add Q (mul n D))) refl

pub back_next : (s : AxisOffset) (t : RayStep) (l : ℤ) → back_at s t l +ℤ pos 2 *ℤ (t.second *ℤ t.second +ℤ t.third *ℤ t.third) ≡ back_at s t (l -ℤ pos 1)
back_next s t l =
    let P = var 0 in let Q = var 1 in let B = var 2 in let D = var 3 in let L = var 4 in let n = sub L (num (pos 1)) in
    ring (s.second ∷ s.third ∷ t.second ∷ t.third ∷ l ∷ []) (add (back_term (add P (mul L B)) (add Q (mul L D)) B D) (mul (num (pos 2)) (add (square B) (square D))))
    (back_term (add P (mul n B)) (add Q (mul n D)) B D) refl

-- the quadratic n steps on
grown : (a p q b d n : ℤ)
    → (a *ℤ a +ℤ (p +ℤ n *ℤ b) *ℤ (p +ℤ n *ℤ b)) +ℤ (q +ℤ n *ℤ d) *ℤ (q +ℤ n *ℤ d)
    ≡ (((a *ℤ a +ℤ p *ℤ p) +ℤ q *ℤ q) +ℤ n *ℤ ((b *ℤ b +ℤ d *ℤ d) +ℤ pos 2 *ℤ (p *ℤ b +ℤ q *ℤ d))) +ℤ (n *ℤ (n -ℤ pos 1)) *ℤ (b *ℤ b +ℤ d *ℤ d)
grown a p q b d n =
    let A = var 0 in let P = var 1 in let Q = var 2 in let B = var 3 in let D = var 4 in let N = var 5 in
    ring (a ∷ p ∷ q ∷ b ∷ d ∷ n ∷ []) (width_term A (add P (mul N B)) (add Q (mul N D)))
    (add (add (width_term A P Q) (mul N (growth_term P Q B D))) (mul (mul N (sub N (num (pos 1)))) (add (square B) (square D)))) refl

pub product_some : (x y : ℤ) → pos 0 ≤ℤ x → pos 0 ≤ℤ y → pos 0 ≤ℤ (x *ℤ y)
product_some (pos m) (pos n) h k = omega (arith, ints)
product_some (negsuc m) y h k = absurd (omega (arith, ints, h))
product_some (pos m) (negsuc n) h k = absurd (omega (arith, ints, k))

pairs_some : (n : ℕ) → pos 0 ≤ℤ (pos n *ℤ (pos n -ℤ pos 1))
pairs_some zero = omega (arith, ints)
pairs_some (suc k) = product_some (pos (suc k)) (pos (suc k) -ℤ pos 1) (omega (arith, ints)) (omega (arith, ints))

pub two_squares : (b d : ℤ) → pos 0 ≤ℤ (b *ℤ b +ℤ d *ℤ d)
two_squares b d = omega (arith, ints, square_not_negative b, square_not_negative d)

sum_more : (w x y z : ℤ) → z ≡ (w +ℤ x) +ℤ y → pos 0 ≤ℤ x → pos 0 ≤ℤ y → w ≤ℤ z
sum_more w x y z e h k = omega (arith, ints, e, h, k)

-- where it grows, it is no less n steps on
grows : (a p q b d : ℤ) (n : ℕ) → pos 0 ≤ℤ ((b *ℤ b +ℤ d *ℤ d) +ℤ pos 2 *ℤ (p *ℤ b +ℤ q *ℤ d))
    → ((a *ℤ a +ℤ p *ℤ p) +ℤ q *ℤ q) ≤ℤ ((a *ℤ a +ℤ (p +ℤ pos n *ℤ b) *ℤ (p +ℤ pos n *ℤ b)) +ℤ (q +ℤ pos n *ℤ d) *ℤ (q +ℤ pos n *ℤ d))
grows a p q b d n growing =
    sum_more ((a *ℤ a +ℤ p *ℤ p) +ℤ q *ℤ q) (pos n *ℤ ((b *ℤ b +ℤ d *ℤ d) +ℤ pos 2 *ℤ (p *ℤ b +ℤ q *ℤ d))) ((pos n *ℤ (pos n -ℤ pos 1)) *ℤ (b *ℤ b +ℤ d *ℤ d)) _
    (grown a p q b d (pos n)) (product_some (pos n) ((b *ℤ b +ℤ d *ℤ d) +ℤ pos 2 *ℤ (p *ℤ b +ℤ q *ℤ d)) (omega (arith, ints)) growing)
    (product_some (pos n *ℤ (pos n -ℤ pos 1)) (b *ℤ b +ℤ d *ℤ d) (pairs_some n) (two_squares b d))

on_by : (s b : ℤ) (l n : ℤ) → (s +ℤ l *ℤ b) +ℤ n *ℤ b ≡ s +ℤ (l +ℤ n) *ℤ b
on_by s b l n = let S = var 0 in let B = var 1 in let L = var 2 in let N = var 3 in ring (s ∷ b ∷ l ∷ n ∷ []) (add (add S (mul L B)) (mul N B)) (add S (mul (add L N) B)) refl

back_by : (s b : ℤ) (x n : ℤ) → (s +ℤ (x +ℤ n) *ℤ b) +ℤ n *ℤ (pos 0 -ℤ b) ≡ s +ℤ x *ℤ b
back_by s b x n = let S = var 0 in let B = var 1 in let X = var 2 in let N = var 3 in ring (s ∷ b ∷ x ∷ n ∷ []) (add (add S (mul (add X N) B)) (mul N (sub (num (pos 0)) B))) (add S (mul X B)) refl

back_growth : (p q b d : ℤ) → (b *ℤ b +ℤ d *ℤ d) -ℤ pos 2 *ℤ (p *ℤ b +ℤ q *ℤ d) ≡ ((pos 0 -ℤ b) *ℤ (pos 0 -ℤ b) +ℤ (pos 0 -ℤ d) *ℤ (pos 0 -ℤ d)) +ℤ pos 2 *ℤ (p *ℤ (pos 0 -ℤ b) +ℤ q *ℤ (pos 0 -ℤ d))
back_growth p q b d =
    let P = var 0 in let Q = var 1 in let B = var 2 in let D = var 3 in let b' = sub (num (pos 0)) B in let d' = sub (num (pos 0)) D in
    ring (p ∷ q ∷ b ∷ d ∷ []) (sub (add (square B) (square D)) (mul (num (pos 2)) (add (mul P B) (mul Q D)))) (growth_term P Q b' d') refl

width_by : (a p q r s : ℤ) (w : ℤ) → p ≡ r → q ≡ s → w ≤ℤ ((a *ℤ a +ℤ p *ℤ p) +ℤ q *ℤ q) → w ≤ℤ ((a *ℤ a +ℤ r *ℤ r) +ℤ s *ℤ s)
width_by a p q r s w e f h = subst (λ (y : ℤ). w ≤ℤ ((a *ℤ a +ℤ r *ℤ r) +ℤ y *ℤ y)) f (subst (λ (y : ℤ). w ≤ℤ ((a *ℤ a +ℤ y *ℤ y) +ℤ q *ℤ q)) e h)

pub grows_on : (s : AxisOffset) (t : RayStep) (l n : ℕ) → pos 0 ≤ℤ growth_at s t (pos l) → width_at s t (pos l) ≤ℤ width_at s t (pos l +ℤ pos n)
grows_on s t l n growing =
    let p = second_at s t (pos l) in let q = third_at s t (pos l) in
    width_by s.along (p +ℤ pos n *ℤ t.second) (q +ℤ pos n *ℤ t.third) (second_at s t (pos l +ℤ pos n)) (third_at s t (pos l +ℤ pos n)) (width_at s t (pos l))
    (on_by s.second t.second (pos l) (pos n)) (on_by s.third t.third (pos l) (pos n)) (grows s.along p q t.second t.third n growing)

pub grows_back : (s : AxisOffset) (t : RayStep) (x n : ℕ)
    → pos 0 ≤ℤ ((t.second *ℤ t.second +ℤ t.third *ℤ t.third) -ℤ pos 2 *ℤ (second_at s t (pos x +ℤ pos n) *ℤ t.second +ℤ third_at s t (pos x +ℤ pos n) *ℤ t.third))
    → width_at s t (pos x +ℤ pos n) ≤ℤ width_at s t (pos x)
grows_back s t x n growing =
    let p = second_at s t (pos x +ℤ pos n) in let q = third_at s t (pos x +ℤ pos n) in let b = pos 0 -ℤ t.second in let d = pos 0 -ℤ t.third in
    width_by s.along (p +ℤ pos n *ℤ b) (q +ℤ pos n *ℤ d) (second_at s t (pos x)) (third_at s t (pos x)) (width_at s t (pos x +ℤ pos n))
    (back_by s.second t.second (pos x) (pos n)) (back_by s.third t.third (pos x) (pos n))
    (grows s.along p q b d n (subst (λ (z : ℤ). pos 0 ≤ℤ z) (back_growth p q t.second t.third) growing))

-- what is linear lies between its ends
pub less_between : (h t y : ℤ) (l x m : ℕ) → l ≤ x → x ≤ m → (h +ℤ pos l *ℤ t) <ℤ y → (h +ℤ pos m *ℤ t) <ℤ y → (h +ℤ pos x *ℤ t) <ℤ y
less_between h (pos a) y l x m from to first last = let less : x * a ≤ m * a = mul-le-mul to (omega arith) in omega (arith, ints, less, last)
less_between h (negsuc a) y l x m from to first last = let less : l * suc a ≤ x * suc a = mul-le-mul from (omega arith) in omega (arith, ints, less, first)

pub more_between : (h t y : ℤ) (l x m : ℕ) → l ≤ x → x ≤ m → y <ℤ (h +ℤ pos l *ℤ t) → y <ℤ (h +ℤ pos m *ℤ t) → y <ℤ (h +ℤ pos x *ℤ t)
more_between h (pos a) y l x m from to first last = let less : l * a ≤ x * a = mul-le-mul from (omega arith) in omega (arith, ints, less, first)
more_between h (negsuc a) y l x m from to first last = let less : x * suc a ≤ m * suc a = mul-le-mul to (omega arith) in omega (arith, ints, less, last)

-- how large they are
pub three_small : (a b c : ℤ) (m : ℕ) → unsigned_abs a ≤ m → unsigned_abs b ≤ m → unsigned_abs c ≤ m → unsigned_abs ((a +ℤ b) +ℤ c) ≤ 3 * m
three_small a b c m h k l = omega (arith, ints, abs_is a, abs_is b, abs_is c, abs_is ((a +ℤ b) +ℤ c), h, k, l)

pub width_small : (a p q : ℤ) → unsigned_abs a ≤ moment_limit → unsigned_abs p ≤ moment_limit → unsigned_abs q ≤ moment_limit → unsigned_abs ((a *ℤ a +ℤ p *ℤ p) +ℤ q *ℤ q) ≤ 3 * (moment_limit * moment_limit)
width_small a p q h k l =
    three_small (a *ℤ a) (p *ℤ p) (q *ℤ q) (moment_limit * moment_limit) (abs_mul a a moment_limit moment_limit h h) (abs_mul p p moment_limit moment_limit k k) (abs_mul q q moment_limit moment_limit l l)

pub slope_small : (p q b d : ℤ) → unsigned_abs p ≤ moment_limit → unsigned_abs q ≤ moment_limit → unsigned_abs b ≤ moment_limit → unsigned_abs d ≤ moment_limit
    → unsigned_abs (pos 2 *ℤ (p *ℤ b +ℤ q *ℤ d)) ≤ 4 * (moment_limit * moment_limit)
slope_small p q b d hp hq hb hd =
    let x = abs_mul p b moment_limit moment_limit hp hb in let y = abs_mul q d moment_limit moment_limit hq hd in
    twice (p *ℤ b) (q *ℤ d) (moment_limit * moment_limit) x y where
      twice : (x y : ℤ) (m : ℕ) → unsigned_abs x ≤ m → unsigned_abs y ≤ m → unsigned_abs (pos 2 *ℤ (x +ℤ y)) ≤ 4 * m
      twice x y m h k = omega (arith, ints, abs_is x, abs_is y, abs_is (pos 2 *ℤ (x +ℤ y)), h, k)

pub growth_small : (c g : ℤ) → unsigned_abs c ≤ 2 * (moment_limit * moment_limit) → unsigned_abs g ≤ 4 * (moment_limit * moment_limit) → unsigned_abs (c +ℤ g) ≤ 6 * (moment_limit * moment_limit)
growth_small c g h k = let s = abs_add c g in omega (arith, s, h, k)

less_small : (c g : ℤ) → unsigned_abs c ≤ 2 * (moment_limit * moment_limit) → unsigned_abs g ≤ 4 * (moment_limit * moment_limit) → unsigned_abs (c -ℤ g) ≤ 6 * (moment_limit * moment_limit)
less_small c g h k = omega (arith, ints, abs_is c, abs_is g, abs_is (c -ℤ g), h, k)

-- sums of equal parts
pub three_by : (a b c x y z : ℤ) → a ≡ x → b ≡ y → c ≡ z → (a +ℤ b) +ℤ c ≡ (x +ℤ y) +ℤ z
three_by a b c x y z e f g = ap₂ (λ u v. (u +ℤ v) +ℤ c) e f ∙ ap (λ u. (x +ℤ y) +ℤ u) g

pub width_fits : (s : AxisOffset) (t : RayStep) (l : ℤ) → FitsAfter s t l → unsigned_abs (width_at s t l) ≤ 3 * (moment_limit * moment_limit)
width_fits s t l h = width_small s.along (second_at s t l) (third_at s t l) s.along_small h.second h.third

pub growth_fits : (s : AxisOffset) (t : RayStep) (l : ℤ) → FitsAfter s t l → unsigned_abs (growth_at s t l) ≤ 6 * (moment_limit * moment_limit)
growth_fits s t l h =
    growth_small (t.second *ℤ t.second +ℤ t.third *ℤ t.third) (pos 2 *ℤ (second_at s t l *ℤ t.second +ℤ third_at s t l *ℤ t.third))
    (subst (λ (z : ℤ). unsigned_abs z ≤ 2 * (moment_limit * moment_limit)) t.curve_is t.curve_small) (slope_small (second_at s t l) (third_at s t l) t.second t.third h.second h.third t.second_small t.third_small)

pub back_fits : (s : AxisOffset) (t : RayStep) (l : ℤ) → FitsAfter s t l → unsigned_abs (back_at s t l) ≤ 6 * (moment_limit * moment_limit)
back_fits s t l h =
    let slope = pos 2 *ℤ (second_at s t l *ℤ t.second +ℤ third_at s t l *ℤ t.third) in
    less_small (t.second *ℤ t.second +ℤ t.third *ℤ t.third) slope
    (subst (λ (z : ℤ). unsigned_abs z ≤ 2 * (moment_limit * moment_limit)) t.curve_is t.curve_small) (slope_small (second_at s t l) (third_at s t l) t.second t.third h.second h.third t.second_small t.third_small)

pub next_index : (l : ℕ) → pos l +ℤ pos 1 ≡ pos (l + 1)
next_index l = omega (arith, ints)

pub index_before : (l : ℕ) → 0 < l → pos l -ℤ pos 1 ≡ pos (l - 1)
index_before l some = omega (arith, ints, some)
