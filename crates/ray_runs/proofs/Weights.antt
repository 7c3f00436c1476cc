-- The weights of these sums aren't below 0, and some are above it, so what is above or below 0 on the stretch is so on each of its cells.
use Rattle.std.proofs.Common.{◌≡◌, ℕ, zero, suc, ◌<◌, [], ◌∷◌, List, ℤ, pos, negsuc, ◌+ℤ◌, ◌*ℤ◌, ◌-ℤ◌, ◌≤ℤ◌, ◌<ℤ◌, ◌⊎◌, inl, inr, arith, refl, subst, sym, ⊎_elim, ◌∙◌}
use Rattle.std.proofs.lemmas.Int.{ints}
use Rattle.space.specs.Vectors.{at}
use Rattle.space.proofs.Solver.{Term, var, num, add, mul, ring}
use Rattle.space.proofs.Terms.{from, sub}
use Rattle.bern_form.specs.Forms.{product22}
use Rattle.ray_runs.proofs.Convex.{product_natural}
use Rattle.moment_forms.proofs.Fives.{each_of_five}
use Rattle.ray_runs.proofs.Parts.{crossed, squared, summed, weight}

-- a cell of a stretch of s cells, with v cells before it and x after it, by its weights at both ends
pub record IsCut (s w v x y : ℤ) : Type 0 where
  pub first : pos 0 <ℤ w
  pub before : pos 0 ≤ℤ v
  pub after : pos 0 ≤ℤ x
  pub last : pos 0 <ℤ y
  pub start : s ≡ w +ℤ v
  pub end : s ≡ x +ℤ y

pub product_positive : (a b : ℤ) → pos 0 <ℤ a → pos 0 <ℤ b → pos 0 <ℤ (a *ℤ b)
product_positive a b h k =
    let more = product_natural (a -ℤ pos 1) (b -ℤ pos 1) (omega (arith, ints)) (omega (arith, ints)) in
    let e : (a -ℤ pos 1) *ℤ (b -ℤ pos 1) ≡ ((a *ℤ b -ℤ a) -ℤ b) +ℤ pos 1 =
    ring (a ∷ b ∷ []) (mul (sub (var 0) (num (pos 1))) (sub (var 1) (num (pos 1)))) (add (sub (sub (mul (var 0) (var 1)) (var 0)) (var 1)) (num (pos 1))) refl in
    let left = subst (λ z. pos 0 ≤ℤ z) e more in omega (arith, ints, h, k, left)

sign_of : (z : ℤ) → (pos 0 <ℤ z) ⊎ (z ≤ℤ pos 0)
sign_of (pos zero) = inr (omega (arith, ints))
sign_of (pos (suc n)) = inl (omega (arith, ints))
sign_of (negsuc n) = inr (omega (arith, ints))

factor_positive : (s z : ℤ) → pos 0 <ℤ s → pos 0 <ℤ (s *ℤ z) → pos 0 <ℤ z
factor_positive s z some h =
    let e : s *ℤ (pos 0 -ℤ z) ≡ pos 0 -ℤ s *ℤ z = ring (s ∷ z ∷ []) (mul (var 0) (sub (num (pos 0)) (var 1))) (sub (num (pos 0)) (mul (var 0) (var 1))) refl in
    ⊎_elim (λ yes. yes)
    (λ no. let more = product_natural s (pos 0 -ℤ z) (omega (arith, ints, some)) (omega (arith, ints, no)) in
    let less = subst (λ t. pos 0 ≤ℤ t) e more in absurd (omega (arith, ints, less, h)))
    (sign_of z)

pub factor_negative : (s z : ℤ) → pos 0 <ℤ s → (s *ℤ z) <ℤ pos 0 → z <ℤ pos 0
factor_negative s z some h =
    let e : s *ℤ (pos 0 -ℤ z) ≡ pos 0 -ℤ s *ℤ z = ring (s ∷ z ∷ []) (mul (var 0) (sub (num (pos 0)) (var 1))) (sub (num (pos 0)) (mul (var 0) (var 1))) refl in
    let more : pos 0 <ℤ (pos 0 -ℤ s *ℤ z) = omega (arith, ints, h) in
    let up = factor_positive s (pos 0 -ℤ z) some (subst (λ t. pos 0 <ℤ t) (sym e) more) in omega (arith, ints, up)

pub factor_natural : (s z : ℤ) → pos 0 <ℤ s → pos 0 ≤ℤ (s *ℤ z) → pos 0 ≤ℤ z
factor_natural s z some h =
    let e : s *ℤ (pos 0 -ℤ z) ≡ pos 0 -ℤ s *ℤ z = ring (s ∷ z ∷ []) (mul (var 0) (sub (num (pos 0)) (var 1))) (sub (num (pos 0)) (mul (var 0) (var 1))) refl in
    ⊎_elim
    (λ yes. let more = product_positive s (pos 0 -ℤ z) some yes in let less = subst (λ t. pos 0 <ℤ t) e more in absurd (omega (arith, ints, less, h)))
    (λ no. omega (arith, ints, no))
    (sign_of (pos 0 -ℤ z))

-- a multiple of a number that is above 0, or below it
times_more : (m z : ℤ) → pos 0 ≤ℤ m → pos 0 <ℤ z → m ≤ℤ (m *ℤ z)
times_more m z h some =
    let more = product_natural m (z -ℤ pos 1) h (omega (arith, ints, some)) in
    let e : m *ℤ (z -ℤ pos 1) ≡ m *ℤ z -ℤ m = ring (m ∷ z ∷ []) (mul (var 0) (sub (var 1) (num (pos 1)))) (sub (mul (var 0) (var 1)) (var 0)) refl in
    let left = subst (λ t. pos 0 ≤ℤ t) e more in omega (arith, ints, left)

times_less : (m z : ℤ) → pos 0 ≤ℤ m → z <ℤ pos 0 → (m *ℤ z) ≤ℤ (pos 0 -ℤ m)
times_less m z h some =
    let more = product_natural m (negsuc 0 -ℤ z) h (omega (arith, ints, some)) in
    let e : m *ℤ (negsuc 0 -ℤ z) ≡ (pos 0 -ℤ m) -ℤ m *ℤ z =
    ring (m ∷ z ∷ []) (mul (var 0) (sub (num (negsuc 0)) (var 1))) (sub (sub (num (pos 0)) (var 0)) (mul (var 0) (var 1))) refl in
    let left = subst (λ t. pos 0 ≤ℤ t) e more in omega (arith, ints, left)

-- sums of multiples of three numbers, and of five
pub three_negative : (m0 m1 m2 c0 c1 c2 : ℤ) → pos 0 ≤ℤ m0 → pos 0 ≤ℤ m1 → pos 0 ≤ℤ m2 → pos 0 <ℤ ((m0 +ℤ m1) +ℤ m2)
    → c0 <ℤ pos 0 → c1 <ℤ pos 0 → c2 <ℤ pos 0 → ((m0 *ℤ c0 +ℤ m1 *ℤ c1) +ℤ m2 *ℤ c2) <ℤ pos 0
three_negative m0 m1 m2 c0 c1 c2 n0 n1 n2 some h0 h1 h2 =
    let a = times_less m0 c0 n0 h0 in let b = times_less m1 c1 n1 h1 in let c = times_less m2 c2 n2 h2 in omega (arith, ints, a, b, c, some)

abbrev pub AreNatural : (ℕ → ℤ) → Type 0
AreNatural m = (k : ℕ) → k < 5 → pos 0 ≤ℤ m k

abbrev pub total : (ℕ → ℤ) → ℤ
total m = (((m 0 +ℤ m 1) +ℤ m 2) +ℤ m 3) +ℤ m 4

five_natural : (a b c d e : ℤ) → pos 0 ≤ℤ a → pos 0 ≤ℤ b → pos 0 ≤ℤ c → pos 0 ≤ℤ d → pos 0 ≤ℤ e → pos 0 ≤ℤ ((((a +ℤ b) +ℤ c) +ℤ d) +ℤ e)
five_natural a b c d e h0 h1 h2 h3 h4 = omega (arith, ints, h0, h1, h2, h3, h4)

pub summed_natural : (m c : ℕ → ℤ) → AreNatural m → AreNatural c → pos 0 ≤ℤ summed m c
summed_natural m c n h =
    let one = λ (k : ℕ) (l : k < 5). product_natural (m k) (c k) (n k l) (h k l) in
    five_natural _ _ _ _ _ (one 0 (omega arith)) (one 1 (omega arith)) (one 2 (omega arith)) (one 3 (omega arith)) (one 4 (omega arith))

five_more : (a b c d e a' b' c' d' e' : ℤ) → a ≤ℤ a' → b ≤ℤ b' → c ≤ℤ c' → d ≤ℤ d' → e ≤ℤ e' → pos 0 <ℤ ((((a +ℤ b) +ℤ c) +ℤ d) +ℤ e)
    → pos 0 <ℤ ((((a' +ℤ b') +ℤ c') +ℤ d') +ℤ e')
five_more a b c d e a' b' c' d' e' h0 h1 h2 h3 h4 some = omega (arith, ints, h0, h1, h2, h3, h4, some)

summed_positive : (m c : ℕ → ℤ) → AreNatural m → pos 0 <ℤ total m → ((k : ℕ) → k < 5 → pos 0 <ℤ c k) → pos 0 <ℤ summed m c
summed_positive m c n some h =
    let one = λ (k : ℕ) (l : k < 5). times_more (m k) (c k) (n k l) (h k l) in
    five_more (m 0) (m 1) (m 2) (m 3) (m 4) (m 0 *ℤ c 0) (m 1 *ℤ c 1) (m 2 *ℤ c 2) (m 3 *ℤ c 3) (m 4 *ℤ c 4)
    (one 0 (omega arith)) (one 1 (omega arith)) (one 2 (omega arith)) (one 3 (omega arith)) (one 4 (omega arith)) some

summed_less : (f : ℤ) (m r x : ℕ → ℤ) → summed m (λ k. pos 4 *ℤ x k -ℤ f *ℤ r k) ≡ pos 4 *ℤ summed m x -ℤ f *ℤ summed m r
summed_less f m r x =
    let e = m 0 ∷ m 1 ∷ m 2 ∷ m 3 ∷ m 4 ∷ r 0 ∷ r 1 ∷ r 2 ∷ r 3 ∷ r 4 ∷ x 0 ∷ x 1 ∷ x 2 ∷ x 3 ∷ x 4 ∷ f ∷ [] in let four = num (pos 4) in let F = var 15 in
    let sum = λ (t : ℕ → Term). add (add (add (add (mul (var 0) (t 0)) (mul (var 1) (t 1))) (mul (var 2) (t 2))) (mul (var 3) (t 3))) (mul (var 4) (t 4)) in
    ring e (sum (λ k. sub (mul four (from 10 k)) (mul F (from 5 k)))) (sub (mul four (sum (from 10))) (mul F (sum (from 5)))) refl

difference_positive : (a b : ℤ) → a <ℤ b → pos 0 <ℤ (b -ℤ a)
difference_positive a b h = omega (arith, ints, h)

-- t times R and t times X are such sums, so X is above its limit as the terms of the sums are
pub above_of_sums : (t f R X : ℤ) (m r x : ℕ → ℤ) → pos 0 <ℤ t → AreNatural m → pos 0 <ℤ total m → t *ℤ R ≡ summed m r → t *ℤ X ≡ summed m x
    → ((k : ℕ) → k < 5 → (f *ℤ r k) <ℤ (pos 4 *ℤ x k)) → (f *ℤ R) <ℤ (pos 4 *ℤ X)
above_of_sums t f R X m r x some n more er ex h =
    let whole = summed_positive m (λ k. pos 4 *ℤ x k -ℤ f *ℤ r k) n more (λ k l. difference_positive (f *ℤ r k) (pos 4 *ℤ x k) (h k l)) in
    let e : t *ℤ (pos 4 *ℤ X -ℤ f *ℤ R) ≡ pos 4 *ℤ (t *ℤ X) -ℤ f *ℤ (t *ℤ R) =
    ring (t ∷ f ∷ R ∷ X ∷ []) (mul (var 0) (sub (mul (num (pos 4)) (var 3)) (mul (var 1) (var 2))))
    (sub (mul (num (pos 4)) (mul (var 0) (var 3))) (mul (var 1) (mul (var 0) (var 2)))) refl in
    let same : t *ℤ (pos 4 *ℤ X -ℤ f *ℤ R) ≡ summed m (λ k. pos 4 *ℤ x k -ℤ f *ℤ r k) = e ∙ (λ i. pos 4 *ℤ ex i -ℤ f *ℤ er i) ∙ sym (summed_less f m r x) in
    let left = factor_positive t (pos 4 *ℤ X -ℤ f *ℤ R) some (subst (λ z. pos 0 <ℤ z) (sym same) whole) in omega (arith, ints, left)

-- the weights
pub record IsNatural (a : List ℤ) : Type 0 where
  pub first : pos 0 ≤ℤ at a 0
  pub middle : pos 0 ≤ℤ at a 1
  pub last : pos 0 ≤ℤ at a 2

pub sum_natural : (a b : ℤ) → pos 0 ≤ℤ a → pos 0 ≤ℤ b → pos 0 ≤ℤ (a +ℤ b)
sum_natural a b h k = omega (arith, ints, h, k)

product22_natural : (a b : List ℤ) (k : ℕ) → k < 5 → IsNatural a → IsNatural b → pos 0 ≤ℤ at (product22 a b) k
product22_natural a b k l h j =
    each_of_five (λ i. pos 0 ≤ℤ at (product22 a b) i)
    (product_natural _ _ h.first j.first)
    (sum_natural _ _ (product_natural _ _ h.first j.middle) (product_natural _ _ h.middle j.first))
    (sum_natural _ _ (sum_natural _ _ (product_natural _ _ h.first j.last) (product_natural _ _ h.middle j.middle)) (product_natural _ _ h.last j.first))
    (sum_natural _ _ (product_natural _ _ h.middle j.last) (product_natural _ _ h.last j.middle))
    (product_natural _ _ h.last j.last) k l

pub squared_natural : (w x : ℤ) → pos 0 ≤ℤ w → pos 0 ≤ℤ x → IsNatural (squared w x)
squared_natural w x h k = record {
  first = product_natural w w h h;
  middle = product_natural (pos 2) (w *ℤ x) (omega (arith, ints)) (product_natural w x h k);
  last = product_natural x x k k;
}

pub crossed_natural : (w v x y : ℤ) → pos 0 ≤ℤ w → pos 0 ≤ℤ v → pos 0 ≤ℤ x → pos 0 ≤ℤ y → IsNatural (crossed w v x y)
crossed_natural w v x y hw hv hx hy = record {
  first = product_natural w v hw hv;
  middle = sum_natural (w *ℤ y) (v *ℤ x) (product_natural w y hw hy) (product_natural v x hv hx);
  last = product_natural x y hx hy;
}

pub natural_of : (z : ℤ) → pos 0 <ℤ z → pos 0 ≤ℤ z
natural_of z h = omega (arith, ints, h)

pub weight_natural : (s w v x y : ℤ) (k : ℕ) → k < 5 → IsCut s w v x y → AreNatural (weight w v x y k)
weight_natural s w v x y k l c zero h = let a = squared_natural w x (natural_of w c.first) c.after in product22_natural _ _ k l a a
weight_natural s w v x y k l c (suc zero) h =
    product22_natural _ _ k l (squared_natural w x (natural_of w c.first) c.after) (crossed_natural w v x y (natural_of w c.first) c.before c.after (natural_of y c.last))
weight_natural s w v x y k l c (suc (suc zero)) h =
    let a = crossed_natural w v x y (natural_of w c.first) c.before c.after (natural_of y c.last) in product22_natural _ _ k l a a
weight_natural s w v x y k l c (suc (suc (suc zero))) h =
    product22_natural _ _ k l (crossed_natural w v x y (natural_of w c.first) c.before c.after (natural_of y c.last)) (squared_natural v y c.before (natural_of y c.last))
weight_natural s w v x y k l c (suc (suc (suc (suc i)))) h = let a = squared_natural v y c.before (natural_of y c.last) in product22_natural _ _ k l a a

pub positive_more : (a b : ℤ) → pos 0 <ℤ a → pos 0 ≤ℤ b → pos 0 <ℤ (a +ℤ b)
positive_more a b h k = omega (arith, ints, h, k)

pub more_positive : (a b : ℤ) → pos 0 ≤ℤ a → pos 0 <ℤ b → pos 0 <ℤ (a +ℤ b)
more_positive a b h k = omega (arith, ints, h, k)

pub crossed_positive : (s w v x y : ℤ) → IsCut s w v x y → pos 0 <ℤ (w *ℤ y +ℤ v *ℤ x)
crossed_positive s w v x y c = positive_more (w *ℤ y) (v *ℤ x) (product_positive w y c.first c.last) (product_natural v x c.before c.after)

-- each row has a weight that is above 0, in its own place
own_positive : (s w v x y : ℤ) (k : ℕ) → k < 5 → IsCut s w v x y → pos 0 <ℤ weight w v x y k k
own_positive s w v x y k l c =
    let W = natural_of w c.first in let Y = natural_of y c.last in
    let ww = product_positive w w c.first c.first in let yy = product_positive y y c.last c.last in let cross = crossed_positive s w v x y c in
    let wv = product_natural w v W c.before in let xy = product_natural x y c.after Y in
    each_of_five (λ i. pos 0 <ℤ weight w v x y i i)
    (product_positive _ _ ww ww)
    (positive_more _ _ (product_positive _ _ ww cross) (product_natural _ _ (product_natural (pos 2) (w *ℤ x) (omega (arith, ints)) (product_natural w x W c.after)) wv))
    (positive_more _ _ (more_positive _ _ (product_natural _ _ wv xy) (product_positive _ _ cross cross)) (product_natural _ _ xy wv))
    (positive_more _ _ (product_positive _ _ cross yy) (product_natural _ _ xy (product_natural (pos 2) (v *ℤ y) (omega (arith, ints)) (product_natural v y c.before Y))))
    (product_positive _ _ yy yy) k l

some_in_total : (m : ℕ → ℤ) (k : ℕ) → k < 5 → AreNatural m → pos 0 <ℤ m k → pos 0 <ℤ total m
some_in_total m k l n =
    let n0 = n 0 (omega arith) in let n1 = n 1 (omega arith) in let n2 = n 2 (omega arith) in let n3 = n 3 (omega arith) in let n4 = n 4 (omega arith) in
    each_of_five (λ i. pos 0 <ℤ m i → pos 0 <ℤ total m)
    (λ some. omega (arith, ints, some, n0, n1, n2, n3, n4)) (λ some. omega (arith, ints, some, n0, n1, n2, n3, n4))
    (λ some. omega (arith, ints, some, n0, n1, n2, n3, n4)) (λ some. omega (arith, ints, some, n0, n1, n2, n3, n4))
    (λ some. omega (arith, ints, some, n0, n1, n2, n3, n4)) k l

pub weight_some : (s w v x y : ℤ) (k : ℕ) → k < 5 → IsCut s w v x y → pos 0 <ℤ total (weight w v x y k)
weight_some s w v x y k l c = some_in_total (weight w v x y k) k l (weight_natural s w v x y k l c) (own_positive s w v x y k l c)

pub whole_positive : (s w v x y : ℤ) → IsCut s w v x y → pos 0 <ℤ s
whole_positive s w v x y c = subst (λ z. pos 0 <ℤ z) (sym c.start) (positive_more w v c.first c.before)
