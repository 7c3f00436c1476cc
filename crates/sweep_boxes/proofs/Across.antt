-- The three vectors of `Fat` where c is far along a side d: its part there is all that counts.
use Rattle.std.proofs.Common.{◌≡◌, ℕ, suc, ◌+◌, ◌*◌, ◌≤◌, ◌<◌, [], ◌∷◌, List, ℤ, pos, ◌+ℤ◌, ◌*ℤ◌, ◌-ℤ◌, ◌≤ℤ◌, ◌<ℤ◌, ◌⊎◌, inl, inr, ⊎_elim, unsigned_abs, arith, refl, sym, subst}
use Rattle.std.proofs.lemmas.Int.{ints}
use Rattle.std.proofs.lemmas.Bool.{cases_lt}
use Rattle.std.proofs.Math.Nat.{mul-le-mul}
use borrow.Author.Differences.{abs_is}
use Rattle.space.specs.Vectors.{at, difference, dot, sum}
use Rattle.space.proofs.Naturals.{dot_natural, natural, spread_natural}
use Rattle.space.proofs.Solver.{Term, num, add, mul, ring}
use Rattle.space.proofs.Terms.{dots, from, sub}
use Rattle.sweep_boxes.proofs.Fat.{AllFar, doubled, first_of, first_product, last_of, last_product, middle_of, outer_product}
use Rattle.sweep_boxes.proofs.Triangle.{difference_triangle, square_of_abs, triangle}

-- a vector is long that has much along another: by the product of their squares
long_naturals : (D W y t x : ℕ) → x * x ≤ D * W → D * y ≤ t * t → t < x → y < W
long_naturals D W y t x cauchy root much = ⊎_elim (λ less. less) (λ most. absurd (crossed (mul-le-mul (self_le D) most) (mul-le-mul much much))) (cases_lt y W) where
  self_le : (n : ℕ) → n ≤ n
  self_le n = omega arith

  crossed : D * W ≤ D * y → suc t * suc t ≤ x * x → ⊥
  crossed h k = omega (arith, h, k, cauchy, root)

cauchy_of : (D W : ℕ) (x : ℤ) → pos 0 ≤ℤ (pos D *ℤ pos W -ℤ x *ℤ x) → unsigned_abs x * unsigned_abs x ≤ D * W
cauchy_of D W x h = omega (arith, ints, h, square_of_abs x)

pub long_along : (d w : List ℤ) (y t : ℕ) → (dot d d *ℤ pos y) ≤ℤ pos (t * t) → t < unsigned_abs (dot d w) → pos y <ℤ dot w w
long_along d w y t root much =
    let D = natural (dot d d) (dot_natural d) in let W = natural (dot w w) (dot_natural w) in
    let both : pos 0 ≤ℤ (pos D.0 *ℤ pos W.0 -ℤ dot d w *ℤ dot d w) =
    subst (λ z. pos 0 ≤ℤ (pos D.0 *ℤ z -ℤ dot d w *ℤ dot d w)) W.1 (subst (λ z. pos 0 ≤ℤ (z *ℤ dot w w -ℤ dot d w *ℤ dot d w)) D.1 (spread_natural d w)) in
    let rooted : (pos D.0 *ℤ pos y) ≤ℤ pos (t * t) = subst (λ z. (z *ℤ pos y) ≤ℤ pos (t * t)) D.1 root in
    let long : y < W.0 = long_naturals D.0 W.0 y t (unsigned_abs (dot d w)) (cauchy_of D.0 W.0 (dot d w) both) (natural_of D.0 y t rooted) much in
    subst (λ z. pos y <ℤ z) (sym W.1) (omega (arith, ints, long)) where
      natural_of : (D y t : ℕ) → (pos D *ℤ pos y) ≤ℤ pos (t * t) → D * y ≤ t * t
      natural_of D y t h = omega (arith, ints, h)

-- what sums and differences have along d
abbrev twelve : List ℤ → List ℤ → List ℤ → List ℤ → List ℤ
twelve d c g h = at d 0 ∷ at d 1 ∷ at d 2 ∷ at c 0 ∷ at c 1 ∷ at c 2 ∷ at g 0 ∷ at g 1 ∷ at g 2 ∷ at h 0 ∷ at h 1 ∷ at h 2 ∷ []

abbrev d' : ℕ → Term
d' k = from 0 k

abbrev c' : ℕ → Term
c' k = from 3 k

abbrev g' : ℕ → Term
g' k = from 6 k

abbrev h' : ℕ → Term
h' k = from 9 k

along_first : (d c g h : List ℤ) → dot d (first_of c g h) ≡ (dot d c -ℤ dot d g) +ℤ dot d h
along_first d c g h = ring (twelve d c g h) (dots d' (λ k. add (sub (c' k) (g' k)) (h' k))) (add (sub (dots d' c') (dots d' g')) (dots d' h')) refl

along_last : (d c g h : List ℤ) → dot d (last_of c g h) ≡ (dot d c +ℤ dot d g) +ℤ dot d h
along_last d c g h = ring (twelve d c g h) (dots d' (λ k. add (add (c' k) (g' k)) (h' k))) (add (add (dots d' c') (dots d' g')) (dots d' h')) refl

along_difference : (d c h : List ℤ) → dot d (difference c h) ≡ dot d c -ℤ dot d h
along_difference d c h = ring (twelve d c c h) (dots d' (λ k. sub (c' k) (h' k))) (sub (dots d' c') (dots d' h')) refl

along_sum : (d c h : List ℤ) → dot d (sum c h) ≡ dot d c +ℤ dot d h
along_sum d c h = ring (twelve d c c h) (dots d' (λ k. add (c' k) (h' k))) (add (dots d' c') (dots d' h')) refl

along_doubled_difference : (d c g : List ℤ) → dot d (difference (doubled c) g) ≡ pos 2 *ℤ dot d c -ℤ dot d g
along_doubled_difference d c g = ring (twelve d c g c) (dots d' (λ k. sub (add (c' k) (c' k)) (g' k))) (sub (mul (num (pos 2)) (dots d' c')) (dots d' g')) refl

along_doubled_sum : (d c g : List ℤ) → dot d (sum (doubled c) g) ≡ pos 2 *ℤ dot d c +ℤ dot d g
along_doubled_sum d c g = ring (twelve d c g c) (dots d' (λ k. add (add (c' k) (c' k)) (g' k))) (add (mul (num (pos 2)) (dots d' c')) (dots d' g')) refl

-- this much is left of it
far_three : (z x y u : ℤ) (t q s : ℕ) → (z ≡ (x -ℤ y) +ℤ u) ⊎ (z ≡ (x +ℤ y) +ℤ u) → t + (q + s) < unsigned_abs x → unsigned_abs y ≤ q → unsigned_abs u ≤ s → t < unsigned_abs z
far_three z x y u t q s is far a b = ⊎_elim (λ e. omega (arith, ints, e, far, a, b, abs_is z, abs_is x, abs_is y, abs_is u)) (λ e. omega (arith, ints, e, far, a, b, abs_is z, abs_is x, abs_is y, abs_is u)) is

far_two : (z x u : ℤ) (t q s : ℕ) → (z ≡ x -ℤ u) ⊎ (z ≡ x +ℤ u) → t + (q + s) < unsigned_abs x → unsigned_abs u ≤ s → t < unsigned_abs z
far_two z x u t q s is far b = ⊎_elim (λ e. omega (arith, ints, e, far, b, abs_is z, abs_is x, abs_is u)) (λ e. omega (arith, ints, e, far, b, abs_is z, abs_is x, abs_is u)) is

far_twice : (z x y : ℤ) (t q s : ℕ) → (z ≡ pos 2 *ℤ x -ℤ y) ⊎ (z ≡ pos 2 *ℤ x +ℤ y) → t + (q + s) < unsigned_abs x → unsigned_abs y ≤ q → 2 * t < unsigned_abs z
far_twice z x y t q s is far a = ⊎_elim (λ e. omega (arith, ints, e, far, a, abs_is z, abs_is x, abs_is y)) (λ e. omega (arith, ints, e, far, a, abs_is z, abs_is x, abs_is y)) is

-- what is known of c, of its change g and its bend h
pub record IsFarAlong (d c g h : List ℤ) (r e m n t q s : ℕ) : Type 0 where
  pub root : (dot d d *ℤ pos (r * r + e)) ≤ℤ pos (t * t)
  pub spare : (m + 2 * n) * (m + 2 * n) ≤ 3 * e
  pub change : dot g g ≤ℤ pos (m * m)
  pub bend : dot h h ≤ℤ pos (n * n)
  pub side_change : unsigned_abs (dot d g) ≤ q
  pub side_bend : unsigned_abs (dot d h) ≤ s
  pub far : t + (q + s) < unsigned_abs (dot d c)

more_squares : (z : ℤ) (r e : ℕ) → pos (r * r + e) <ℤ z → pos (r * r) <ℤ z
more_squares z r e h = omega (arith, ints, h)

four_root : (z : ℤ) (r e t : ℕ) → (z *ℤ pos (r * r + e)) ≤ℤ pos (t * t) → (z *ℤ pos (4 * (r * r + e))) ≤ℤ pos (2 * t * (2 * t))
four_root z r e t h = omega (arith, ints, h)

-- a quarter of the difference of two squares
quarter : (p s d : ℤ) (r e m n : ℕ) → pos 4 *ℤ p ≡ s -ℤ d → pos (4 * (r * r + e)) <ℤ s → d ≤ℤ pos ((n + n + m) * (n + n + m)) → (m + 2 * n) * (m + 2 * n) ≤ 3 * e → pos (r * r) <ℤ p
quarter p s d r e m n is far near spare = omega (arith, ints, is, far, near, spare)

outer : (yy s xz gg : ℤ) (r e m n : ℕ) → xz ≡ s -ℤ gg → pos (r * r + e) <ℤ yy → pos (r * r + e) <ℤ s → gg ≤ℤ pos (m * m) → (m + 2 * n) * (m + 2 * n) ≤ 3 * e → pos (3 * (r * r)) <ℤ (pos 2 *ℤ yy +ℤ xz)
outer yy s xz gg r e m n is far other near spare = omega (arith, ints, is, far, other, near, spare)

pub all_far_along : (d c g h : List ℤ) (r e m n t q s : ℕ) → IsFarAlong d c g h r e m n t q s → AllFar (first_of c g h) (middle_of c h) (last_of c g h) r
all_far_along d c g h r e m n t q s f =
    let twice_h : dot (doubled h) (doubled h) ≤ℤ pos ((n + n) * (n + n)) = triangle h h n n f.bend f.bend in
    let twice = four_root (dot d d) r e t f.root in
    let far = f.far in let side_change = f.side_change in let side_bend = f.side_bend in
    record {
      xx = more_squares _ r e (long_along d (first_of c g h) (r * r + e) t f.root (far_three _ (dot d c) (dot d g) (dot d h) t q s (inl (along_first d c g h)) far side_change side_bend));
      xy =
          quarter _ _ _ r e m n (first_product c g h)
          (long_along d (difference (doubled c) g) (4 * (r * r + e)) (2 * t) twice (far_twice _ (dot d c) (dot d g) t q s (inl (along_doubled_difference d c g)) far side_change))
          (difference_triangle (doubled h) g (n + n) m twice_h f.change) f.spare;
      middle =
          outer _ _ _ _ r e m n (outer_product c g h) (long_along d (difference c h) (r * r + e) t f.root (far_two _ (dot d c) (dot d h) t q s (inl (along_difference d c h)) far side_bend))
          (long_along d (sum c h) (r * r + e) t f.root (far_two _ (dot d c) (dot d h) t q s (inr (along_sum d c h)) far side_bend)) f.change f.spare;
      yz =
          quarter _ _ _ r e m n (last_product c g h)
          (long_along d (sum (doubled c) g) (4 * (r * r + e)) (2 * t) twice (far_twice _ (dot d c) (dot d g) t q s (inr (along_doubled_sum d c g)) far side_change))
          (triangle (doubled h) g (n + n) m twice_h f.change) f.spare;
      zz = more_squares _ r e (long_along d (last_of c g h) (r * r + e) t f.root (far_three _ (dot d c) (dot d g) (dot d h) t q s (inr (along_last d c g h)) far side_change side_bend));
    }
