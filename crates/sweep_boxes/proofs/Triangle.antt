-- Lengths of vectors, by numbers whose squares bound theirs: no root is taken.
use Rattle.std.proofs.Common.{◌≡◌, ℕ, ◌+◌, ◌*◌, ◌≤◌, ◌<◌, [], ◌∷◌, List, ℤ, pos, negsuc, ◌+ℤ◌, ◌*ℤ◌, ◌-ℤ◌, ◌≤ℤ◌, ◌<ℤ◌, ◌⊎◌, inl, inr, unsigned_abs, arith, refl, subst, ⊎_elim}
use Rattle.std.proofs.lemmas.Int.{ints}
use Rattle.std.proofs.lemmas.Bool.{cases_lt}
use Rattle.std.proofs.Math.Nat.{mul-le-mul}
use borrow.Author.Differences.{abs_is}
use Rattle.space.specs.Vectors.{at, difference, dot, sum}
use Rattle.space.proofs.Naturals.{dot_natural, natural, spread_natural}
use Rattle.space.proofs.Solver.{num, add, mul, ring}
use Rattle.space.proofs.Terms.{dots, from, sub}

-- a number whose square is at most that of another is at most the other
root_below : (k n : ℕ) → k * k ≤ n * n → k ≤ n
root_below k n h = ⊎_elim (λ less. absurd (too_far n k less h)) (λ most. most) (cases_lt n k) where
  too_far : (n k : ℕ) → n < k → k * k ≤ n * n → ⊥
  too_far n k less h = let more = mul-le-mul less less in omega (arith, more, h)

pub square_of_abs : (z : ℤ) → pos (unsigned_abs z * unsigned_abs z) ≡ z *ℤ z
square_of_abs (pos n) = omega (arith, ints)
square_of_abs (negsuc n) = omega (arith, ints)

products_below : (V W m n : ℕ) → V ≤ m * m → W ≤ n * n → V * W ≤ (m * n) * (m * n)
products_below V W m n h k = let p = mul-le-mul h k in omega (arith, p)

abs_below : (x : ℤ) (V W m n : ℕ) → pos 0 ≤ℤ (pos V *ℤ pos W -ℤ x *ℤ x) → V ≤ m * m → W ≤ n * n → unsigned_abs x ≤ m * n
abs_below x V W m n h v w =
    root_below (unsigned_abs x) (m * n) (omega (arith, ints, h, products_below V W m n v w, square_of_abs x))

pub schwarz : (v w : List ℤ) (m n : ℕ) → dot v v ≤ℤ pos (m * m) → dot w w ≤ℤ pos (n * n) → unsigned_abs (dot v w) ≤ m * n
schwarz v w m n h k =
    let V = natural (dot v v) (dot_natural v) in let W = natural (dot w w) (dot_natural w) in
    let both = subst (λ z. pos 0 ≤ℤ (z *ℤ dot w w -ℤ dot v w *ℤ dot v w)) V.1 (spread_natural v w) in
    abs_below (dot v w) V.0 W.0 m n
    (subst (λ z. pos 0 ≤ℤ (pos V.0 *ℤ z -ℤ dot v w *ℤ dot v w)) W.1 both)
    (omega (arith, ints, h, V.1)) (omega (arith, ints, k, W.1))

-- the square of a sum, and of a difference
abbrev six : List ℤ → List ℤ → List ℤ
six v w = at v 0 ∷ at v 1 ∷ at v 2 ∷ at w 0 ∷ at w 1 ∷ at w 2 ∷ []

sum_square : (v w : List ℤ) → dot (sum v w) (sum v w) ≡ (dot v v +ℤ pos 2 *ℤ dot v w) +ℤ dot w w
sum_square v w =
    ring (six v w) (dots (λ k. add (from 0 k) (from 3 k)) (λ k. add (from 0 k) (from 3 k)))
    (add (add (dots (from 0) (from 0)) (mul (num (pos 2)) (dots (from 0) (from 3)))) (dots (from 3) (from 3))) refl

difference_square : (v w : List ℤ) → dot (difference v w) (difference v w) ≡ (dot v v -ℤ pos 2 *ℤ dot v w) +ℤ dot w w
difference_square v w =
    ring (six v w) (dots (λ k. sub (from 0 k) (from 3 k)) (λ k. sub (from 0 k) (from 3 k)))
    (add (sub (dots (from 0) (from 0)) (mul (num (pos 2)) (dots (from 0) (from 3)))) (dots (from 3) (from 3))) refl

sum_of : (vv vw ww s : ℤ) (m n : ℕ) → s ≡ (vv +ℤ pos 2 *ℤ vw) +ℤ ww → vv ≤ℤ pos (m * m) → ww ≤ℤ pos (n * n) → unsigned_abs vw ≤ m * n → s ≤ℤ pos ((m + n) * (m + n))
sum_of vv vw ww s m n e h k l = omega (arith, ints, e, h, k, l, abs_is vw)

-- the triangle
pub triangle : (v w : List ℤ) (m n : ℕ) → dot v v ≤ℤ pos (m * m) → dot w w ≤ℤ pos (n * n) → dot (sum v w) (sum v w) ≤ℤ pos ((m + n) * (m + n))
triangle v w m n h k = sum_of (dot v v) (dot v w) (dot w w) (dot (sum v w) (sum v w)) m n (sum_square v w) h k (schwarz v w m n h k)

pub difference_triangle : (v w : List ℤ) (m n : ℕ) → dot v v ≤ℤ pos (m * m) → dot w w ≤ℤ pos (n * n) → dot (difference v w) (difference v w) ≤ℤ pos ((m + n) * (m + n))
difference_triangle v w m n h k = difference_of (dot v v) (dot v w) (dot w w) (dot (difference v w) (difference v w)) m n (difference_square v w) h k (schwarz v w m n h k) where
  difference_of : (vv vw ww s : ℤ) (m n : ℕ) → s ≡ (vv -ℤ pos 2 *ℤ vw) +ℤ ww → vv ≤ℤ pos (m * m) → ww ≤ℤ pos (n * n) → unsigned_abs vw ≤ m * n → s ≤ℤ pos ((m + n) * (m + n))
  difference_of vv vw ww s m n e h k l = omega (arith, ints, e, h, k, l, abs_is vw)

-- what is further than r + e is further than r when it is moved by at most e
at_most_or : (z : ℤ) (n : ℕ) → (z ≤ℤ pos n) ⊎ (pos n <ℤ z)
at_most_or (pos k) n = ⊎_elim (λ less. inr (omega (arith, ints))) (λ most. inl (omega (arith, ints))) (cases_lt n k)
at_most_or (negsuc k) n = inl (omega (arith, ints))

moved_back : (v w : List ℤ) → dot (difference (sum v w) w) (difference (sum v w) w) ≡ dot v v
moved_back v w =
    let b = λ (k : ℕ). sub (add (from 0 k) (from 3 k)) (from 3 k) in ring (six v w) (dots b b) (dots (from 0) (from 0)) refl

moved_forth : (v w : List ℤ) → dot (sum (difference v w) w) (sum (difference v w) w) ≡ dot v v
moved_forth v w =
    let b = λ (k : ℕ). add (sub (from 0 k) (from 3 k)) (from 3 k) in ring (six v w) (dots b b) (dots (from 0) (from 0)) refl

crossed : (z : ℤ) (n : ℕ) → z ≤ℤ pos n → pos n <ℤ z → ⊥
crossed z n h k = omega (arith, ints, h, k)

pub sum_far : (v w : List ℤ) (r e : ℕ) → pos ((r + e) * (r + e)) <ℤ dot v v → dot w w ≤ℤ pos (e * e) → pos (r * r) <ℤ dot (sum v w) (sum v w)
sum_far v w r e far near =
    ⊎_elim
    (λ most. absurd (crossed (dot v v) ((r + e) * (r + e)) (subst (λ z. z ≤ℤ pos ((r + e) * (r + e))) (moved_back v w) (difference_triangle (sum v w) w r e most near)) far))
    (λ more. more) (at_most_or (dot (sum v w) (sum v w)) (r * r))

pub difference_far : (v w : List ℤ) (r e : ℕ) → pos ((r + e) * (r + e)) <ℤ dot v v → dot w w ≤ℤ pos (e * e) → pos (r * r) <ℤ dot (difference v w) (difference v w)
difference_far v w r e far near =
    ⊎_elim
    (λ most. absurd (crossed (dot v v) ((r + e) * (r + e)) (subst (λ z. z ≤ℤ pos ((r + e) * (r + e))) (moved_forth v w) (triangle (difference v w) w r e most near)) far))
    (λ more. more) (at_most_or (dot (difference v w) (difference v w)) (r * r))
