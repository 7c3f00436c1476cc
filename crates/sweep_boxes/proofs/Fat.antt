-- Three vectors that stand for a quantity of degree 2 on a part of a move: c - g + h at its first end, c - h in the middle, and
-- c + g + h at its last end. Where c is long enough, all their scalar products are great.
use Rattle.std.proofs.Common.{◌≡◌, ℕ, ◌+◌, ◌*◌, [], ◌∷◌, List, ℤ, pos, ◌+ℤ◌, ◌*ℤ◌, ◌-ℤ◌, ◌≤ℤ◌, ◌<ℤ◌, arith, refl, sym, subst}
use Rattle.std.proofs.lemmas.Int.{ints}
use Rattle.space.specs.Vectors.{at, difference, dot, sum}
use Rattle.space.proofs.Solver.{Term, num, add, mul, ring}
use Rattle.space.proofs.Terms.{dots, from, sub}
use Rattle.sweep_boxes.proofs.Triangle.{difference_far, difference_triangle, sum_far, triangle}

abbrev pub first_of : List ℤ → List ℤ → List ℤ → List ℤ
first_of c g h = sum (difference c g) h

abbrev pub middle_of : List ℤ → List ℤ → List ℤ
middle_of c h = difference c h

abbrev pub last_of : List ℤ → List ℤ → List ℤ → List ℤ
last_of c g h = sum (sum c g) h

abbrev nine : List ℤ → List ℤ → List ℤ → List ℤ
nine c g h = at c 0 ∷ at c 1 ∷ at c 2 ∷ at g 0 ∷ at g 1 ∷ at g 2 ∷ at h 0 ∷ at h 1 ∷ at h 2 ∷ []

abbrev F : ℕ → Term
F k = add (sub (from 0 k) (from 3 k)) (from 6 k)

abbrev M : ℕ → Term
M k = sub (from 0 k) (from 6 k)

abbrev L : ℕ → Term
L k = add (add (from 0 k) (from 3 k)) (from 6 k)

abbrev pub doubled : List ℤ → List ℤ
doubled v = sum v v

-- all products that coefficients of degree 4 are made of are above r^2
pub record AllFar (x y z : List ℤ) (r : ℕ) : Type 0 where
  pub xx : pos (r * r) <ℤ dot x x
  pub xy : pos (r * r) <ℤ dot x y
  pub middle : pos (3 * (r * r)) <ℤ (pos 2 *ℤ dot y y +ℤ dot x z)
  pub yz : pos (r * r) <ℤ dot y z
  pub zz : pos (r * r) <ℤ dot z z

doubled_far : (c : List ℤ) (a b : ℕ) → b ≡ 2 * a → pos (a * a) <ℤ dot c c → pos (b * b) <ℤ dot (doubled c) (doubled c)
doubled_far c a b e far = quadruple (dot c c) (dot (doubled c) (doubled c)) a b e far (square_is c) where
  square_is : (c : List ℤ) → dot (doubled c) (doubled c) ≡ pos 4 *ℤ dot c c
  square_is c = let b = λ (k : ℕ). add (from 0 k) (from 0 k) in ring (at c 0 ∷ at c 1 ∷ at c 2 ∷ []) (dots b b) (mul (num (pos 4)) (dots (from 0) (from 0))) refl

  quadruple : (u v : ℤ) (a b : ℕ) → b ≡ 2 * a → pos (a * a) <ℤ u → v ≡ pos 4 *ℤ u → pos (b * b) <ℤ v
  quadruple u v a b e far is = subst (λ (n : ℕ). pos (n * n) <ℤ v) (sym e) (omega (arith, ints, far, is))

-- four times the product of two vectors is the difference of the squares of their sum and their difference
pub first_product : (c g h : List ℤ)
    → pos 4 *ℤ dot (first_of c g h) (middle_of c h) ≡ dot (difference (doubled c) g) (difference (doubled c) g) -ℤ dot (difference (doubled h) g) (difference (doubled h) g)
first_product c g h =
    let s = λ (k : ℕ). sub (add (from 0 k) (from 0 k)) (from 3 k) in let d = λ (k : ℕ). sub (add (from 6 k) (from 6 k)) (from 3 k) in
    ring (nine c g h) (mul (num (pos 4)) (dots F M)) (sub (dots s s) (dots d d)) refl

pub last_product : (c g h : List ℤ)
    → pos 4 *ℤ dot (middle_of c h) (last_of c g h) ≡ dot (sum (doubled c) g) (sum (doubled c) g) -ℤ dot (sum (doubled h) g) (sum (doubled h) g)
last_product c g h =
    let s = λ (k : ℕ). add (add (from 0 k) (from 0 k)) (from 3 k) in let d = λ (k : ℕ). add (add (from 6 k) (from 6 k)) (from 3 k) in
    ring (nine c g h) (mul (num (pos 4)) (dots M L)) (sub (dots s s) (dots d d)) refl

pub outer_product : (c g h : List ℤ) → dot (first_of c g h) (last_of c g h) ≡ dot (sum c h) (sum c h) -ℤ dot g g
outer_product c g h =
    let s = λ (k : ℕ). add (from 0 k) (from 6 k) in ring (nine c g h) (dots F L) (sub (dots s s) (dots (from 3) (from 3))) refl

quarter_far : (p s d : ℤ) (r e : ℕ) → pos 4 *ℤ p ≡ s -ℤ d → pos ((2 * r + e) * (2 * r + e)) <ℤ s → d ≤ℤ pos (e * e) → pos (r * r) <ℤ p
quarter_far p s d r e is far near = omega (arith, ints, is, far, near)

middle_far : (yy s xz gg : ℤ) (r g : ℕ) → xz ≡ s -ℤ gg → pos ((r + g) * (r + g)) <ℤ yy → pos ((r + g) * (r + g)) <ℤ s → gg ≤ℤ pos (g * g) → pos (3 * (r * r)) <ℤ (pos 2 *ℤ yy +ℤ xz)
middle_far yy s xz gg r g is far other near = omega (arith, ints, is, far, other, near)

pub all_far : (c g h : List ℤ) (r m n : ℕ) → pos ((r + (m + n)) * (r + (m + n))) <ℤ dot c c → dot g g ≤ℤ pos (m * m) → dot h h ≤ℤ pos (n * n)
    → AllFar (first_of c g h) (middle_of c h) (last_of c g h) r
all_far c g h r m n far gs hs =
    let near : (a b : ℕ) → a ≡ b → pos (b * b) <ℤ dot c c → pos (a * a) <ℤ dot c c = λ a b e. subst (λ (k : ℕ). pos (k * k) <ℤ dot c c) (sym e) in
    let back = difference_far c g (r + n) m (near (r + n + m) (r + (m + n)) (omega arith) far) gs in
    let forth = sum_far c g (r + n) m (near (r + n + m) (r + (m + n)) (omega arith) far) gs in
    let y = difference_far c h (r + m) n (near (r + m + n) (r + (m + n)) (omega arith) far) hs in
    let s = sum_far c h (r + m) n (near (r + m + n) (r + (m + n)) (omega arith) far) hs in
    let twice_h : dot (doubled h) (doubled h) ≤ℤ pos ((n + n) * (n + n)) = triangle h h n n hs hs in
    let twice_c : pos (((2 * r + (n + n + m)) + m) * ((2 * r + (n + n + m)) + m)) <ℤ dot (doubled c) (doubled c) = doubled_far c (r + (m + n)) ((2 * r + (n + n + m)) + m) (omega arith) far in
    record {
      xx = sum_far (difference c g) h r n back hs;
      xy = quarter_far _ _ _ r (n + n + m) (first_product c g h) (difference_far (doubled c) g (2 * r + (n + n + m)) m twice_c gs) (difference_triangle (doubled h) g (n + n) m twice_h gs);
      middle = middle_far _ _ _ _ r m (outer_product c g h) y s gs;
      yz = quarter_far _ _ _ r (n + n + m) (last_product c g h) (sum_far (doubled c) g (2 * r + (n + n + m)) m twice_c gs) (triangle (doubled h) g (n + n) m twice_h gs);
      zz = sum_far (sum c g) h r n forth hs;
    }
