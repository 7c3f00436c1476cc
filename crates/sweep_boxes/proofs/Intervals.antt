-- A part of a move by the offsets p and q of a point and the axes a and c at its two ends. Its forms are those of the middle, moved
-- by the same amount to either side.
use Rattle.std.proofs.Common.{◌≡◌, ℕ, zero, suc, ◌+◌, ◌*◌, ◌≤◌, [], ◌∷◌, List, ℤ, pos, negsuc, ◌+ℤ◌, ◌*ℤ◌, ◌-ℤ◌, ◌≤ℤ◌, ◌<ℤ◌, ◌⊎◌, inl, inr, ⊎_elim, unsigned_abs, arith, refl}
use Rattle.std.specs.List.{All}
use Rattle.std.proofs.lemmas.Int.{ints}
use Rattle.std.proofs.Math.Nat.{mul-le-mul}
use borrow.Author.Differences.{abs_is}
use Rattle.space.specs.Vectors.{at, cross, difference, dot, sum}
use Rattle.space.proofs.Naturals.{dot_natural}
use Rattle.space.proofs.Solver.{Term, var, num, add, mul, ring}
use Rattle.space.proofs.Terms.{dots, from, sub}
use Rattle.bern_form.specs.Forms.{lifted}
use Rattle.bern_form.specs.Between.{height_less, width_less}
use Rattle.bern_form.specs.Cells.{dot_on_cell}
use Rattle.bern_form.proofs.HalfSigns.{all_five}
use Rattle.bern_form.proofs.Relations.{AllNegative, AllPositive}
use Rattle.sweep_boxes.proofs.Fat.{AllFar, all_far, first_of, last_of, middle_of}

-- the sums of both ends' vectors, and their products: the point's moment about the tip, and its height, times constants
abbrev pub moment : List ℤ → List ℤ → List ℤ → List ℤ → List ℤ
moment p q a c = cross (sum p q) (sum a c)

-- how the moment changes to either end, and how it is bent
abbrev pub moment_change : List ℤ → List ℤ → List ℤ → List ℤ → List ℤ
moment_change p q a c = sum (cross (difference q p) (sum a c)) (cross (sum p q) (difference c a))

abbrev pub moment_bend : List ℤ → List ℤ → List ℤ → List ℤ → List ℤ
moment_bend p q a c = cross (difference q p) (difference c a)

abbrev pub height : List ℤ → List ℤ → List ℤ → List ℤ → ℤ
height p q a c = dot (sum p q) (sum a c)

abbrev pub height_change : List ℤ → List ℤ → List ℤ → List ℤ → ℤ
height_change p q a c = dot (difference q p) (sum a c) +ℤ dot (sum p q) (difference c a)

abbrev pub height_bend : List ℤ → List ℤ → List ℤ → List ℤ → ℤ
height_bend p q a c = dot (difference q p) (difference c a)

abbrev twelve : List ℤ → List ℤ → List ℤ → List ℤ → ℤ → List ℤ
twelve p q a c f = at p 0 ∷ at p 1 ∷ at p 2 ∷ at q 0 ∷ at q 1 ∷ at q 2 ∷ at a 0 ∷ at a 1 ∷ at a 2 ∷ at c 0 ∷ at c 1 ∷ at c 2 ∷ f ∷ []

-- terms for vectors: a component by its number
abbrev plus : (ℕ → Term) → (ℕ → Term) → ℕ → Term
plus p q k = add (p k) (q k)

abbrev less : (ℕ → Term) → (ℕ → Term) → ℕ → Term
less p q k = sub (p k) (q k)

abbrev crossed : (ℕ → Term) → (ℕ → Term) → ℕ → Term
crossed p a zero = sub (mul (p 1) (a 2)) (mul (p 2) (a 1))
crossed p a (suc zero) = sub (mul (p 2) (a 0)) (mul (p 0) (a 2))
crossed p a (suc (suc k)) = sub (mul (p 0) (a 1)) (mul (p 1) (a 0))

abbrev P : ℕ → Term
P k = var k

abbrev Q : ℕ → Term
Q k = var (3 + k)

abbrev A : ℕ → Term
A k = var (6 + k)

abbrev C : ℕ → Term
C k = var (9 + k)

abbrev f : Term
f = var 12

abbrev M : ℕ → Term
M = crossed (plus P Q) (plus A C)

abbrev G : ℕ → Term
G = plus (crossed (less Q P) (plus A C)) (crossed (plus P Q) (less C A))

abbrev H : ℕ → Term
H = crossed (less Q P) (less C A)

abbrev X : ℕ → Term
X = plus (less M G) H

abbrev Y : ℕ → Term
Y = less M H

abbrev Z : ℕ → Term
Z = plus (plus M G) H

-- coefficients as terms
abbrev product11 : Term → Term → Term → Term → ℕ → Term
product11 a b c d zero = mul a c
product11 a b c d (suc zero) = add (mul a d) (mul b c)
product11 a b c d (suc (suc k)) = mul b d

abbrev on_cell : (ℕ → Term) → (ℕ → Term) → (ℕ → Term) → (ℕ → Term) → ℕ → Term
on_cell p q a c k = add (add (product11 (p 0) (q 0) (a 0) (c 0) k) (product11 (p 1) (q 1) (a 1) (c 1) k)) (product11 (p 2) (q 2) (a 2) (c 2) k)

abbrev conv : (ℕ → Term) → (ℕ → Term) → ℕ → Term
conv a b zero = mul (a 0) (b 0)
conv a b (suc zero) = add (mul (a 0) (b 1)) (mul (a 1) (b 0))
conv a b (suc (suc zero)) = add (add (mul (a 0) (b 2)) (mul (a 1) (b 1))) (mul (a 2) (b 0))
conv a b (suc (suc (suc zero))) = add (mul (a 1) (b 2)) (mul (a 2) (b 1))
conv a b (suc (suc (suc (suc k)))) = mul (a 2) (b 2)

abbrev ones : ℕ → Term
ones zero = num (pos 1)
ones (suc zero) = num (pos 2)
ones (suc (suc k)) = num (pos 1)

abbrev U : ℕ → Term
U = on_cell P Q A C

abbrev N : ℕ → Term
N = on_cell A C A C

abbrev D : ℕ → Term
D = on_cell P Q P Q

abbrev W : ℕ → Term
W k = sub (mul (num (pos 4)) (sub (conv D N k) (conv U U k))) (conv (λ i. mul f (N i)) ones k)

abbrev lift : ℕ → Term
lift = conv N ones

-- four times a coefficient of the width, by the products of the three vectors
abbrev four : Term → Term
four t = mul (num (pos 4)) t

-- the three vectors of the moment
abbrev pub moment_first : List ℤ → List ℤ → List ℤ → List ℤ → List ℤ
moment_first p q a c = first_of (moment p q a c) (moment_change p q a c) (moment_bend p q a c)

abbrev pub moment_middle : List ℤ → List ℤ → List ℤ → List ℤ → List ℤ
moment_middle p q a c = middle_of (moment p q a c) (moment_bend p q a c)

abbrev pub moment_last : List ℤ → List ℤ → List ℤ → List ℤ → List ℤ
moment_last p q a c = last_of (moment p q a c) (moment_change p q a c) (moment_bend p q a c)

abbrev width_of : List ℤ → List ℤ → List ℤ → List ℤ → ℤ → List ℤ
width_of p q a c z = width_less z (dot_on_cell p q a c) (dot_on_cell a c a c) (dot_on_cell p q p q)

abbrev pub lift_of : List ℤ → List ℤ → List ℤ
lift_of a c = lifted (dot_on_cell a c a c)

width0 : (p q a c : List ℤ) (z : ℤ) → pos 4 *ℤ at (width_of p q a c z) 0 ≡ dot (moment_first p q a c) (moment_first p q a c) -ℤ pos 4 *ℤ (z *ℤ at (lift_of a c) 0)
width0 p q a c z = ring (twelve p q a c z) (four (W 0)) (sub (dots X X) (four (mul f (lift 0)))) refl

width1 : (p q a c : List ℤ) (z : ℤ)
    → pos 4 *ℤ at (width_of p q a c z) 1 ≡ pos 4 *ℤ dot (moment_first p q a c) (moment_middle p q a c) -ℤ pos 4 *ℤ (z *ℤ at (lift_of a c) 1)
width1 p q a c z = ring (twelve p q a c z) (four (W 1)) (sub (four (dots X Y)) (four (mul f (lift 1)))) refl

width2 : (p q a c : List ℤ) (z : ℤ)
    → pos 4 *ℤ at (width_of p q a c z) 2
    ≡ pos 2 *ℤ (pos 2 *ℤ dot (moment_middle p q a c) (moment_middle p q a c) +ℤ dot (moment_first p q a c) (moment_last p q a c)) -ℤ pos 4 *ℤ (z *ℤ at (lift_of a c) 2)
width2 p q a c z = ring (twelve p q a c z) (four (W 2)) (sub (mul (num (pos 2)) (add (mul (num (pos 2)) (dots Y Y)) (dots X Z))) (four (mul f (lift 2)))) refl

width3 : (p q a c : List ℤ) (z : ℤ)
    → pos 4 *ℤ at (width_of p q a c z) 3 ≡ pos 4 *ℤ dot (moment_middle p q a c) (moment_last p q a c) -ℤ pos 4 *ℤ (z *ℤ at (lift_of a c) 3)
width3 p q a c z = ring (twelve p q a c z) (four (W 3)) (sub (four (dots Y Z)) (four (mul f (lift 3)))) refl

width4 : (p q a c : List ℤ) (z : ℤ) → pos 4 *ℤ at (width_of p q a c z) 4 ≡ dot (moment_last p q a c) (moment_last p q a c) -ℤ pos 4 *ℤ (z *ℤ at (lift_of a c) 4)
width4 p q a c z = ring (twelve p q a c z) (four (W 4)) (sub (dots Z Z) (four (mul f (lift 4)))) refl

-- z n is at most r^2 / 4 at both ends, so each coefficient of degree 4 is at most its multiple of that
pub record IsUnder (z : ℤ) (a c : List ℤ) (r : ℕ) : Type 0 where
  pub some : pos 0 ≤ℤ z
  pub first : (pos 4 *ℤ (z *ℤ dot a a)) ≤ℤ pos (r * r)
  pub last : (pos 4 *ℤ (z *ℤ dot c c)) ≤ℤ pos (r * r)

abbrev pub six : List ℤ → List ℤ → ℤ → List ℤ
six a c z = at a 0 ∷ at a 1 ∷ at a 2 ∷ at c 0 ∷ at c 1 ∷ at c 2 ∷ z ∷ []

abbrev pub lift6 : ℕ → Term
lift6 = conv (on_cell (from 0) (from 3) (from 0) (from 3)) ones

abbrev pub z6 : Term
z6 = var 6

abbrev aa : Term
aa = mul z6 (dots (from 0) (from 0))

abbrev ac : Term
ac = mul z6 (dots (from 0) (from 3))

abbrev cc6 : Term
cc6 = mul z6 (dots (from 3) (from 3))

lift_under : (z : ℤ) (a c : List ℤ) (r : ℕ) → IsUnder z a c r
    → ((pos 4 *ℤ (z *ℤ at (lift_of a c) 0)) ≤ℤ pos (r * r)) × ((pos 4 *ℤ (z *ℤ at (lift_of a c) 1)) ≤ℤ pos (4 * (r * r))) × ((pos 4 *ℤ (z *ℤ at (lift_of a c) 2)) ≤ℤ pos (6 * (r * r)))
    × ((pos 4 *ℤ (z *ℤ at (lift_of a c) 3)) ≤ℤ pos (4 * (r * r))) × ((pos 4 *ℤ (z *ℤ at (lift_of a c) 4)) ≤ℤ pos (r * r))
lift_under z a c r h =
    let apart : z *ℤ dot (difference a c) (difference a c) ≡ (z *ℤ dot a a -ℤ pos 2 *ℤ (z *ℤ dot a c)) +ℤ z *ℤ dot c c =
    ring (six a c z) (mul z6 (dots (less (from 0) (from 3)) (less (from 0) (from 3)))) (add (sub aa (mul (num (pos 2)) ac)) cc6) refl in
    let some = product_some z (dot (difference a c) (difference a c)) h.some (dot_natural (difference a c)) in
    let e0 : z *ℤ at (lift_of a c) 0 ≡ z *ℤ dot a a = ring (six a c z) (mul z6 (lift6 0)) aa refl in
    let e1 : z *ℤ at (lift_of a c) 1 ≡ pos 2 *ℤ (z *ℤ dot a a) +ℤ pos 2 *ℤ (z *ℤ dot a c) = ring (six a c z) (mul z6 (lift6 1)) (add (mul (num (pos 2)) aa) (mul (num (pos 2)) ac)) refl in
    let e2 : z *ℤ at (lift_of a c) 2 ≡ (z *ℤ dot a a +ℤ pos 4 *ℤ (z *ℤ dot a c)) +ℤ z *ℤ dot c c = ring (six a c z) (mul z6 (lift6 2)) (add (add aa (four ac)) cc6) refl in
    let e3 : z *ℤ at (lift_of a c) 3 ≡ pos 2 *ℤ (z *ℤ dot a c) +ℤ pos 2 *ℤ (z *ℤ dot c c) = ring (six a c z) (mul z6 (lift6 3)) (add (mul (num (pos 2)) ac) (mul (num (pos 2)) cc6)) refl in
    let e4 : z *ℤ at (lift_of a c) 4 ≡ z *ℤ dot c c = ring (six a c z) (mul z6 (lift6 4)) cc6 refl in
    bounds (z *ℤ dot a a) (z *ℤ dot a c) (z *ℤ dot c c) (z *ℤ dot (difference a c) (difference a c)) r
    (z *ℤ at (lift_of a c) 0) (z *ℤ at (lift_of a c) 1) (z *ℤ at (lift_of a c) 2) (z *ℤ at (lift_of a c) 3) (z *ℤ at (lift_of a c) 4)
    apart some h.first h.last e0 e1 e2 e3 e4 where
      product_some : (z d : ℤ) → pos 0 ≤ℤ z → pos 0 ≤ℤ d → pos 0 ≤ℤ (z *ℤ d)
      product_some (pos m) (pos n) h k = omega (arith, ints)
      product_some (negsuc m) d h k = absurd (omega (arith, ints, h))
      product_some (pos m) (negsuc n) h k = absurd (omega (arith, ints, k))

      bounds : (n0 m n2 d : ℤ) (r : ℕ) (l0 l1 l2 l3 l4 : ℤ) → d ≡ (n0 -ℤ pos 2 *ℤ m) +ℤ n2 → pos 0 ≤ℤ d → (pos 4 *ℤ n0) ≤ℤ pos (r * r) → (pos 4 *ℤ n2) ≤ℤ pos (r * r)
          → l0 ≡ n0 → l1 ≡ pos 2 *ℤ n0 +ℤ pos 2 *ℤ m → l2 ≡ (n0 +ℤ pos 4 *ℤ m) +ℤ n2 → l3 ≡ pos 2 *ℤ m +ℤ pos 2 *ℤ n2 → l4 ≡ n2
          → ((pos 4 *ℤ l0) ≤ℤ pos (r * r)) × ((pos 4 *ℤ l1) ≤ℤ pos (4 * (r * r))) × ((pos 4 *ℤ l2) ≤ℤ pos (6 * (r * r))) × ((pos 4 *ℤ l3) ≤ℤ pos (4 * (r * r))) × ((pos 4 *ℤ l4) ≤ℤ pos (r * r))
      bounds n0 m n2 d r l0 l1 l2 l3 l4 apart some first last e0 e1 e2 e3 e4 =
          (omega (arith, ints, e0, first), omega (arith, ints, apart, some, e1, first, last), omega (arith, ints, apart, some, e2, first, last), omega (arith, ints, apart, some, e3, first, last), omega (arith, ints, e4, last))

above : (w v l : ℤ) (k n : ℕ) → pos 4 *ℤ w ≡ v -ℤ l → pos n <ℤ v → l ≤ℤ pos n → pos 0 <ℤ w
above w v l k n e h u = omega (arith, ints, e, h, u)

times4 : (v : ℤ) (n : ℕ) → pos n <ℤ v → pos (4 * n) <ℤ (pos 4 *ℤ v)
times4 v n h = omega (arith, ints, h)

times2 : (v : ℤ) (n : ℕ) → pos (3 * n) <ℤ v → pos (6 * n) <ℤ (pos 2 *ℤ v)
times2 v n h = omega (arith, ints, h)

-- where the moment is long enough throughout, the point is beside the slab
pub beside_by : (p q a c : List ℤ) (z : ℤ) (r : ℕ) → IsUnder z a c r → AllFar (moment_first p q a c) (moment_middle p q a c) (moment_last p q a c) r → AllPositive (width_of p q a c z)
beside_by p q a c z r under t =
    let l = lift_under z a c r under in
    let w = width_of p q a c z in
    all_five (λ y. pos 0 <ℤ y) (at w 0) (at w 1) (at w 2) (at w 3) (at w 4)
    (above _ _ _ 0 (r * r) (width0 p q a c z) t.xx l.0)
    (above _ _ _ 1 (4 * (r * r)) (width1 p q a c z) (times4 _ (r * r) t.xy) l.1)
    (above _ _ _ 2 (6 * (r * r)) (width2 p q a c z) (times2 _ (r * r) t.middle) l.2)
    (above _ _ _ 3 (4 * (r * r)) (width3 p q a c z) (times4 _ (r * r) t.yz) l.3)
    (above _ _ _ 4 (r * r) (width4 p q a c z) t.zz l.4)

-- so where it is long enough in the middle
pub beside : (p q a c : List ℤ) (z : ℤ) (r m n : ℕ) → IsUnder z a c r
    → dot (moment_change p q a c) (moment_change p q a c) ≤ℤ pos (m * m) → dot (moment_bend p q a c) (moment_bend p q a c) ≤ℤ pos (n * n)
    → pos ((r + (m + n)) * (r + (m + n))) <ℤ dot (moment p q a c) (moment p q a c)
    → AllPositive (width_of p q a c z)
beside p q a c z r m n under change bend far = beside_by p q a c z r under (all_far (moment p q a c) (moment_change p q a c) (moment_bend p q a c) r m n far change bend)

-- the same of the height above the tip
abbrev pub height_first : List ℤ → List ℤ → List ℤ → List ℤ → ℤ
height_first p q a c = (height p q a c -ℤ height_change p q a c) +ℤ height_bend p q a c

abbrev pub height_middle : List ℤ → List ℤ → List ℤ → List ℤ → ℤ
height_middle p q a c = height p q a c -ℤ height_bend p q a c

abbrev pub height_last : List ℤ → List ℤ → List ℤ → List ℤ → ℤ
height_last p q a c = (height p q a c +ℤ height_change p q a c) +ℤ height_bend p q a c

abbrev pub lift_height : List ℤ → List ℤ → List ℤ → List ℤ → ℤ → List ℤ
lift_height p q a c z = height_less z (dot_on_cell p q a c) (dot_on_cell a c a c)

abbrev E : Term
E = dots (plus P Q) (plus A C)

abbrev V : Term
V = add (dots (less Q P) (plus A C)) (dots (plus P Q) (less C A))

abbrev B : Term
B = dots (less Q P) (less C A)

abbrev x1 : Term
x1 = add (sub E V) B

abbrev y1 : Term
y1 = sub E B

abbrev z1 : Term
z1 = add (add E V) B

abbrev T : ℕ → Term
T k = sub (conv U U k) (conv (λ i. mul f (N i)) ones k)

abbrev pub sixteen : Term → Term
sixteen t = mul (num (pos 16)) t

abbrev taken : ℕ → Term
taken k = four (mul (four f) (lift k))

pub height0 : (p q a c : List ℤ) (z : ℤ) → pos 16 *ℤ at (lift_height p q a c z) 0 ≡ height_first p q a c *ℤ height_first p q a c -ℤ pos 4 *ℤ ((pos 4 *ℤ z) *ℤ at (lift_of a c) 0)
height0 p q a c z = ring (twelve p q a c z) (sixteen (T 0)) (sub (mul x1 x1) (taken 0)) refl

pub height1 : (p q a c : List ℤ) (z : ℤ)
    → pos 16 *ℤ at (lift_height p q a c z) 1 ≡ pos 4 *ℤ (height_first p q a c *ℤ height_middle p q a c) -ℤ pos 4 *ℤ ((pos 4 *ℤ z) *ℤ at (lift_of a c) 1)
height1 p q a c z = ring (twelve p q a c z) (sixteen (T 1)) (sub (four (mul x1 y1)) (taken 1)) refl

pub height2 : (p q a c : List ℤ) (z : ℤ)
    → pos 16 *ℤ at (lift_height p q a c z) 2
    ≡ (pos 4 *ℤ (height_middle p q a c *ℤ height_middle p q a c) +ℤ pos 2 *ℤ (height_first p q a c *ℤ height_last p q a c)) -ℤ pos 4 *ℤ ((pos 4 *ℤ z) *ℤ at (lift_of a c) 2)
height2 p q a c z = ring (twelve p q a c z) (sixteen (T 2)) (sub (add (four (mul y1 y1)) (mul (num (pos 2)) (mul x1 z1))) (taken 2)) refl

pub height3 : (p q a c : List ℤ) (z : ℤ)
    → pos 16 *ℤ at (lift_height p q a c z) 3 ≡ pos 4 *ℤ (height_middle p q a c *ℤ height_last p q a c) -ℤ pos 4 *ℤ ((pos 4 *ℤ z) *ℤ at (lift_of a c) 3)
height3 p q a c z = ring (twelve p q a c z) (sixteen (T 3)) (sub (four (mul y1 z1)) (taken 3)) refl

pub height4 : (p q a c : List ℤ) (z : ℤ) → pos 16 *ℤ at (lift_height p q a c z) 4 ≡ height_last p q a c *ℤ height_last p q a c -ℤ pos 4 *ℤ ((pos 4 *ℤ z) *ℤ at (lift_of a c) 4)
height4 p q a c z = ring (twelve p q a c z) (sixteen (T 4)) (sub (mul z1 z1) (taken 4)) refl

-- numbers above r have a product above r^2
product_over : (x y : ℤ) (r : ℕ) → pos r <ℤ x → pos r <ℤ y → pos (r * r) <ℤ (x *ℤ y)
product_over (pos m) (pos n) r h k =
    let more = mul-le-mul (over m r h) (over n r k) in omega (arith, ints, more) where
      over : (m r : ℕ) → pos r <ℤ pos m → r + 1 ≤ m
      over m r h = omega (arith, ints, h)
product_over (negsuc m) y r h k = absurd (omega (arith, ints, h))
product_over (pos m) (negsuc n) r h k = absurd (omega (arith, ints, k))

over16 : (w v l : ℤ) (n : ℕ) → pos 16 *ℤ w ≡ v -ℤ l → pos n <ℤ v → l ≤ℤ pos n → pos 0 <ℤ w
over16 w v l n e h u = omega (arith, ints, e, h, u)

both : (u v : ℤ) (n : ℕ) → pos n <ℤ u → pos n <ℤ v → pos (6 * n) <ℤ (pos 4 *ℤ u +ℤ pos 2 *ℤ v)
both u v n h k = omega (arith, ints, h, k)

-- a height and what it may change by
pub record IsOver (u v b : ℤ) (r m n : ℕ) : Type 0 where
  pub change : unsigned_abs v ≤ m
  pub bend : unsigned_abs b ≤ n
  pub over : pos (r + (m + n)) <ℤ u

over_first : (u v b : ℤ) (r m n : ℕ) → IsOver u v b r m n → pos r <ℤ ((u -ℤ v) +ℤ b)
over_first u v b r m n h = let v' = h.change in let b' = h.bend in omega (arith, ints, v', b', h.over, abs_is v, abs_is b)

over_middle : (u v b : ℤ) (r m n : ℕ) → IsOver u v b r m n → pos r <ℤ (u -ℤ b)
over_middle u v b r m n h = let b' = h.bend in omega (arith, ints, b', h.over, abs_is b)

over_last : (u v b : ℤ) (r m n : ℕ) → IsOver u v b r m n → pos r <ℤ ((u +ℤ v) +ℤ b)
over_last u v b r m n h = let v' = h.change in let b' = h.bend in omega (arith, ints, v', b', h.over, abs_is v, abs_is b)

-- where the height is great enough the point is above the slab throughout
pub above_slab : (p q a c : List ℤ) (z : ℤ) (r m n : ℕ) → IsUnder (pos 4 *ℤ z) a c r
    → IsOver (height p q a c) (height_change p q a c) (height_bend p q a c) r m n → AllPositive (lift_height p q a c z)
above_slab p q a c z r m n under h =
    let l = lift_under (pos 4 *ℤ z) a c r under in
    let u = height p q a c in let v = height_change p q a c in let b = height_bend p q a c in
    let x = over_first u v b r m n h in let y = over_middle u v b r m n h in let e = over_last u v b r m n h in
    let w = lift_height p q a c z in
    let X1 = height_first p q a c in let Y1 = height_middle p q a c in let Z1 = height_last p q a c in
    all_five (λ y. pos 0 <ℤ y) (at w 0) (at w 1) (at w 2) (at w 3) (at w 4)
    (over16 _ _ _ (r * r) (height0 p q a c z) (product_over X1 X1 r x x) l.0)
    (over16 _ _ _ (4 * (r * r)) (height1 p q a c z) (times4 _ (r * r) (product_over X1 Y1 r x y)) l.1)
    (over16 _ _ _ (6 * (r * r)) (height2 p q a c z) (both _ _ (r * r) (product_over Y1 Y1 r y y) (product_over X1 Z1 r x e)) l.2)
    (over16 _ _ _ (4 * (r * r)) (height3 p q a c z) (times4 _ (r * r) (product_over Y1 Z1 r y e)) l.3)
    (over16 _ _ _ (r * r) (height4 p q a c z) (product_over Z1 Z1 r e e) l.4)

-- where it is low enough the point is behind the tip throughout
pub record IsBehind (u v b : ℤ) (m n : ℕ) : Type 0 where
  pub change : unsigned_abs v ≤ m
  pub bend : unsigned_abs b ≤ n
  pub behind : (u +ℤ pos (m + n)) <ℤ pos 0

u0 : (p q a c : List ℤ) → pos 4 *ℤ at (dot_on_cell p q a c) 0 ≡ height_first p q a c
u0 p q a c = ring (twelve p q a c (pos 0)) (four (U 0)) x1 refl

u1 : (p q a c : List ℤ) → pos 2 *ℤ at (dot_on_cell p q a c) 1 ≡ height_middle p q a c
u1 p q a c = ring (twelve p q a c (pos 0)) (mul (num (pos 2)) (U 1)) y1 refl

u2 : (p q a c : List ℤ) → pos 4 *ℤ at (dot_on_cell p q a c) 2 ≡ height_last p q a c
u2 p q a c = ring (twelve p q a c (pos 0)) (four (U 2)) z1 refl

below4 : (u v b w s : ℤ) (m n : ℕ) → IsBehind u v b m n → (s ≡ (u -ℤ v) +ℤ b) ⊎ ((s ≡ u -ℤ b) ⊎ (s ≡ (u +ℤ v) +ℤ b)) → (pos 4 *ℤ w ≡ s) ⊎ (pos 2 *ℤ w ≡ s) → w <ℤ pos 0
below4 u v b w s m n h e d =
    let v' = h.change in let b' = h.bend in let l = h.behind in let va = abs_is v in let ba = abs_is b in
    let neg : s <ℤ pos 0 = ⊎_elim (λ e. omega (arith, ints, e, v', b', l, va, ba)) (λ r. ⊎_elim (λ e. omega (arith, ints, e, v', b', l, va, ba)) (λ e. omega (arith, ints, e, v', b', l, va, ba)) r) e in
    ⊎_elim (λ e. omega (arith, ints, e, neg)) (λ e. omega (arith, ints, e, neg)) d

all_three : (P : ℤ → Type 0) (a b c : ℤ) → P a → P b → P c → All P (a ∷ b ∷ c ∷ [])
all_three P a b c h0 h1 h2 zero d l = h0
all_three P a b c h0 h1 h2 (suc zero) d l = h1
all_three P a b c h0 h1 h2 (suc (suc zero)) d l = h2
all_three P a b c h0 h1 h2 (suc (suc (suc k))) d l = absurd (omega arith)

pub behind_tip : (p q a c : List ℤ) (m n : ℕ) → IsBehind (height p q a c) (height_change p q a c) (height_bend p q a c) m n → AllNegative (dot_on_cell p q a c)
behind_tip p q a c m n h =
    let u = height p q a c in let v = height_change p q a c in let b = height_bend p q a c in
    let w = dot_on_cell p q a c in
    all_three (λ z. z <ℤ pos 0) (at w 0) (at w 1) (at w 2)
    (below4 u v b (at w 0) (height_first p q a c) m n h (inl refl) (inl (u0 p q a c)))
    (below4 u v b (at w 1) (height_middle p q a c) m n h (inr (inl refl)) (inr (u1 p q a c)))
    (below4 u v b (at w 2) (height_last p q a c) m n h (inr (inr refl)) (inl (u2 p q a c)))
