-- Where a point isn't as high as a slab begins throughout a part of a move, it is no place of that slab.
use Rattle.std.proofs.Common.{◌≡◌, ℕ, zero, suc, ◌+◌, ◌*◌, ◌≤◌, ◌<◌, List, ℤ, pos, ◌+ℤ◌, ◌*ℤ◌, ◌-ℤ◌, ◌≤ℤ◌, ◌<ℤ◌, inl, inr, ⊎_elim, unsigned_abs, arith, refl}
use Rattle.std.proofs.lemmas.Int.{ints}
use borrow.Author.Differences.{abs_is}
use Rattle.space.specs.Vectors.{at, dot}
use Rattle.space.proofs.Naturals.{abs_mul}
use Rattle.space.proofs.Solver.{Term, num, add, mul, ring}
use Rattle.space.proofs.Terms.{dots, from}
use Rattle.bern_form.specs.Cells.{dot_on_cell, scaled_square}
use Rattle.bern_form.specs.Slab.{SlabSize}
use Rattle.bern_form.proofs.Finer.{ExcludedWith}
use Rattle.bern_form.proofs.HalfSigns.{all_five}
use Rattle.bern_form.proofs.Relations.{AllNegative}
use Rattle.sweep_boxes.proofs.Intervals.{behind_tip, height, height0, height1, height2, height3, height4, height_bend, height_change, height_first, height_last, height_middle, lift_height, lift_of, lift6, six, z6}
use Rattle.sweep_boxes.proofs.Kept.{under_or}
use Rattle.sweep_boxes.proofs.Numbers.{most_or_more}

-- z n is at least (r / 4)^2 at both ends, and z times the product of the axes there, so each coefficient of degree 4 is at least as
-- many times that
pub record IsAtLeast (z : ℤ) (a c : List ℤ) (r : ℕ) : Type 0 where
  pub first : pos (r * r) ≤ℤ (pos 16 *ℤ (z *ℤ dot a a))
  pub middle : pos (r * r) ≤ℤ (pos 16 *ℤ (z *ℤ dot a c))
  pub last : pos (r * r) ≤ℤ (pos 16 *ℤ (z *ℤ dot c c))

abbrev aa : Term
aa = mul z6 (dots (from 0) (from 0))

abbrev ac : Term
ac = mul z6 (dots (from 0) (from 3))

abbrev cc : Term
cc = mul z6 (dots (from 3) (from 3))

-- a coefficient of the height slack, and what a height's coefficient takes away
abbrev taken : ℤ → List ℤ → List ℤ → ℕ → ℤ
taken z a c i = pos 4 *ℤ ((pos 4 *ℤ z) *ℤ at (lift_of a c) i)

lift_at_least : (z : ℤ) (a c : List ℤ) (r : ℕ) → IsAtLeast z a c r
    → (pos (r * r) ≤ℤ taken z a c 0) × (pos (4 * (r * r)) ≤ℤ taken z a c 1) × (pos (6 * (r * r)) ≤ℤ taken z a c 2)
    × (pos (4 * (r * r)) ≤ℤ taken z a c 3) × (pos (r * r) ≤ℤ taken z a c 4)
lift_at_least z a c r h =
    let four : Term → Term = λ t. mul (num (pos 4)) (mul (mul (num (pos 4)) z6) t) in
    let e0 : taken z a c 0 ≡ pos 16 *ℤ (z *ℤ dot a a) = ring (six a c z) (four (lift6 0)) (mul (num (pos 16)) aa) refl in
    let e1 : taken z a c 1 ≡ pos 32 *ℤ (z *ℤ dot a a) +ℤ pos 32 *ℤ (z *ℤ dot a c) = ring (six a c z) (four (lift6 1)) (add (mul (num (pos 32)) aa) (mul (num (pos 32)) ac)) refl in
    let e2 : taken z a c 2 ≡ (pos 16 *ℤ (z *ℤ dot a a) +ℤ pos 64 *ℤ (z *ℤ dot a c)) +ℤ pos 16 *ℤ (z *ℤ dot c c) =
    ring (six a c z) (four (lift6 2)) (add (add (mul (num (pos 16)) aa) (mul (num (pos 64)) ac)) (mul (num (pos 16)) cc)) refl in
    let e3 : taken z a c 3 ≡ pos 32 *ℤ (z *ℤ dot a c) +ℤ pos 32 *ℤ (z *ℤ dot c c) = ring (six a c z) (four (lift6 3)) (add (mul (num (pos 32)) ac) (mul (num (pos 32)) cc)) refl in
    let e4 : taken z a c 4 ≡ pos 16 *ℤ (z *ℤ dot c c) = ring (six a c z) (four (lift6 4)) (mul (num (pos 16)) cc) refl in
    bounds (z *ℤ dot a a) (z *ℤ dot a c) (z *ℤ dot c c) r (taken z a c 0) (taken z a c 1) (taken z a c 2) (taken z a c 3) (taken z a c 4) h.first h.middle h.last e0 e1 e2 e3 e4 where
      bounds : (x y w : ℤ) (r : ℕ) (l0 l1 l2 l3 l4 : ℤ) → pos (r * r) ≤ℤ (pos 16 *ℤ x) → pos (r * r) ≤ℤ (pos 16 *ℤ y) → pos (r * r) ≤ℤ (pos 16 *ℤ w)
          → l0 ≡ pos 16 *ℤ x → l1 ≡ pos 32 *ℤ x +ℤ pos 32 *ℤ y → l2 ≡ (pos 16 *ℤ x +ℤ pos 64 *ℤ y) +ℤ pos 16 *ℤ w → l3 ≡ pos 32 *ℤ y +ℤ pos 32 *ℤ w → l4 ≡ pos 16 *ℤ w
          → (pos (r * r) ≤ℤ l0) × (pos (4 * (r * r)) ≤ℤ l1) × (pos (6 * (r * r)) ≤ℤ l2) × (pos (4 * (r * r)) ≤ℤ l3) × (pos (r * r) ≤ℤ l4)
      bounds x y w r l0 l1 l2 l3 l4 f m l e0 e1 e2 e3 e4 = (omega (arith, ints, e0, f), omega (arith, ints, e1, f, m), omega (arith, ints, e2, f, m, l), omega (arith, ints, e3, m, l), omega (arith, ints, e4, l))

-- numbers within r of zero have a product below r^2
product_within : (x y : ℤ) (r : ℕ) → unsigned_abs x < r → unsigned_abs y < r → (x *ℤ y) <ℤ pos (r * r)
product_within x y zero h k = absurd (omega (arith, h))
product_within x y (suc r) h k = let most = abs_mul x y r r (omega (arith, h)) (omega (arith, k)) in omega (arith, ints, most, abs_is (x *ℤ y))

below16 : (w v l : ℤ) (n : ℕ) → pos 16 *ℤ w ≡ v -ℤ l → v <ℤ pos n → pos n ≤ℤ l → w <ℤ pos 0
below16 w v l n e h u = omega (arith, ints, e, h, u)

four_below : (v : ℤ) (n : ℕ) → v <ℤ pos n → (pos 4 *ℤ v) <ℤ pos (4 * n)
four_below v n h = omega (arith, ints, h)

six_below : (u v : ℤ) (n : ℕ) → u <ℤ pos n → v <ℤ pos n → (pos 4 *ℤ u +ℤ pos 2 *ℤ v) <ℤ pos (6 * n)
six_below u v n h k = omega (arith, ints, h, k)

-- a height that what it may change by doesn't take as far from zero as r
pub record IsAmid (u v b : ℤ) (r m n : ℕ) : Type 0 where
  pub change : unsigned_abs v ≤ m
  pub bend : unsigned_abs b ≤ n
  pub above : (pos 0 -ℤ pos (m + n)) ≤ℤ u
  pub below : (u +ℤ pos (m + n)) <ℤ pos r
  pub room : 2 * (m + n) < r

amid_first : (u v b : ℤ) (r m n : ℕ) → IsAmid u v b r m n → unsigned_abs ((u -ℤ v) +ℤ b) < r
amid_first u v b r m n h = let v' = h.change in let b' = h.bend in omega (arith, ints, v', b', h.above, h.below, h.room, abs_is v, abs_is b, abs_is ((u -ℤ v) +ℤ b))

amid_middle : (u v b : ℤ) (r m n : ℕ) → IsAmid u v b r m n → unsigned_abs (u -ℤ b) < r
amid_middle u v b r m n h = let b' = h.bend in omega (arith, ints, b', h.above, h.below, h.room, abs_is b, abs_is (u -ℤ b))

amid_last : (u v b : ℤ) (r m n : ℕ) → IsAmid u v b r m n → unsigned_abs ((u +ℤ v) +ℤ b) < r
amid_last u v b r m n h = let v' = h.change in let b' = h.bend in omega (arith, ints, v', b', h.above, h.below, h.room, abs_is v, abs_is b, abs_is ((u +ℤ v) +ℤ b))

-- there the point is below the slab throughout
below_slab : (p q a c : List ℤ) (z : ℤ) (r m n : ℕ) → IsAtLeast z a c r
    → IsAmid (height p q a c) (height_change p q a c) (height_bend p q a c) r m n → AllNegative (lift_height p q a c z)
below_slab p q a c z r m n least h =
    let l = lift_at_least z a c r least in
    let u = height p q a c in let v = height_change p q a c in let b = height_bend p q a c in
    let x = amid_first u v b r m n h in let y = amid_middle u v b r m n h in let e = amid_last u v b r m n h in
    let w = lift_height p q a c z in
    let X1 = height_first p q a c in let Y1 = height_middle p q a c in let Z1 = height_last p q a c in
    all_five (λ y. y <ℤ pos 0) (at w 0) (at w 1) (at w 2) (at w 3) (at w 4)
    (below16 _ _ _ (r * r) (height0 p q a c z) (product_within X1 X1 r x x) l.0)
    (below16 _ _ _ (4 * (r * r)) (height1 p q a c z) (four_below _ (r * r) (product_within X1 Y1 r x y)) l.1)
    (below16 _ _ _ (6 * (r * r)) (height2 p q a c z) (six_below _ _ (r * r) (product_within Y1 Y1 r y y) (product_within X1 Z1 r x e)) l.2)
    (below16 _ _ _ (4 * (r * r)) (height3 p q a c z) (four_below _ (r * r) (product_within Y1 Z1 r y e)) l.3)
    (below16 _ _ _ (r * r) (height4 p q a c z) (product_within Z1 Z1 r e e) l.4)

-- so a place of a slab is no lower than the slab begins, except for what its height may change by
pub risen_by : (p q a c : List ℤ) (S : ℕ) (slab : SlabSize) (r m n : ℕ) → IsAtLeast (scaled_square S slab.lo) a c r
    → ¬ ExcludedWith slab S (dot_on_cell p q a c) (dot_on_cell a c a c) (dot_on_cell p q p q)
    → unsigned_abs (height_change p q a c) ≤ m → unsigned_abs (height_bend p q a c) ≤ n → 2 * (m + n) < r → (pos r -ℤ pos (m + n)) ≤ℤ height p q a c
risen_by p q a c S slab r m n least left change bend room =
    let u = height p q a c in
    ⊎_elim (λ high. high)
    (λ low.
    let above : (pos 0 -ℤ pos (m + n)) ≤ℤ u =
    ⊎_elim (λ in_front. in_front) (λ behind. absurd (left (inl (behind_tip p q a c m n record { change = change; bend = bend; behind = behind })))) (under_or u (m + n)) in
    absurd (left (inr (inl (below_slab p q a c (scaled_square S slab.lo) r m n least record { change = change; bend = bend; above = above; below = lower u r (m + n) low; room = room })))))
    (most_or_more (pos r -ℤ pos (m + n)) u) where
      lower : (u : ℤ) (r n : ℕ) → (u +ℤ pos 1) ≤ℤ (pos r -ℤ pos n) → (u +ℤ pos n) <ℤ pos r
      lower u r n h = omega (arith, ints, h)
