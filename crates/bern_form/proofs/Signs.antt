-- The sign of a form whose coefficients share a strict sign.
use Rattle.std.proofs.Common.{◌≡◌, ℕ, zero, suc, ◌+◌, ◌*◌, ◌<◌, ◌≤◌, [], ◌∷◌, List, length, true, ℤ, pos, negsuc, ◌+ℤ◌, ◌*ℤ◌, neg_ℤ, ◌<ℤ◌, ◌≤ℤ◌, arith, refl}
use Rattle.std.proofs.lemmas.Int.{ints}
use Rattle.std.specs.List.{All}
use Rattle.bern_form.specs.Forms.{IsPlace, all_negative, all_positive, value1, value2, value4}
use Rattle.bern_form.proofs.Decided.{decides_negative, decides_positive}
use Rattle.bern_form.proofs.Relations.{AllNegative, AllPositive}
use Rattle.space.specs.Vectors.{at}
use Rattle.space.proofs.Solver.{var, neg, ring}
use Rattle.bern_form.proofs.FormTerms.{form1, form2, form4}
use Rattle.space.proofs.Terms.{from}

-- a number above 0 times one that is not below 0, and times one that is above 0
not_below : (c : ℤ) (m : ℕ) → pos 0 <ℤ c → pos 0 ≤ℤ (c *ℤ pos m)
not_below (pos k) m h = omega (arith, ints)
not_below (negsuc k) m h = absurd (omega (arith, ints))

above : (c : ℤ) (m : ℕ) → pos 0 <ℤ c → 0 < m → pos 0 <ℤ (c *ℤ pos m)
above (pos zero) m h p = absurd (omega (arith, ints))
above (pos (suc k)) (suc m) h p = omega (arith, ints)
above (negsuc k) m h p = absurd (omega (arith, ints))
above (pos (suc k)) zero h p = absurd (omega arith)

-- sums in which the first or the last product is above 0
above_sum3 : (c0 c1 c2 : ℤ) (m0 m1 m2 : ℕ) → pos 0 <ℤ c0 → pos 0 <ℤ c1 → pos 0 <ℤ c2 → 0 < m0 + m2
    → pos 0 <ℤ (c0 *ℤ pos m0 +ℤ c1 *ℤ pos m1 +ℤ c2 *ℤ pos m2)
above_sum3 c0 c1 c2 zero m1 m2 h0 h1 h2 p = omega (arith, ints, not_below c0 0 h0, not_below c1 m1 h1, above c2 m2 h2 (omega arith))
above_sum3 c0 c1 c2 (suc m0) m1 m2 h0 h1 h2 p = omega (arith, ints, above c0 (suc m0) h0 (omega arith), not_below c1 m1 h1, not_below c2 m2 h2)

above_sum5 : (c0 c1 c2 c3 c4 : ℤ) (m0 m1 m2 m3 m4 : ℕ) → pos 0 <ℤ c0 → pos 0 <ℤ c1 → pos 0 <ℤ c2 → pos 0 <ℤ c3 → pos 0 <ℤ c4 → 0 < m0 + m4
    → pos 0 <ℤ (c0 *ℤ pos m0 +ℤ c1 *ℤ pos m1 +ℤ c2 *ℤ pos m2 +ℤ c3 *ℤ pos m3 +ℤ c4 *ℤ pos m4)
above_sum5 c0 c1 c2 c3 c4 zero m1 m2 m3 m4 h0 h1 h2 h3 h4 p =
    omega (arith, ints, not_below c0 0 h0, not_below c1 m1 h1, not_below c2 m2 h2, not_below c3 m3 h3, above c4 m4 h4 (omega arith))
above_sum5 c0 c1 c2 c3 c4 (suc m0) m1 m2 m3 m4 h0 h1 h2 h3 h4 p =
    omega (arith, ints, above c0 (suc m0) h0 (omega arith), not_below c1 m1 h1, not_below c2 m2 h2, not_below c3 m3 h3, not_below c4 m4 h4)

ends2 : (x y : ℕ) → 0 < x + y → 0 < y * y + x * x
ends2 zero zero h = omega arith
ends2 zero (suc y) h = omega arith
ends2 (suc x) y h = omega arith

ends4 : (x y : ℕ) → 0 < x + y → 0 < y * y * (y * y) + x * x * (x * x)
ends4 zero zero h = omega arith
ends4 zero (suc y) h = omega arith
ends4 (suc x) y h = omega arith

pub positive1 : (c : List ℤ) (x y : ℕ) → 2 ≤ length c → AllPositive c → IsPlace x y → pos 0 <ℤ value1 c (pos x) (pos y)
positive1 c x zero n p h = let a = not_below (at c 0) 0 (p 0 (pos 0) (omega arith)) in let b = above (at c 1) x (p 1 (pos 0) (omega arith)) (omega arith) in omega (arith, ints, a, b)
positive1 c x (suc y) n p h =
    let a = above (at c 0) (suc y) (p 0 (pos 0) (omega arith)) (omega arith) in let b = not_below (at c 1) x (p 1 (pos 0) (omega arith)) in omega (arith, ints, a, b)

pub positive2 : (c : List ℤ) (x y : ℕ) → 3 ≤ length c → AllPositive c → IsPlace x y → pos 0 <ℤ value2 c (pos x) (pos y)
positive2 c x y n p h =
    above_sum3 (at c 0) (at c 1) (at c 2) (y * y) (x * y) (x * x)
    (p 0 (pos 0) (omega arith)) (p 1 (pos 0) (omega arith)) (p 2 (pos 0) (omega arith)) (ends2 x y h)

pub positive4 : (c : List ℤ) (x y : ℕ) → 5 ≤ length c → AllPositive c → IsPlace x y → pos 0 <ℤ value4 c (pos x) (pos y)
positive4 c x y n p h =
    above_sum5 (at c 0) (at c 1) (at c 2) (at c 3) (at c 4) (y * y * (y * y)) (x * y * (y * y)) (x * x * (y * y)) (x * x * (x * y)) (x * x * (x * x))
    (p 0 (pos 0) (omega arith)) (p 1 (pos 0) (omega arith)) (p 2 (pos 0) (omega arith)) (p 3 (pos 0) (omega arith)) (p 4 (pos 0) (omega arith)) (ends4 x y h)

-- the coefficients' opposites stand for the value's opposite
opposite2 : List ℤ → List ℤ
opposite2 c = neg_ℤ (at c 0) ∷ neg_ℤ (at c 1) ∷ neg_ℤ (at c 2) ∷ []

opposite4 : List ℤ → List ℤ
opposite4 c = neg_ℤ (at c 0) ∷ neg_ℤ (at c 1) ∷ neg_ℤ (at c 2) ∷ neg_ℤ (at c 3) ∷ neg_ℤ (at c 4) ∷ []

opposite2_is : (c : List ℤ) (x y : ℤ) → value2 (opposite2 c) x y ≡ neg_ℤ (value2 c x y)
unfolding opposite2
opposite2_is c x y = ring (at c 0 ∷ at c 1 ∷ at c 2 ∷ x ∷ y ∷ []) (form2 (λ k. neg (var k)) (var 3) (var 4)) (neg (form2 (from 0) (var 3) (var 4))) refl

opposite4_is : (c : List ℤ) (x y : ℤ) → value4 (opposite4 c) x y ≡ neg_ℤ (value4 c x y)
unfolding opposite4
opposite4_is c x y =
    ring (at c 0 ∷ at c 1 ∷ at c 2 ∷ at c 3 ∷ at c 4 ∷ x ∷ y ∷ []) (form4 (λ k. neg (var k)) (var 5) (var 6)) (neg (form4 (from 0) (var 5) (var 6))) refl

turned : (z : ℤ) → z <ℤ pos 0 → pos 0 <ℤ neg_ℤ z
turned z h = omega (arith, ints)

back : (z w : ℤ) → w ≡ neg_ℤ z → pos 0 <ℤ w → z <ℤ pos 0
back z w e h = omega (arith, ints)

opposite1 : (a b : ℤ) (x y : ℤ) → neg_ℤ a *ℤ y +ℤ neg_ℤ b *ℤ x ≡ neg_ℤ (a *ℤ y +ℤ b *ℤ x)
opposite1 a b x y = ring (a ∷ b ∷ x ∷ y ∷ []) (form1 (λ k. neg (var k)) (var 2) (var 3)) (neg (form1 (from 0) (var 2) (var 3))) refl

both : (P : ℤ → Type 0) (a b : ℤ) → P a → P b → All P (a ∷ b ∷ [])
both P a b h0 h1 zero d l = h0
both P a b h0 h1 (suc zero) d l = h1
both P a b h0 h1 (suc (suc k)) d l = absurd (omega arith)

pub negative1 : (c : List ℤ) (x y : ℕ) → 2 ≤ length c → AllNegative c → IsPlace x y → value1 c (pos x) (pos y) <ℤ pos 0
negative1 c x y n p h =
    let a = at c 0 in let b = at c 1 in
    back (value1 c (pos x) (pos y)) (value1 (neg_ℤ a ∷ neg_ℤ b ∷ []) (pos x) (pos y)) (opposite1 a b (pos x) (pos y))
    (positive1 (neg_ℤ a ∷ neg_ℤ b ∷ []) x y (omega arith) (both (λ z. pos 0 <ℤ z) (neg_ℤ a) (neg_ℤ b) (turned a (p 0 (pos 0) (omega arith))) (turned b (p 1 (pos 0) (omega arith)))) h)

pub negative2 : (c : List ℤ) (x y : ℕ) → 3 ≤ length c → AllNegative c → IsPlace x y → value2 c (pos x) (pos y) <ℤ pos 0
unfolding opposite2
negative2 c x y n p h =
    back (value2 c (pos x) (pos y)) (value2 (opposite2 c) (pos x) (pos y)) (opposite2_is c (pos x) (pos y))
    (above_sum3 (neg_ℤ (at c 0)) (neg_ℤ (at c 1)) (neg_ℤ (at c 2)) (y * y) (x * y) (x * x)
    (turned (at c 0) (p 0 (pos 0) (omega arith))) (turned (at c 1) (p 1 (pos 0) (omega arith))) (turned (at c 2) (p 2 (pos 0) (omega arith))) (ends2 x y h))

pub negative4 : (c : List ℤ) (x y : ℕ) → 5 ≤ length c → AllNegative c → IsPlace x y → value4 c (pos x) (pos y) <ℤ pos 0
unfolding opposite4
negative4 c x y n p h =
    back (value4 c (pos x) (pos y)) (value4 (opposite4 c) (pos x) (pos y)) (opposite4_is c (pos x) (pos y))
    (above_sum5 (neg_ℤ (at c 0)) (neg_ℤ (at c 1)) (neg_ℤ (at c 2)) (neg_ℤ (at c 3)) (neg_ℤ (at c 4)) (y * y * (y * y)) (x * y * (y * y)) (x * x * (y * y)) (x * x * (x * y)) (x * x * (x * x))
    (turned (at c 0) (p 0 (pos 0) (omega arith))) (turned (at c 1) (p 1 (pos 0) (omega arith))) (turned (at c 2) (p 2 (pos 0) (omega arith))) (turned (at c 3) (p 3 (pos 0) (omega arith)))
    (turned (at c 4) (p 4 (pos 0) (omega arith))) (ends4 x y h))

-- the same, by the tests
pub tested_positive2 : (c : List ℤ) (x y : ℕ) → 3 ≤ length c → all_positive c ≡ true → IsPlace x y → pos 0 <ℤ value2 c (pos x) (pos y)
tested_positive2 c x y long test place = positive2 c x y long ((decides_positive c).0 test) place

pub tested_negative2 : (c : List ℤ) (x y : ℕ) → 3 ≤ length c → all_negative c ≡ true → IsPlace x y → value2 c (pos x) (pos y) <ℤ pos 0
tested_negative2 c x y long test place = negative2 c x y long ((decides_negative c).0 test) place

pub tested_positive4 : (c : List ℤ) (x y : ℕ) → 5 ≤ length c → all_positive c ≡ true → IsPlace x y → pos 0 <ℤ value4 c (pos x) (pos y)
tested_positive4 c x y long test place = positive4 c x y long ((decides_positive c).0 test) place

pub tested_negative4 : (c : List ℤ) (x y : ℕ) → 5 ≤ length c → all_negative c ≡ true → IsPlace x y → value4 c (pos x) (pos y) <ℤ pos 0
tested_negative4 c x y long test place = negative4 c x y long ((decides_negative c).0 test) place
