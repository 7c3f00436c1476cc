-- A point's place along each axis, by its height and its moment about a tip: |a|^2 p = (p.a) a + a x (p x a).
use Rattle.std.proofs.Common.{◌≡◌, ℕ, zero, suc, ◌*◌, ◌≤◌, ◌<◌, [], ◌∷◌, List, ℤ, pos, ◌+ℤ◌, ◌*ℤ◌, ◌-ℤ◌, ◌≤ℤ◌, unsigned_abs, arith, refl, sym, subst, ◌∙◌}
use Rattle.std.proofs.lemmas.Int.{ints}
use Rattle.space.specs.Vectors.{at, cross, dot}
use Rattle.space.proofs.Naturals.{square_not_negative}
use Rattle.space.proofs.Solver.{Term, var, num, add, mul, ring}
use Rattle.space.proofs.Terms.{dots, from, sub, square}
use Rattle.sweep_boxes.proofs.Triangle.{schwarz}

abbrev pair : List ℤ → List ℤ → List ℤ
pair p a = at p 0 ∷ at p 1 ∷ at p 2 ∷ at a 0 ∷ at a 1 ∷ at a 2 ∷ []

abbrev U : Term
U = dots (from 0) (from 3)

abbrev N : Term
N = dots (from 3) (from 3)

abbrev K0 : Term
K0 = sub (mul (var 1) (var 5)) (mul (var 2) (var 4))

abbrev K1 : Term
K1 = sub (mul (var 2) (var 3)) (mul (var 0) (var 5))

abbrev K2 : Term
K2 = sub (mul (var 0) (var 4)) (mul (var 1) (var 3))

-- what of a vector is along an axis but not along a
abbrev pub aside : List ℤ → List ℤ → ℕ → ℤ
aside p a i = at p i *ℤ dot a a -ℤ dot p a *ℤ at a i

aside0 : (p a : List ℤ) → aside p a 0 ≡ dot (at a 1 ∷ at a 2 ∷ pos 0 ∷ []) (at (cross p a) 2 ∷ (pos 0 -ℤ at (cross p a) 1) ∷ pos 0 ∷ [])
aside0 p a =
    let v = pair p a in
    ring v (sub (mul (var 0) N) (mul U (var 3))) (add (add (mul (var 4) K2) (mul (var 5) (sub (num (pos 0)) K1))) (mul (num (pos 0)) (num (pos 0)))) refl

aside1 : (p a : List ℤ) → aside p a 1 ≡ dot (at a 2 ∷ at a 0 ∷ pos 0 ∷ []) (at (cross p a) 0 ∷ (pos 0 -ℤ at (cross p a) 2) ∷ pos 0 ∷ [])
aside1 p a =
    let v = pair p a in
    ring v (sub (mul (var 1) N) (mul U (var 4))) (add (add (mul (var 5) K0) (mul (var 3) (sub (num (pos 0)) K2))) (mul (num (pos 0)) (num (pos 0)))) refl

aside2 : (p a : List ℤ) → aside p a 2 ≡ dot (at a 0 ∷ at a 1 ∷ pos 0 ∷ []) (at (cross p a) 1 ∷ (pos 0 -ℤ at (cross p a) 0) ∷ pos 0 ∷ [])
aside2 p a =
    let v = pair p a in
    ring v (sub (mul (var 2) N) (mul U (var 5))) (add (add (mul (var 3) K1) (mul (var 4) (sub (num (pos 0)) K0))) (mul (num (pos 0)) (num (pos 0)))) refl

-- a vector's length without one of its components
two_of : (x y z s : ℤ) → s ≡ (x *ℤ x +ℤ y *ℤ y) +ℤ pos 0 *ℤ pos 0 → ((x *ℤ x +ℤ y *ℤ y) +ℤ z *ℤ z) ≡ s +ℤ z *ℤ z
two_of x y z s e = omega (arith, ints, e)

flat : (x y : ℤ) → dot (x ∷ (pos 0 -ℤ y) ∷ pos 0 ∷ []) (x ∷ (pos 0 -ℤ y) ∷ pos 0 ∷ []) ≡ x *ℤ x +ℤ y *ℤ y
flat x y = ring (x ∷ y ∷ []) (add (add (square (var 0)) (square (sub (num (pos 0)) (var 1)))) (square (num (pos 0)))) (add (square (var 0)) (square (var 1))) refl

flat_below : (x y z w : ℤ) (r : ℕ) → ((x *ℤ x +ℤ y *ℤ y) +ℤ z *ℤ z) ≤ℤ pos (r * r) → w ≡ y *ℤ y +ℤ z *ℤ z → w ≤ℤ pos (r * r)
flat_below x y z w r h e = omega (arith, ints, h, e, square_not_negative x)

turned_below : (x y z w : ℤ) (r : ℕ) → ((x *ℤ x +ℤ y *ℤ y) +ℤ z *ℤ z) ≤ℤ pos (r * r) → w ≡ x *ℤ x +ℤ z *ℤ z → w ≤ℤ pos (r * r)
turned_below x y z w r h e = omega (arith, ints, h, e, square_not_negative y)

top_below : (x y z w : ℤ) (r : ℕ) → ((x *ℤ x +ℤ y *ℤ y) +ℤ z *ℤ z) ≤ℤ pos (r * r) → w ≡ x *ℤ x +ℤ y *ℤ y → w ≤ℤ pos (r * r)
top_below x y z w r h e = omega (arith, ints, h, e, square_not_negative z)

plane : (x y n w : ℤ) (k : ℕ) → (n -ℤ w) ≤ℤ pos (k * k) → n ≡ (x *ℤ x +ℤ y *ℤ y) +ℤ w → ((x *ℤ x +ℤ y *ℤ y) +ℤ pos 0 *ℤ pos 0) ≤ℤ pos (k * k)
plane x y n w k h e = omega (arith, ints, h, e)

swapped : (x y : ℤ) → x *ℤ x +ℤ y *ℤ y ≡ y *ℤ y +ℤ x *ℤ x
swapped x y = omega (arith, ints)

-- Where the moment is at most r and what of a is not along the axis at most k, at most k r of the vector is aside.
pub aside_below : (p a : List ℤ) (i k r : ℕ) → i < 3 → (dot a a -ℤ at a i *ℤ at a i) ≤ℤ pos (k * k) → dot (cross p a) (cross p a) ≤ℤ pos (r * r) → unsigned_abs (aside p a i) ≤ k * r
aside_below p a zero k r l h m =
    let c = cross p a in
    subst (λ z. unsigned_abs z ≤ k * r) (sym (aside0 p a))
    (schwarz (at a 1 ∷ at a 2 ∷ pos 0 ∷ []) (at c 2 ∷ (pos 0 -ℤ at c 1) ∷ pos 0 ∷ []) k r (plane (at a 1) (at a 2) (dot a a) (at a 0 *ℤ at a 0) k h (omega (arith, ints)))
    (flat_below (at c 0) (at c 1) (at c 2) _ r m (flat (at c 2) (at c 1) ∙ swapped (at c 2) (at c 1))))
aside_below p a (suc zero) k r l h m =
    let c = cross p a in
    subst (λ z. unsigned_abs z ≤ k * r) (sym (aside1 p a))
    (schwarz (at a 2 ∷ at a 0 ∷ pos 0 ∷ []) (at c 0 ∷ (pos 0 -ℤ at c 2) ∷ pos 0 ∷ []) k r (plane (at a 2) (at a 0) (dot a a) (at a 1 *ℤ at a 1) k h (omega (arith, ints)))
    (turned_below (at c 0) (at c 1) (at c 2) _ r m (flat (at c 0) (at c 2))))
aside_below p a (suc (suc zero)) k r l h m =
    let c = cross p a in
    subst (λ z. unsigned_abs z ≤ k * r) (sym (aside2 p a))
    (schwarz (at a 0 ∷ at a 1 ∷ pos 0 ∷ []) (at c 1 ∷ (pos 0 -ℤ at c 0) ∷ pos 0 ∷ []) k r (plane (at a 0) (at a 1) (dot a a) (at a 2 *ℤ at a 2) k h (omega (arith, ints)))
    (top_below (at c 0) (at c 1) (at c 2) _ r m (flat (at c 1) (at c 0) ∙ swapped (at c 1) (at c 0))))
aside_below p a (suc (suc (suc j))) k r l h m = absurd (omega arith)
