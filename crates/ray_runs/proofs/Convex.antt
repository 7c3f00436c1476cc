-- A slab holds each place between two that it holds under the same axis: the height is linear along the way, and the squared distance
-- from the axis is convex.
use Rattle.std.proofs.Common.{◌≡◌, ℕ, zero, suc, ◌+◌, ◌*◌, ◌<◌, ◌≤◌, [], ◌∷◌, List, ℤ, pos, negsuc, ◌+ℤ◌, ◌*ℤ◌, ◌-ℤ◌, ◌≤ℤ◌, ◌⊎◌, arith, refl, subst, sym, ap, ap₂, ⊎_elim, ◌∙◌}
use Rattle.std.proofs.Math.Nat.{mul-le-mul}
use Rattle.std.proofs.lemmas.Int.{ints}
use Rattle.space.specs.Vectors.{at, dot, spread}
use Rattle.space.proofs.Naturals.{spread_natural}
use Rattle.space.proofs.Solver.{Term, var, num, add, mul, ring}
use Rattle.space.proofs.Terms.{sub, square, dots, from}
use Rattle.bern_form.specs.Slab.{SlabSize}
use Rattle.bern_form.proofs.Relations.{Covers}
use Rattle.ray_boxes.proofs.Mixed.{blend}

-- products of numbers that aren't below 0, and a factor of one
pub product_natural : (a b : ℤ) → pos 0 ≤ℤ a → pos 0 ≤ℤ b → pos 0 ≤ℤ (a *ℤ b)
product_natural (pos m) (pos n) h k = omega (arith, ints)
product_natural (pos m) (negsuc n) h k = absurd (omega (arith, ints))
product_natural (negsuc m) b h k = absurd (omega (arith, ints))

factor_natural : (s : ℕ) (z : ℤ) → 0 < s → pos 0 ≤ℤ (pos s *ℤ z) → pos 0 ≤ℤ z
factor_natural zero z some h = absurd (omega (arith, some))
factor_natural (suc s) (pos n) some h = omega (arith, ints)
factor_natural (suc s) (negsuc n) some h = absurd (omega (arith, ints))

pub squares_rise : (x y : ℤ) → pos 0 ≤ℤ x → x ≤ℤ y → (x *ℤ x) ≤ℤ (y *ℤ y)
squares_rise (pos x) (pos y) h k = let l : x ≤ y = omega (arith, ints) in let e = mul-le-mul l l in omega (arith, ints, e)
squares_rise (pos x) (negsuc y) h k = absurd (omega (arith, ints))
squares_rise (negsuc x) y h k = absurd (omega (arith, ints))

-- a number is between two others: w times the one and v times the other are w + v times it
pub record IsMean (w v : ℕ) (a b x : ℤ) : Type 0 where
  pub some : 0 < w + v
  pub mean : (pos w +ℤ pos v) *ℤ x ≡ pos w *ℤ a +ℤ pos v *ℤ b

turned : (w v : ℕ) (a b x : ℤ) → IsMean w v a b x → IsMean v w b a x
turned w v a b x m = record {
  some = let s = m.some in omega (arith, s);
  mean = ring (pos w ∷ pos v ∷ x ∷ []) (mul (add (var 1) (var 0)) (var 2)) (mul (add (var 0) (var 1)) (var 2)) refl ∙ m.mean
      ∙ ring (pos w ∷ pos v ∷ a ∷ b ∷ []) (add (mul (var 0) (var 2)) (mul (var 1) (var 3))) (add (mul (var 1) (var 3)) (mul (var 0) (var 2))) refl;
}

above_first : (w v : ℕ) (a b x : ℤ) → IsMean w v a b x → a ≤ℤ b → a ≤ℤ x
above_first w v a b x m h =
    let W = var 0 in let V = var 1 in
    let before : (pos w +ℤ pos v) *ℤ (x -ℤ a) ≡ (pos w +ℤ pos v) *ℤ x -ℤ (pos w +ℤ pos v) *ℤ a =
    ring (pos w ∷ pos v ∷ x ∷ a ∷ []) (mul (add W V) (sub (var 2) (var 3))) (sub (mul (add W V) (var 2)) (mul (add W V) (var 3))) refl in
    let after : (pos w *ℤ a +ℤ pos v *ℤ b) -ℤ (pos w +ℤ pos v) *ℤ a ≡ pos v *ℤ (b -ℤ a) =
    ring (pos w ∷ pos v ∷ a ∷ b ∷ []) (sub (add (mul W (var 2)) (mul V (var 3))) (mul (add W V) (var 2))) (mul V (sub (var 3) (var 2))) refl in
    let e : (pos w +ℤ pos v) *ℤ (x -ℤ a) ≡ pos v *ℤ (b -ℤ a) = before ∙ ap (λ z. z -ℤ (pos w +ℤ pos v) *ℤ a) m.mean ∙ after in
    let gap : pos 0 ≤ℤ (pos v *ℤ (b -ℤ a)) = product_natural (pos v) (b -ℤ a) (omega (arith, ints)) (omega (arith, ints)) in
    let more = factor_natural (w + v) (x -ℤ a) m.some (subst (λ z. pos 0 ≤ℤ z) (sym e) gap) in
    omega (arith, ints)

below_last : (w v : ℕ) (a b x : ℤ) → IsMean w v a b x → a ≤ℤ b → x ≤ℤ b
below_last w v a b x m h =
    let W = var 0 in let V = var 1 in
    let before : (pos w +ℤ pos v) *ℤ (b -ℤ x) ≡ (pos w +ℤ pos v) *ℤ b -ℤ (pos w +ℤ pos v) *ℤ x =
    ring (pos w ∷ pos v ∷ x ∷ b ∷ []) (mul (add W V) (sub (var 3) (var 2))) (sub (mul (add W V) (var 3)) (mul (add W V) (var 2))) refl in
    let after : (pos w +ℤ pos v) *ℤ b -ℤ (pos w *ℤ a +ℤ pos v *ℤ b) ≡ pos w *ℤ (b -ℤ a) =
    ring (pos w ∷ pos v ∷ a ∷ b ∷ []) (sub (mul (add W V) (var 3)) (add (mul W (var 2)) (mul V (var 3)))) (mul W (sub (var 3) (var 2))) refl in
    let e : (pos w +ℤ pos v) *ℤ (b -ℤ x) ≡ pos w *ℤ (b -ℤ a) = before ∙ ap (λ z. (pos w +ℤ pos v) *ℤ b -ℤ z) m.mean ∙ after in
    let gap : pos 0 ≤ℤ (pos w *ℤ (b -ℤ a)) = product_natural (pos w) (b -ℤ a) (omega (arith, ints)) (omega (arith, ints)) in
    let more = factor_natural (w + v) (b -ℤ x) m.some (subst (λ z. pos 0 ≤ℤ z) (sym e) gap) in
    omega (arith, ints)

-- so its square is between theirs
pub record IsWithinSquares (low high x : ℤ) : Type 0 where
  pub forward : pos 0 ≤ℤ x
  pub above : low ≤ℤ (x *ℤ x)
  pub below : (x *ℤ x) ≤ℤ high

within_ordered : (low high a b x : ℤ) (w v : ℕ) → IsMean w v a b x → a ≤ℤ b → IsWithinSquares low high a → IsWithinSquares low high b → IsWithinSquares low high x
within_ordered low high a b x w v m h p q =
    let first = above_first w v a b x m h in let last = below_last w v a b x m h in
    let ahead = p.forward in let forward : pos 0 ≤ℤ x = omega (arith, ints) in
    let least = squares_rise a x p.forward first in let most = squares_rise x b forward last in
    let low_in = p.above in let high_in = q.below in record {
      forward = forward;
      above = omega (arith, ints, least, low_in);
      below = omega (arith, ints, most, high_in);
    }

either_order : (a b : ℤ) → (a ≤ℤ b) ⊎ (b ≤ℤ a)
either_order a b = grind (arith, ints)

within_both : (low high a b x : ℤ) (w v : ℕ) → IsMean w v a b x → IsWithinSquares low high a → IsWithinSquares low high b → IsWithinSquares low high x
within_both low high a b x w v m p q =
    ⊎_elim (λ h. within_ordered low high a b x w v m h p q) (λ h. within_ordered low high b a x v w (turned w v a b x m) h q p) (either_order a b)

-- the difference of two offsets, and its squared distance from the axis
abbrev apart : List ℤ → List ℤ → List ℤ
apart p q = (at p 0 -ℤ at q 0) ∷ (at p 1 -ℤ at q 1) ∷ (at p 2 -ℤ at q 2) ∷ []

apart_is : (p q a : List ℤ) → spread (apart p q) a ≡ dot a a *ℤ ((dot p p -ℤ pos 2 *ℤ dot p q) +ℤ dot q q) -ℤ (dot p a -ℤ dot q a) *ℤ (dot p a -ℤ dot q a)
apart_is p q a =
    let P = from 0 in let Q = from 3 in let A = from 6 in let D = λ (k : ℕ). sub (from 0 k) (from 3 k) in
    ring (at p 0 ∷ at p 1 ∷ at p 2 ∷ at q 0 ∷ at q 1 ∷ at q 2 ∷ at a 0 ∷ at a 1 ∷ at a 2 ∷ [])
    (sub (mul (dots D D) (dots A A)) (square (dots D A)))
    (sub (mul (dots A A) (add (sub (dots P P) (mul (num (pos 2)) (dots P Q))) (dots Q Q))) (square (sub (dots P A) (dots Q A)))) refl

abbrev blend_term : Term → Term → Term → Term → Term → Term
blend_term w v a b c = add (add (mul (mul w w) a) (mul (mul (num (pos 2)) (mul w v)) b)) (mul (mul v v) c)

-- what is left of a limit is the mean of what is left at both ends, and more: the distance of the ends adds to it
left_is : (w v d e g n a b D U L : ℤ) → ((w +ℤ v) *ℤ (w +ℤ v)) *ℤ D ≡ blend w v d e g → (w +ℤ v) *ℤ U ≡ w *ℤ a +ℤ v *ℤ b
    → ((w +ℤ v) *ℤ (w +ℤ v)) *ℤ (L -ℤ pos 4 *ℤ (D *ℤ n -ℤ U *ℤ U))
    ≡ (((w +ℤ v) *ℤ w) *ℤ (L -ℤ pos 4 *ℤ (d *ℤ n -ℤ a *ℤ a)) +ℤ ((w +ℤ v) *ℤ v) *ℤ (L -ℤ pos 4 *ℤ (g *ℤ n -ℤ b *ℤ b)))
    +ℤ (pos 4 *ℤ (w *ℤ v)) *ℤ (n *ℤ ((d -ℤ pos 2 *ℤ e) +ℤ g) -ℤ (a -ℤ b) *ℤ (a -ℤ b))
left_is w v d e g n a b D U L hd hu =
    let W = var 0 in let V = var 1 in let N = var 2 in let X = var 3 in let s = add W V in let four = num (pos 4) in
    let before : ((w +ℤ v) *ℤ (w +ℤ v)) *ℤ (L -ℤ pos 4 *ℤ (D *ℤ n -ℤ U *ℤ U)) ≡ ((w +ℤ v) *ℤ (w +ℤ v)) *ℤ L -ℤ pos 4 *ℤ ((((w +ℤ v) *ℤ (w +ℤ v)) *ℤ D) *ℤ n -ℤ ((w +ℤ v) *ℤ U) *ℤ ((w +ℤ v) *ℤ U)) =
    ring (w ∷ v ∷ n ∷ L ∷ D ∷ U ∷ []) (mul (mul s s) (sub X (mul four (sub (mul (var 4) N) (square (var 5))))))
    (sub (mul (mul s s) X) (mul four (sub (mul (mul (mul s s) (var 4)) N) (square (mul s (var 5)))))) refl in
    let after : ((w +ℤ v) *ℤ (w +ℤ v)) *ℤ L -ℤ pos 4 *ℤ (blend w v d e g *ℤ n -ℤ (w *ℤ a +ℤ v *ℤ b) *ℤ (w *ℤ a +ℤ v *ℤ b))
    ≡ (((w +ℤ v) *ℤ w) *ℤ (L -ℤ pos 4 *ℤ (d *ℤ n -ℤ a *ℤ a)) +ℤ ((w +ℤ v) *ℤ v) *ℤ (L -ℤ pos 4 *ℤ (g *ℤ n -ℤ b *ℤ b)))
    +ℤ (pos 4 *ℤ (w *ℤ v)) *ℤ (n *ℤ ((d -ℤ pos 2 *ℤ e) +ℤ g) -ℤ (a -ℤ b) *ℤ (a -ℤ b)) =
    ring (w ∷ v ∷ n ∷ L ∷ d ∷ e ∷ g ∷ a ∷ b ∷ [])
    (sub (mul (mul s s) X) (mul four (sub (mul (blend_term W V (var 4) (var 5) (var 6)) N) (square (add (mul W (var 7)) (mul V (var 8)))))))
    (add (add (mul (mul s W) (sub X (mul four (sub (mul (var 4) N) (square (var 7)))))) (mul (mul s V) (sub X (mul four (sub (mul (var 6) N) (square (var 8)))))))
    (mul (mul four (mul W V)) (sub (mul N (add (sub (var 4) (mul (num (pos 2)) (var 5))) (var 6))) (square (sub (var 7) (var 8)))))) refl in
    before ∙ ap₂ (λ x y. ((w +ℤ v) *ℤ (w +ℤ v)) *ℤ L -ℤ pos 4 *ℤ (x *ℤ n -ℤ y *ℤ y)) hd hu ∙ after

three_natural : (a b c : ℤ) → pos 0 ≤ℤ a → pos 0 ≤ℤ b → pos 0 ≤ℤ c → pos 0 ≤ℤ ((a +ℤ b) +ℤ c)
three_natural a b c h k l = omega (arith, ints)

natural : (n : ℕ) → pos 0 ≤ℤ pos n
natural n = omega (arith, ints)

-- what is left of a limit
left_natural : (L s : ℤ) → (pos 4 *ℤ s) ≤ℤ L → pos 0 ≤ℤ (L -ℤ pos 4 *ℤ s)
left_natural L s h = omega (arith, ints)

within_limit : (L s : ℤ) → pos 0 ≤ℤ (L -ℤ pos 4 *ℤ s) → (pos 4 *ℤ s) ≤ℤ L
within_limit L s h = omega (arith, ints)

square_some : (n : ℕ) → 0 < n → 0 < n * n
square_some n some = let k : 1 * 1 ≤ n * n = mul-le-mul some some in omega (arith, k)

near_between : (w v : ℕ) (p q r a : List ℤ) (L : ℤ) → 0 < w + v → ((pos w +ℤ pos v) *ℤ (pos w +ℤ pos v)) *ℤ dot r r ≡ blend (pos w) (pos v) (dot p p) (dot p q) (dot q q)
    → (pos w +ℤ pos v) *ℤ dot r a ≡ pos w *ℤ dot p a +ℤ pos v *ℤ dot q a → (pos 4 *ℤ spread p a) ≤ℤ L → (pos 4 *ℤ spread q a) ≤ℤ L → (pos 4 *ℤ spread r a) ≤ℤ L
near_between w v p q r a L some hd hu hp hq =
    let n = dot a a in
    let e = left_is (pos w) (pos v) (dot p p) (dot p q) (dot q q) n (dot p a) (dot q a) (dot r r) (dot r a) L hd hu in
    let first = product_natural (pos ((w + v) * w)) (L -ℤ pos 4 *ℤ spread p a) (natural ((w + v) * w)) (left_natural L (spread p a) hp) in
    let last = product_natural (pos ((w + v) * v)) (L -ℤ pos 4 *ℤ spread q a) (natural ((w + v) * v)) (left_natural L (spread q a) hq) in
    let far : pos 0 ≤ℤ (n *ℤ ((dot p p -ℤ pos 2 *ℤ dot p q) +ℤ dot q q) -ℤ (dot p a -ℤ dot q a) *ℤ (dot p a -ℤ dot q a)) = subst (λ z. pos 0 ≤ℤ z) (apart_is p q a) (spread_natural (apart p q) a) in
    let more = product_natural (pos (4 * (w * v))) _ (natural (4 * (w * v))) far in
    let whole = subst (λ z. pos 0 ≤ℤ z) (sym e) (three_natural _ _ _ first last more) in
    within_limit L (spread r a) (factor_natural ((w + v) * (w + v)) (L -ℤ pos 4 *ℤ spread r a) (square_some (w + v) some) whole)

-- of two places that a slab holds
pub covers_between : (s : SlabSize) (B : ℤ) (w v : ℕ) (p q r a : List ℤ) → 0 < w + v
    → ((pos w +ℤ pos v) *ℤ (pos w +ℤ pos v)) *ℤ dot r r ≡ blend (pos w) (pos v) (dot p p) (dot p q) (dot q q) → (pos w +ℤ pos v) *ℤ dot r a ≡ pos w *ℤ dot p a +ℤ pos v *ℤ dot q a
    → Covers s B (dot p a) (dot a a) (spread p a) → Covers s B (dot q a) (dot a a) (spread q a) → Covers s B (dot r a) (dot a a) (spread r a)
covers_between s B w v p q r a some hd hu x y =
    let low = ((B *ℤ s.lo) *ℤ (B *ℤ s.lo)) *ℤ dot a a in let high = ((B *ℤ s.hi) *ℤ (B *ℤ s.hi)) *ℤ dot a a in
    let first : IsWithinSquares low high (dot p a) = record { forward = x.forward; above = x.above; below = x.below } in
    let last : IsWithinSquares low high (dot q a) = record { forward = y.forward; above = y.above; below = y.below } in
    let between = within_both low high (dot p a) (dot q a) (dot r a) w v (record { some = some; mean = hu }) first last in record {
      forward = between.forward;
      above = between.above;
      below = between.below;
      near = near_between w v p q r a (((B *ℤ s.dia) *ℤ (B *ℤ s.dia)) *ℤ dot a a) some hd hu x.near y.near;
    }
