-- What the tests of a stretch say.
use Rattle.std.proofs.Common.{◌≡◌, ℕ, zero, suc, ◌<◌, [], ◌∷◌, List, ℤ, pos, ◌+ℤ◌, ◌*ℤ◌, FitsSigned, to_z, of_z, arith, refl, subst, ap, ◌∙◌}
use Rattle.std.proofs.lemmas.Int.{to_z-of_z}
use mir.Syntax.{w64}
use Rattle.space.specs.Vectors.{at, dot}
use Rattle.space.proofs.Solver.{Term, var, num, add, mul, ring}
use Rattle.space.proofs.Terms.{dots, from}
use Rattle.bern_form.specs.Cells.{dot_on_cell}
use Rattle.bern_form.specs.Forms.{lifted}
use Rattle.ray_runs.specs.Missed.{AreAbove, AreBeside, AreBesideAt}
use Rattle.moment_forms.specs.Moments.{middle_moment, moment, moment_product, vector_product}
use Rattle.moment_forms.proofs.Fives.{each_of_five}
use Rattle.moment_forms.proofs.Middle.{five_same}

above_same : (f r r' x x' y y' z z' : ℤ) → r ≡ r' → x ≡ x' → y ≡ y' → z ≡ z' → AreAbove f r x y z → AreAbove f r' x' y' z'
above_same f r r' x x' y y' z z' er ex ey ez h =
    subst (λ t. AreAbove f r' x' y' t) ez (subst (λ t. AreAbove f r' x' t z) ey (subst (λ t. AreAbove f r' t y z) ex (subst (λ t. AreAbove f t x y z) er h)))

pub above_fitting : (f r x y z : ℤ) → FitsSigned w64 f → FitsSigned w64 r → AreAbove (to_z w64 (of_z w64 f)) (to_z w64 (of_z w64 r)) x y z → AreAbove f r x y z
above_fitting f r x y z hf hr h = subst (λ t. AreAbove t r x y z) (to_z-of_z w64 f hf) (subst (λ t. AreAbove (to_z w64 (of_z w64 f)) t x y z) (to_z-of_z w64 r hr) h)

pub amid_cases : (P : ℕ → Type 0) → P 1 → P 2 → P 3 → (i : ℕ) → 0 < i → i < 4 → P i
amid_cases P a b c zero some l = absurd (omega arith)
amid_cases P a b c (suc zero) some l = a
amid_cases P a b c (suc (suc zero)) some l = b
amid_cases P a b c (suc (suc (suc zero))) some l = c
amid_cases P a b c (suc (suc (suc (suc k)))) some l = absurd (omega arith)

-- coefficient i of the width is above the limit's
abbrev pub IsAboveIn : ℤ → List ℤ → List ℤ → List ℤ → List ℤ → List ℤ → List ℤ → ℕ → Type 0
IsAboveIn f p p' q q' a c i =
    AreAbove f (at (lifted (dot_on_cell a c a c)) i) (at (moment_product p p' p p' a c) i) (at (moment_product p p' q q' a c) i) (at (moment_product q q' q q' a c) i)

-- one that is not at an end
amid_of : (f : ℤ) (p p' q q' a c x0 x1 x2 y0 y1 y2 r : List ℤ) → r ≡ lifted (dot_on_cell a c a c) → x0 ≡ moment p a → x1 ≡ middle_moment p p' a c → x2 ≡ moment p' c
    → y0 ≡ moment q a → y1 ≡ middle_moment q q' a c → y2 ≡ moment q' c → (i : ℕ)
    → AreAbove f (at r i) (at (vector_product x0 x1 x2 x0 x1 x2) i) (at (vector_product x0 x1 x2 y0 y1 y2) i) (at (vector_product y0 y1 y2 y0 y1 y2) i) → IsAboveIn f p p' q q' a c i
amid_of f p p' q q' a c x0 x1 x2 y0 y1 y2 r er e0 e1 e2 f0 f1 f2 i h =
    above_same f _ _ _ _ _ _ _ _ (ap (λ z. at z i) er)
    (λ k. at (vector_product (e0 k) (e1 k) (e2 k) (e0 k) (e1 k) (e2 k)) i)
    (λ k. at (vector_product (e0 k) (e1 k) (e2 k) (f0 k) (f1 k) (f2 k)) i)
    (λ k. at (vector_product (f0 k) (f1 k) (f2 k) (f0 k) (f1 k) (f2 k)) i) h

-- those at the ends are what they are at the samples there
times_one : (z : ℤ) → z ≡ z *ℤ pos 1
times_one z = ring (z ∷ []) (var 0) (mul (var 0) (num (pos 1))) refl

at_end : (f : ℤ) (p q a x y : List ℤ) → x ≡ moment p a → y ≡ moment q a → AreBesideAt f x y a
    → AreAbove f (dot a a *ℤ pos 1) (dot (moment p a) (moment p a)) (dot (moment p a) (moment q a)) (dot (moment q a) (moment q a))
at_end f p q a x y ex ey h = above_same f _ _ _ _ _ _ _ _ (times_one (dot a a)) (λ k. dot (ex k) (ex k)) (λ k. dot (ex k) (ey k)) (λ k. dot (ey k) (ey k)) h

pub beside_of : (f : ℤ) (p p' q q' a c x0 x1 x2 y0 y1 y2 r : List ℤ) → r ≡ lifted (dot_on_cell a c a c) → x0 ≡ moment p a → x1 ≡ middle_moment p p' a c → x2 ≡ moment p' c
    → y0 ≡ moment q a → y1 ≡ middle_moment q q' a c → y2 ≡ moment q' c → AreBesideAt f x0 y0 a → AreBesideAt f x2 y2 c
    → ((i : ℕ) → 0 < i → i < 4 → AreAbove f (at r i) (at (vector_product x0 x1 x2 x0 x1 x2) i) (at (vector_product x0 x1 x2 y0 y1 y2) i) (at (vector_product y0 y1 y2 y0 y1 y2) i))
    → AreBeside f p p' q q' a c
beside_of f p p' q q' a c x0 x1 x2 y0 y1 y2 r er e0 e1 e2 f0 f1 f2 start end h =
    let amid = λ (i : ℕ) (some : 0 < i) (few : i < 4). amid_of f p p' q q' a c x0 x1 x2 y0 y1 y2 r er e0 e1 e2 f0 f1 f2 i (h i some few) in
    each_of_five (IsAboveIn f p p' q q' a c) (at_end f p q a x0 y0 e0 f0 start) (amid 1 (omega arith) (omega arith)) (amid 2 (omega arith) (omega arith)) (amid 3 (omega arith) (omega arith))
    (at_end f p' q' c x2 y2 e2 f2 end)

-- the squared length of the axis, raised
abbrev cross_term : ℕ → Term
cross_term k = add (mul (from 0 k) (from 3 k)) (mul (from 3 k) (from 0 k))

abbrev crosses : Term
crosses = add (add (cross_term 0) (cross_term 1)) (cross_term 2)

pub raised_same : (x0 x1 x2 x3 x4 : ℤ) (a c : List ℤ) → x0 ≡ dot a a → x1 ≡ pos 2 *ℤ dot a a +ℤ pos 2 *ℤ dot a c → x2 ≡ (dot a a +ℤ pos 4 *ℤ dot a c) +ℤ dot c c
    → x3 ≡ pos 2 *ℤ dot a c +ℤ pos 2 *ℤ dot c c → x4 ≡ dot c c → ◌≡◌ {A = List ℤ} (x0 ∷ x1 ∷ x2 ∷ x3 ∷ x4 ∷ []) (lifted (dot_on_cell a c a c))
raised_same x0 x1 x2 x3 x4 a c e0 e1 e2 e3 e4 =
    let e = at a 0 ∷ at a 1 ∷ at a 2 ∷ at c 0 ∷ at c 1 ∷ at c 2 ∷ [] in
    let A = dots (from 0) (from 0) in let B = dots (from 0) (from 3) in let C = dots (from 3) (from 3) in
    let one = num (pos 1) in let two = num (pos 2) in let four = num (pos 4) in
    five_same x0 x1 x2 x3 x4 _ _ _ _ _
    (e0 ∙ ring e A (mul A one) refl)
    (e1 ∙ ring e (add (mul two A) (mul two B)) (add (mul A two) (mul crosses one)) refl)
    (e2 ∙ ring e (add (add A (mul four B)) C) (add (add (mul A one) (mul crosses two)) (mul C one)) refl)
    (e3 ∙ ring e (add (mul two B) (mul two C)) (add (mul crosses one) (mul C two)) refl)
    (e4 ∙ ring e C (mul C one) refl)
