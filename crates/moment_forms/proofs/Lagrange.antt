-- Lagrange's identity for offsets and axes that are linear in time, coefficient by coefficient: the scalar product of two moments is
-- e n - u v.
use Rattle.std.proofs.Common.{◌≡◌, ℕ, zero, suc, ◌<◌, [], ◌∷◌, List, ℤ, refl}
use Rattle.space.specs.Vectors.{at}
use Rattle.space.proofs.Solver.{Term, add, mul, ring}
use Rattle.space.proofs.Terms.{sub, dots, from}
use Rattle.bern_form.specs.Cells.{dot_on_cell}
use Rattle.bern_form.specs.Forms.{difference4, product22}
use Rattle.moment_forms.specs.Moments.{moment_product}
use Rattle.moment_forms.proofs.Fives.{each_of_five}

abbrev across : (ℕ → Term) → (ℕ → Term) → (ℕ → Term) → (ℕ → Term) → ℕ → Term
across p p' q q' k = add (mul (p k) (q' k)) (mul (p' k) (q k))

abbrev pub cell : (ℕ → Term) → (ℕ → Term) → (ℕ → Term) → (ℕ → Term) → ℕ → Term
cell p p' q q' zero = dots p q
cell p p' q q' (suc zero) = add (add (across p p' q q' 0) (across p p' q q' 1)) (across p p' q q' 2)
cell p p' q q' (suc (suc k)) = dots p' q'

abbrev pub conv : (ℕ → Term) → (ℕ → Term) → ℕ → Term
conv a b zero = mul (a 0) (b 0)
conv a b (suc zero) = add (mul (a 0) (b 1)) (mul (a 1) (b 0))
conv a b (suc (suc zero)) = add (add (mul (a 0) (b 2)) (mul (a 1) (b 1))) (mul (a 2) (b 0))
conv a b (suc (suc (suc zero))) = add (mul (a 1) (b 2)) (mul (a 2) (b 1))
conv a b (suc (suc (suc (suc k)))) = mul (a 2) (b 2)

abbrev turn : (ℕ → Term) → (ℕ → Term) → ℕ → Term
turn p a zero = sub (mul (p 1) (a 2)) (mul (p 2) (a 1))
turn p a (suc zero) = sub (mul (p 2) (a 0)) (mul (p 0) (a 2))
turn p a (suc (suc k)) = sub (mul (p 0) (a 1)) (mul (p 1) (a 0))

abbrev middle : (ℕ → Term) → (ℕ → Term) → (ℕ → Term) → (ℕ → Term) → ℕ → Term
middle p p' a c k = add (turn p c k) (turn p' a k)

abbrev left : ℕ → Term
left k = sub (conv (cell (from 0) (from 3) (from 6) (from 9)) (cell (from 12) (from 15) (from 12) (from 15)) k) (conv (cell (from 0) (from 3) (from 12) (from 15)) (cell (from 6) (from 9) (from 12) (from 15)) k)

abbrev first : ℕ → ℕ → Term
first zero = turn (from 0) (from 12)
first (suc zero) = middle (from 0) (from 3) (from 12) (from 15)
first (suc (suc k)) = turn (from 3) (from 15)

abbrev last : ℕ → ℕ → Term
last zero = turn (from 6) (from 12)
last (suc zero) = middle (from 6) (from 9) (from 12) (from 15)
last (suc (suc k)) = turn (from 9) (from 15)

abbrev right : ℕ → Term
right zero = dots (first 0) (last 0)
right (suc zero) = add (dots (first 0) (last 1)) (dots (first 1) (last 0))
right (suc (suc zero)) = add (add (dots (first 0) (last 2)) (dots (first 1) (last 1))) (dots (first 2) (last 0))
right (suc (suc (suc zero))) = add (dots (first 1) (last 2)) (dots (first 2) (last 1))
right (suc (suc (suc (suc k)))) = dots (first 2) (last 2)

abbrev numbers : List ℤ → List ℤ → List ℤ → List ℤ → List ℤ → List ℤ → List ℤ
numbers p p' q q' a c =
    at p 0 ∷ at p 1 ∷ at p 2 ∷ at p' 0 ∷ at p' 1 ∷ at p' 2 ∷ at q 0 ∷ at q 1 ∷ at q 2 ∷ at q' 0 ∷ at q' 1 ∷ at q' 2
    ∷ at a 0 ∷ at a 1 ∷ at a 2 ∷ at c 0 ∷ at c 1 ∷ at c 2 ∷ []

-- e n - u v, by the offsets and the axes
abbrev pub less_squares : List ℤ → List ℤ → List ℤ → List ℤ → List ℤ → List ℤ → List ℤ
less_squares p p' q q' a c = difference4 (product22 (dot_on_cell p p' q q') (dot_on_cell a c a c)) (product22 (dot_on_cell p p' a c) (dot_on_cell q q' a c))

pub lagrange_at : (p p' q q' a c : List ℤ) (k : ℕ) → k < 5 → at (less_squares p p' q q' a c) k ≡ at (moment_product p p' q q' a c) k
lagrange_at p p' q q' a c =
    let e = numbers p p' q q' a c in
    each_of_five (λ k. at (less_squares p p' q q' a c) k ≡ at (moment_product p p' q q' a c) k)
    (ring e (left 0) (right 0) refl) (ring e (left 1) (right 1) refl) (ring e (left 2) (right 2) refl) (ring e (left 3) (right 3) refl) (ring e (left 4) (right 4) refl)
