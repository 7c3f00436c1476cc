-- The axis at both ends of an interval, by that in the middle and by what it turns.
use Rattle.std.proofs.Common.{◌≡◌, ℕ, ◌*◌, ◌≤◌, List, [], ◌∷◌, ℤ, pos, negsuc, ◌+ℤ◌, ◌*ℤ◌, ◌-ℤ◌, ◌≤ℤ◌, unsigned_abs, arith, refl, sym, subst}
use Rattle.std.proofs.lemmas.Int.{ints}
use Rattle.std.proofs.Math.Nat.{mul-le-mul}
use Rattle.space.specs.Vectors.{at, difference, dot, sum}
use Rattle.space.proofs.Solver.{Term, num, add, mul, ring}
use Rattle.space.proofs.Terms.{dots, from, sub}
use Rattle.bern_form.specs.Cells.{scaled_square}
use Rattle.sweep_boxes.specs.BandTerms.{IsShortest}
use Rattle.sweep_boxes.proofs.Rising.{IsAtLeast}
use Rattle.sweep_boxes.proofs.Triangle.{square_of_abs}

abbrev six : List ℤ → List ℤ → List ℤ
six p q = at p 0 ∷ at p 1 ∷ at p 2 ∷ at q 0 ∷ at q 1 ∷ at q 2 ∷ []

abbrev square : (ℕ → Term) → Term
square v = dots v v

-- the squares of a sum and of a difference
pub difference_square : (x e : List ℤ) → dot (difference x e) (difference x e) ≡ (dot x x +ℤ dot e e) -ℤ pos 2 *ℤ dot x e
difference_square x e =
    ring (six x e) (square (λ k. sub (from 0 k) (from 3 k))) (sub (add (square (from 0)) (square (from 3))) (mul (num (pos 2)) (dots (from 0) (from 3)))) refl

pub sum_square : (x e : List ℤ) → dot (sum x e) (sum x e) ≡ (dot x x +ℤ dot e e) +ℤ pos 2 *ℤ dot x e
sum_square x e =
    ring (six x e) (square (λ k. add (from 0 k) (from 3 k))) (add (add (square (from 0)) (square (from 3))) (mul (num (pos 2)) (dots (from 0) (from 3)))) refl

abbrev both : ℕ → Term
both k = add (from 0 k) (from 3 k)

abbrev step : ℕ → Term
step k = sub (from 3 k) (from 0 k)

first_is : (a c : List ℤ) → dot (difference (sum a c) (difference c a)) (difference (sum a c) (difference c a)) ≡ pos 4 *ℤ dot a a
first_is a c = ring (six a c) (square (λ k. sub (both k) (step k))) (mul (num (pos 4)) (square (from 0))) refl

middle_is : (a c : List ℤ) → dot (sum a c) (sum a c) -ℤ dot (difference c a) (difference c a) ≡ pos 4 *ℤ dot a c
middle_is a c = ring (six a c) (sub (square both) (square step)) (mul (num (pos 4)) (dots (from 0) (from 3))) refl

last_is : (a c : List ℤ) → dot (sum (sum a c) (difference c a)) (sum (sum a c) (difference c a)) ≡ pos 4 *ℤ dot c c
last_is a c = ring (six a c) (square (λ k. add (both k) (step k))) (mul (num (pos 4)) (square (from 3))) refl

-- what a slab that begins at a height or higher takes of the square of a place's height
taken_of : (S b g : ℕ) (lo n : ℤ) → pos b ≤ℤ lo → pos (g * g) ≤ℤ (pos 4 *ℤ n)
    → pos (2 * S * b * g * (2 * S * b * g)) ≤ℤ (pos 16 *ℤ (scaled_square S lo *ℤ n))
taken_of S b g (pos l) (pos n) low short =
    let less : b ≤ l = omega (arith, ints, low) in let long : g * g ≤ 4 * n = omega (arith, ints, short) in
    let side : S * b ≤ S * l = mul-le-mul (omega arith) less in
    let all : S * b * (S * b) * (g * g) ≤ S * l * (S * l) * (4 * n) = mul-le-mul (mul-le-mul side side) long in
    omega (arith, ints, all)
taken_of S b g (negsuc l) n low short = absurd (omega (arith, ints, low))
taken_of S b g (pos l) (negsuc n) low short = absurd (omega (arith, ints, short))

at_least_by : (S : ℕ) (lo begin g : ℤ) (a c : List ℤ) → IsShortest g (sum a c) (difference c a) → pos 0 ≤ℤ begin → begin ≤ℤ lo
    → IsAtLeast (scaled_square S lo) a c (2 * S * unsigned_abs begin * unsigned_abs g)
at_least_by S lo (negsuc b) g a c h some low = absurd (omega (arith, ints, some))
at_least_by S lo (pos b) g a c h some low =
    let short : (n y : ℤ) → y ≡ pos 4 *ℤ n → (g *ℤ g) ≤ℤ y → pos (unsigned_abs g * unsigned_abs g) ≤ℤ (pos 4 *ℤ n) = λ n y e less.
    subst (λ (z : ℤ). z ≤ℤ (pos 4 *ℤ n)) (sym (square_of_abs g)) (subst (λ (z : ℤ). (g *ℤ g) ≤ℤ z) e less) in
    record {
      first = taken_of S b (unsigned_abs g) lo (dot a a) low (short (dot a a) _ (first_is a c) h.first);
      middle = taken_of S b (unsigned_abs g) lo (dot a c) low (short (dot a c) _ (middle_is a c) h.middle);
      last = taken_of S b (unsigned_abs g) lo (dot c c) low (short (dot c c) _ (last_is a c) h.last);
    }

pub at_least : (S : ℕ) (lo begin g : ℤ) (a c x e : List ℤ) → sum a c ≡ x → difference c a ≡ e → IsShortest g x e → pos 0 ≤ℤ begin → begin ≤ℤ lo
    → IsAtLeast (scaled_square S lo) a c (2 * S * unsigned_abs begin * unsigned_abs g)
at_least S lo begin g a c x e ex ee h some low =
    at_least_by S lo begin g a c (subst (λ (z : List ℤ). IsShortest g z (difference c a)) (sym ex) (subst (λ (z : List ℤ). IsShortest g x z) (sym ee) h)) some low
