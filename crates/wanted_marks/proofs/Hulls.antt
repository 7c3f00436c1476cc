-- Between two indices a linear coefficient is below 0 where it is at both, and a quadratic one is above a limit where the three
-- coefficients of its form on the stretch between them are.
use Rattle.std.proofs.Common.{◌≡◌, ℕ, zero, suc, List, true, ◌+◌, ◌-◌, ◌*◌, ◌≤◌, ◌<◌, [], ◌∷◌, ℤ, pos, negsuc, ◌+ℤ◌, ◌*ℤ◌, ◌-ℤ◌, ◌<ℤ◌, arith, refl, ⊎_elim, subst, sym}
use Rattle.std.proofs.lemmas.Bool.{cases_lt}
use Rattle.std.proofs.lemmas.Int.{ints}
use Rattle.std.proofs.Math.Nat.{mul-le-mul}
use Rattle.space.specs.Vectors.{at}
use Rattle.space.proofs.Solver.{Term, var, add, mul, ring}
use Rattle.space.proofs.Terms.{sub}
use Rattle.bern_form.specs.Forms.{all_negative}
use Rattle.bern_form.proofs.Decided.{decides_negative}
use Rattle.bern_form.proofs.HalfSigns.{all_three}
use Rattle.wanted_marks.specs.Widths.{moved3, quadratic}

pub below_between : (a w : ℤ) (l x m : ℕ) → l ≤ x → x ≤ m → (a +ℤ pos l *ℤ w) <ℤ pos 0 → (a +ℤ pos m *ℤ w) <ℤ pos 0 → (a +ℤ pos x *ℤ w) <ℤ pos 0
below_between a (pos n) l x m h k first last =
    let less : x * n ≤ m * n = mul-le-mul k (omega arith) in omega (arith, ints, less, last)
below_between a (negsuc n) l x m h k first last =
    let less : l * suc n ≤ x * suc n = mul-le-mul h (omega arith) in omega (arith, ints, less, first)

-- h^2 times what is sought, with s steps to the place, t steps from it on, and h = s + t
parts_are : (a b c e l s t : ℤ) → ((s +ℤ t) *ℤ (s +ℤ t)) *ℤ (quadratic a b c (l +ℤ s) -ℤ e)
    ≡ ((t *ℤ t) *ℤ (quadratic a b c l -ℤ e)
    +ℤ (s *ℤ t) *ℤ (((quadratic a b c l -ℤ e) +ℤ (quadratic a b c ((l +ℤ s) +ℤ t) -ℤ e)) -ℤ ((s +ℤ t) *ℤ (s +ℤ t)) *ℤ c))
    +ℤ (s *ℤ s) *ℤ (quadratic a b c ((l +ℤ s) +ℤ t) -ℤ e)
parts_are a b c e l s t =
    let A = var 0 in let B = var 1 in let C = var 2 in let E = var 3 in let L = var 4 in let S = var 5 in let T = var 6 in
    let q = λ (x : Term). add A (mul x (add B (mul x C))) in
    let first = sub (q L) E in let last = sub (q (add (add L S) T)) E in let h = mul (add S T) (add S T) in
    ring (a ∷ b ∷ c ∷ e ∷ l ∷ s ∷ t ∷ []) (mul h (sub (q (add L S)) E))
    (add (add (mul (mul T T) first) (mul (mul S T) (sub (add first last) (mul h C)))) (mul (mul S S) last)) refl

some_product : (n k : ℕ) → 0 < (suc n * suc n) * suc k
some_product n k = omega arith

-- a sum of parts that aren't below 0, one of which is above
square_first : (s t i j k : ℕ) → 0 < s + t → 0 < ((t * t) * suc i + (s * t) * suc j) + (s * s) * suc k
square_first zero zero i j k h = absurd (omega arith)
square_first (suc s) t i j k h = omega (arith, some_product s k)
square_first zero (suc t) i j k h = omega (arith, some_product t i)

above : (s t : ℕ) (first middle last : ℤ) → 0 < s + t → pos 0 <ℤ first → pos 0 <ℤ middle → pos 0 <ℤ last
    → pos 0 <ℤ (((pos t *ℤ pos t) *ℤ first +ℤ (pos s *ℤ pos t) *ℤ middle) +ℤ (pos s *ℤ pos s) *ℤ last)
above s t (pos (suc i)) (pos (suc j)) (pos (suc k)) some f g h = let sum = square_first s t i j k some in omega (arith, ints, sum)
above s t (pos zero) middle last some f g h = absurd (omega (arith, ints, f))
above s t (negsuc i) middle last some f g h = absurd (omega (arith, ints, f))
above s t (pos (suc i)) (pos zero) last some f g h = absurd (omega (arith, ints, g))
above s t (pos (suc i)) (negsuc j) last some f g h = absurd (omega (arith, ints, g))
above s t (pos (suc i)) (pos (suc j)) (pos zero) some f g h = absurd (omega (arith, ints, h))
above s t (pos (suc i)) (pos (suc j)) (negsuc k) some f g h = absurd (omega (arith, ints, h))

-- what a number that isn't below 0 is taken times is above 0 where the product is
factor_above : (n : ℕ) (z : ℤ) → pos 0 <ℤ (pos n *ℤ z) → pos 0 <ℤ z
factor_above n (pos zero) h = absurd (omega (arith, ints, h))
factor_above n (pos (suc k)) h = omega (arith, ints)
factor_above n (negsuc k) h = absurd (omega (arith, ints, h))

more : (a e : ℤ) → e <ℤ a → pos 0 <ℤ (a -ℤ e)
more a e h = omega (arith, ints, h)

less : (a e : ℤ) → pos 0 <ℤ (a -ℤ e) → e <ℤ a
less a e h = omega (arith, ints, h)

left_over : (a b : ℤ) → b <ℤ a → pos 0 <ℤ (a -ℤ b)
left_over a b h = omega (arith, ints, h)

over_parts : (a b c e : ℤ) (l s t : ℕ) → e <ℤ quadratic a b c (pos l) → e <ℤ quadratic a b c ((pos l +ℤ pos s) +ℤ pos t)
    → (((pos s +ℤ pos t) *ℤ (pos s +ℤ pos t)) *ℤ c) <ℤ ((quadratic a b c (pos l) -ℤ e) +ℤ (quadratic a b c ((pos l +ℤ pos s) +ℤ pos t) -ℤ e))
    → 0 < s + t → e <ℤ quadratic a b c (pos l +ℤ pos s)
over_parts a b c e l s t first last bend some =
    let A = quadratic a b c (pos l) in let B = quadratic a b c ((pos l +ℤ pos s) +ℤ pos t) in
    let sum = above s t (A -ℤ e) (((A -ℤ e) +ℤ (B -ℤ e)) -ℤ ((pos s +ℤ pos t) *ℤ (pos s +ℤ pos t)) *ℤ c) (B -ℤ e) some (more A e first) (left_over _ _ bend) (more B e last) in
    less (quadratic a b c (pos l +ℤ pos s)) e
    (factor_above ((s + t) * (s + t)) (quadratic a b c (pos l +ℤ pos s) -ℤ e) (subst (λ z. pos 0 <ℤ z) (sym (parts_are a b c e (pos l) (pos s) (pos t))) sum))

over_between : (a b c e : ℤ) (l x m : ℕ) → l ≤ x → x ≤ m → e <ℤ quadratic a b c (pos l) → e <ℤ quadratic a b c (pos m)
    → ((pos (m - l) *ℤ pos (m - l)) *ℤ c) <ℤ ((quadratic a b c (pos l) -ℤ e) +ℤ (quadratic a b c (pos m) -ℤ e)) → e <ℤ quadratic a b c (pos x)
over_between a b c e l x m h k first last bend =
    let s = x - l in let t = m - x in let over = λ (z : ℤ). e <ℤ quadratic a b c z in
    let here : pos l +ℤ pos s ≡ pos x = omega (arith, ints, h) in
    let there : (pos l +ℤ pos s) +ℤ pos t ≡ pos m = omega (arith, ints, h, k) in
    let steps : pos s +ℤ pos t ≡ pos (m - l) = omega (arith, ints, h, k) in
    let bent = subst (λ z. ((z *ℤ z) *ℤ c) <ℤ ((quadratic a b c (pos l) -ℤ e) +ℤ (quadratic a b c (pos m) -ℤ e))) (sym steps) bend in
    ⊎_elim
    (λ (some : 0 < s + t).
    subst over here
    (over_parts a b c e l s t first (subst over (sym there) last)
    (subst (λ z. (((pos s +ℤ pos t) *ℤ (pos s +ℤ pos t)) *ℤ c) <ℤ ((quadratic a b c (pos l) -ℤ e) +ℤ (quadratic a b c z -ℤ e))) (sym there) bent) some))
    (λ (none : s + t ≤ 0). let same : pos l ≡ pos x = omega (arith, ints, h, none) in subst over same first) (cases_lt 0 (s + t))

-- the same by what is computed
pub over_by : (a b c e : ℤ) (l x m : ℕ) (first last bend : ℤ) → first ≡ quadratic a b c (pos l) → last ≡ quadratic a b c (pos m) → bend ≡ (pos (m - l) *ℤ pos (m - l)) *ℤ c
    → l ≤ x → x ≤ m → e <ℤ first → e <ℤ last → bend <ℤ ((first -ℤ e) +ℤ (last -ℤ e)) → e <ℤ quadratic a b c (pos x)
over_by a b c e l x m first last bend ef el eb h k f t less =
    over_between a b c e l x m h k (subst (λ z. e <ℤ z) ef f) (subst (λ z. e <ℤ z) el t)
    (subst (λ z. z <ℤ ((quadratic a b c (pos l) -ℤ e) +ℤ (quadratic a b c (pos m) -ℤ e))) eb
    (subst (λ z. bend <ℤ ((quadratic a b c (pos l) -ℤ e) +ℤ (z -ℤ e))) el (subst (λ z. bend <ℤ ((z -ℤ e) +ℤ (last -ℤ e))) ef less)))

-- the coefficients of u
pub behind_between : (a w : List ℤ) (l x m : ℕ) → l ≤ x → x ≤ m → all_negative (moved3 a w (pos l)) ≡ true → all_negative (moved3 a w (pos m)) ≡ true → all_negative (moved3 a w (pos x)) ≡ true
behind_between a w l x m h k first last =
    let f = (decides_negative (moved3 a w (pos l))).0 first in let t = (decides_negative (moved3 a w (pos m))).0 last in
    (decides_negative (moved3 a w (pos x))).1
    (all_three (λ z. z <ℤ pos 0) (at a 0 +ℤ pos x *ℤ at w 0) (at a 1 +ℤ pos x *ℤ at w 1) (at a 2 +ℤ pos x *ℤ at w 2)
    (below_between (at a 0) (at w 0) l x m h k (f 0 (pos 0) (omega arith)) (t 0 (pos 0) (omega arith)))
    (below_between (at a 1) (at w 1) l x m h k (f 1 (pos 0) (omega arith)) (t 1 (pos 0) (omega arith)))
    (below_between (at a 2) (at w 2) l x m h k (f 2 (pos 0) (omega arith)) (t 2 (pos 0) (omega arith))))
