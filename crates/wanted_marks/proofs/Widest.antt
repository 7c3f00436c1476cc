-- The limits of the greatest diameter are limits of every slab.
use Rattle.std.proofs.Common.{◌≡◌, ℕ, zero, suc, ◌*◌, ◌≤◌, ◌<◌, [], ◌∷◌, List, ℤ, pos, negsuc, ◌*ℤ◌, ◌≤ℤ◌, int_lt, arith, refl, ap, sym, subst, ◌∙◌}
use Rattle.std.specs.List.{All}
use Rattle.std.proofs.lemmas.Bool.{cond_both}
use Rattle.std.proofs.lemmas.Int.{ints}
use Rattle.std.proofs.lemmas.List.Elements.{All-weaker}
use Rattle.std.proofs.Math.Nat.{mul-le-mul}
use Rattle.space.specs.Vectors.{at}
use Rattle.space.proofs.Solver.{Term, var, num, add, mul, ring}
use Rattle.space.proofs.Terms.{from}
use Rattle.space.proofs.Tests.{decides_lt}
use Rattle.bern_form.specs.Cells.{scaled_square}
use Rattle.bern_form.specs.Forms.{IsSmall, lifted, scaled2, scaled4}
use Rattle.bern_form.specs.Slab.{SlabSize}
use Rattle.bern_form.proofs.HalfSigns.{all_five}
use Rattle.axis_cells.specs.Exclusion.{squared}
use Rattle.wanted_marks.specs.Limits.{IsNoWider, IsWithinLimits, all_not_below_zero, not_below_zero}
use Rattle.wanted_marks.proofs.Exceeding.{not_less}
use Rattle.wanted_marks.proofs.Stepping.{same5}

-- a number against itself or 0, whichever is more
pub at_least_itself : (z : ℤ) → z ≤ℤ not_below_zero z
at_least_itself z =
    cond_both (int_lt z (pos 0)) (pos 0) z (λ x. z ≤ℤ x) (λ below. let l = (decides_lt z (pos 0)).0 below in omega (arith, ints)) (λ above. omega (arith, ints))

pub at_least_none : (z : ℤ) → pos 0 ≤ℤ not_below_zero z
at_least_none z = cond_both (int_lt z (pos 0)) (pos 0) z (λ x. pos 0 ≤ℤ x) (λ below. omega (arith, ints)) (λ above. not_less z (pos 0) above)

-- and it stays small
clamped_one : (z : ℤ) → IsSmall z → IsSmall (not_below_zero z)
clamped_one z small = cond_both (int_lt z (pos 0)) (pos 0) z IsSmall (λ below. omega arith) (λ above. small)

pub clamped_small : (c : List ℤ) → All IsSmall (at c 0 ∷ at c 1 ∷ at c 2 ∷ at c 3 ∷ at c 4 ∷ []) → All IsSmall (all_not_below_zero c)
clamped_small c h =
    all_five IsSmall (not_below_zero (at c 0)) (not_below_zero (at c 1)) (not_below_zero (at c 2)) (not_below_zero (at c 3)) (not_below_zero (at c 4))
    (clamped_one (at c 0) (h 0 (pos 0) (omega arith))) (clamped_one (at c 1) (h 1 (pos 0) (omega arith))) (clamped_one (at c 2) (h 2 (pos 0) (omega arith)))
    (clamped_one (at c 3) (h 3 (pos 0) (omega arith))) (clamped_one (at c 4) (h 4 (pos 0) (omega arith)))

-- squares of lengths that aren't below 0
square_of : (S x : ℕ) → scaled_square S (pos x) ≡ pos ((S * x) * (S * x))
square_of S x = omega (arith, ints)

pub square_more : (S : ℕ) (a b : ℤ) → pos 0 ≤ℤ a → a ≤ℤ b → (m : ℕ) × (n : ℕ) × (m ≤ n) × (scaled_square S a ≡ pos m) × (scaled_square S b ≡ pos n)
square_more S (pos x) (pos y) h k =
    let l : x ≤ y = omega (arith, ints) in
    let inner : S * x ≤ S * y = mul-le-mul (omega arith) l in
    ((S * x) * (S * x), (S * y) * (S * y), mul-le-mul inner inner, square_of S x, square_of S y)
square_more S (pos x) (negsuc y) h k = absurd (omega (arith, ints))
square_more S (negsuc x) b h k = absurd (omega (arith, ints))

-- a multiple by the lesser square is at most the multiple by the greater, or 0
times_less : (m n : ℕ) (z : ℤ) → m ≤ n → (pos m *ℤ z) ≤ℤ not_below_zero (pos n *ℤ z)
times_less m n (pos k) h =
    let l : m * k ≤ n * k = mul-le-mul h (omega arith) in let own = at_least_itself (pos n *ℤ pos k) in omega (arith, ints, own, l)
times_less m n (negsuc k) h = let none = at_least_none (pos n *ℤ negsuc k) in omega (arith, ints, none)

-- the coefficients of f n raised to degree 4 are f times those of n raised
abbrev ones : ℕ → Term
ones zero = num (pos 1)
ones (suc zero) = num (pos 2)
ones (suc (suc k)) = num (pos 1)

abbrev conv : (ℕ → Term) → (ℕ → Term) → ℕ → Term
conv a b zero = mul (a 0) (b 0)
conv a b (suc zero) = add (mul (a 0) (b 1)) (mul (a 1) (b 0))
conv a b (suc (suc zero)) = add (add (mul (a 0) (b 2)) (mul (a 1) (b 1))) (mul (a 2) (b 0))
conv a b (suc (suc (suc zero))) = add (mul (a 1) (b 2)) (mul (a 2) (b 1))
conv a b (suc (suc (suc (suc k)))) = mul (a 2) (b 2)

raised_at : (f : ℤ) (n : List ℤ) (k : ℕ) → k < 5 → at (lifted (scaled2 f n)) k ≡ f *ℤ at (lifted n) k
raised_at f n zero l = let e = at n 0 ∷ at n 1 ∷ at n 2 ∷ f ∷ [] in ring e (conv (λ k. mul (var 3) (var k)) ones 0) (mul (var 3) (conv (from 0) ones 0)) refl
raised_at f n (suc zero) l = let e = at n 0 ∷ at n 1 ∷ at n 2 ∷ f ∷ [] in ring e (conv (λ k. mul (var 3) (var k)) ones 1) (mul (var 3) (conv (from 0) ones 1)) refl
raised_at f n (suc (suc zero)) l = let e = at n 0 ∷ at n 1 ∷ at n 2 ∷ f ∷ [] in ring e (conv (λ k. mul (var 3) (var k)) ones 2) (mul (var 3) (conv (from 0) ones 2)) refl
raised_at f n (suc (suc (suc zero))) l = let e = at n 0 ∷ at n 1 ∷ at n 2 ∷ f ∷ [] in ring e (conv (λ k. mul (var 3) (var k)) ones 3) (mul (var 3) (conv (from 0) ones 3)) refl
raised_at f n (suc (suc (suc (suc zero)))) l = let e = at n 0 ∷ at n 1 ∷ at n 2 ∷ f ∷ [] in ring e (conv (λ k. mul (var 3) (var k)) ones 4) (mul (var 3) (conv (from 0) ones 4)) refl
raised_at f n (suc (suc (suc (suc (suc k))))) l = absurd (omega arith)

at_clamped : (c : List ℤ) (k : ℕ) → k < 5 → at (all_not_below_zero c) k ≡ not_below_zero (at c k)
at_clamped c zero l = refl
at_clamped c (suc zero) l = refl
at_clamped c (suc (suc zero)) l = refl
at_clamped c (suc (suc (suc zero))) l = refl
at_clamped c (suc (suc (suc (suc zero)))) l = refl
at_clamped c (suc (suc (suc (suc (suc k))))) l = absurd (omega arith)

coefficient_less : (S : ℕ) (a b : ℤ) (n : List ℤ) (k : ℕ) → k < 5 → pos 0 ≤ℤ a → a ≤ℤ b → at (squared (pos S) a n) k ≤ℤ at (all_not_below_zero (squared (pos S) b n)) k
coefficient_less S a b n k l h m =
    let s = square_more S a b h m in
    let left : at (squared (pos S) a n) k ≡ pos s.0 *ℤ at (lifted n) k = raised_at (scaled_square S a) n k l ∙ ap (λ z. z *ℤ at (lifted n) k) s.3 in
    let right : at (squared (pos S) b n) k ≡ pos s.1 *ℤ at (lifted n) k = raised_at (scaled_square S b) n k l ∙ ap (λ z. z *ℤ at (lifted n) k) s.4 in
    subst (λ z. z ≤ℤ at (all_not_below_zero (squared (pos S) b n)) k) (sym left)
    (subst (λ z. (pos s.0 *ℤ at (lifted n) k) ≤ℤ z) (sym (at_clamped (squared (pos S) b n) k l ∙ ap not_below_zero right)) (times_less s.0 s.1 (at (lifted n) k) s.2))

pub within_limits : (S : ℕ) (most : ℤ) (n : List ℤ) (s : SlabSize) → IsNoWider most s → IsWithinLimits (all_not_below_zero (squared (pos S) most n)) n S s
within_limits S most n s h = record { at_most = λ k l. coefficient_less S s.dia most n k l h.not_negative h.no_wider }

pub all_within : (S : ℕ) (most : ℤ) (n limits : List ℤ) (slabs : List SlabSize) → limits ≡ all_not_below_zero (squared (pos S) most n) → All (IsNoWider most) slabs → All (IsWithinLimits limits n S) slabs
all_within S most n limits slabs e h =
    subst (λ z. All (IsWithinLimits z n S) slabs) (sym e)
    (All-weaker (IsNoWider most) (IsWithinLimits (all_not_below_zero (squared (pos S) most n)) n S) (λ s no_wider. within_limits S most n s no_wider) slabs h)

-- the limits as multiples of what n raised to degree 4 has above 0
natural_stays : (z : ℤ) → pos 0 ≤ℤ z → not_below_zero z ≡ z
natural_stays z h = cond_both (int_lt z (pos 0)) (pos 0) z (λ x. x ≡ z) (λ below. let l = (decides_lt z (pos 0)).0 below in absurd (omega (arith, ints, h, l))) (λ above. refl)

none_of_less : (z : ℤ) → z ≤ℤ pos 0 → not_below_zero z ≡ pos 0
none_of_less z h = cond_both (int_lt z (pos 0)) (pos 0) z (λ x. x ≡ pos 0) (λ below. refl) (λ above. let l = not_less z (pos 0) above in omega (arith, ints, h, l))

natural_times : (m k : ℕ) → pos 0 ≤ℤ (pos m *ℤ pos k)
natural_times m k = omega (arith, ints)

less_times : (m k : ℕ) → (pos m *ℤ negsuc k) ≤ℤ pos 0
less_times m k = omega (arith, ints)

times_none : (m : ℕ) → pos m *ℤ pos 0 ≡ pos 0
times_none m = omega (arith, ints)

clamped_times : (m : ℕ) (z : ℤ) → pos m *ℤ not_below_zero z ≡ not_below_zero (pos m *ℤ z)
clamped_times m (pos k) = ap (λ x. pos m *ℤ x) (natural_stays (pos k) (omega (arith, ints))) ∙ sym (natural_stays (pos m *ℤ pos k) (natural_times m k))
clamped_times m (negsuc k) = ap (λ x. pos m *ℤ x) (none_of_less (negsuc k) (omega (arith, ints))) ∙ times_none m ∙ sym (none_of_less (pos m *ℤ negsuc k) (less_times m k))

limit_is : (S : ℕ) (d : ℤ) (n : List ℤ) (k : ℕ) → k < 5 → pos 0 ≤ℤ d → scaled_square S d *ℤ not_below_zero (at (lifted n) k) ≡ not_below_zero (at (squared (pos S) d n) k)
limit_is S d n k l h =
    let s = square_more S d d h (omega (arith, ints)) in
    ap (λ x. x *ℤ not_below_zero (at (lifted n) k)) s.3 ∙ clamped_times s.0 (at (lifted n) k)
    ∙ ap not_below_zero (ap (λ x. x *ℤ at (lifted n) k) (sym s.3) ∙ sym (raised_at (scaled_square S d) n k l))

pub limits_are : (S : ℕ) (d : ℤ) (n : List ℤ) → pos 0 ≤ℤ d → scaled4 (scaled_square S d) (all_not_below_zero (lifted n)) ≡ all_not_below_zero (squared (pos S) d n)
limits_are S d n h =
    same5 _ _ _ _ _ _ _ _ _ _ (limit_is S d n 0 (omega arith) h) (limit_is S d n 1 (omega arith) h) (limit_is S d n 2 (omega arith) h) (limit_is S d n 3 (omega arith) h) (limit_is S d n 4 (omega arith) h)
