-- What is excluded between two samples is excluded between the same times of a finer scale, and so on each finer cell between them.
use Rattle.std.proofs.Common.{◌≡◌, false, ℕ, zero, suc, ◌+◌, ◌*◌, ◌^◌, ◌≤◌, ◌<◌, [], ◌∷◌, List, length, ℤ, pos, negsuc, ◌*ℤ◌, ◌<ℤ◌, inl, inr, arith, refl, ap, sym, subst, ⊎_elim, ◌∙◌}
use Rattle.std.proofs.lemmas.Int.{ints}
use Rattle.std.proofs.lemmas.Nat.{pow-add, pow_pos}
use Rattle.std.proofs.Math.Nat.{mul-add, mul-le-mul}
use Rattle.space.specs.Vectors.{at}
use Rattle.space.specs.Sweeps.{SweepOf, axis_at, between, offset, offset_at}
use Rattle.space.proofs.Solver.{Term, var, num, add, mul, ring}
use Rattle.space.proofs.Terms.{dots, from, sub}
use Rattle.bern_form.specs.Cells.{dot_on_cell, scaled_square}
use Rattle.bern_form.specs.Forms.{scaled2}
use Rattle.bern_form.specs.Between.{d_between, height_less, is_unexcluded_between, n_between, u_between, width_less}
use Rattle.bern_form.specs.Marks.{is_unexcluded_on}
use Rattle.bern_form.specs.Slab.{SlabSize}
use Rattle.bern_form.proofs.Finer.{AllOut, ExcludedBetween, ExcludedWith, all_out, left_on_none}
use Rattle.bern_form.proofs.HalfSigns.{all_five, all_three}
use Rattle.bern_form.proofs.Relations.{AllNegative, AllPositive}

-- a product with a number above 0 keeps a strict sign
times_below : (h : ℕ) (z : ℤ) → 0 < h → z <ℤ pos 0 → (pos h *ℤ z) <ℤ pos 0
times_below h (pos n) some l = absurd (omega (arith, ints, l))
times_below h (negsuc n) some l = let one : 1 ≤ n + 1 = omega arith in let more : 1 * 1 ≤ h * (n + 1) = mul-le-mul some one in omega (arith, ints, more)

times_above : (h : ℕ) (z : ℤ) → 0 < h → pos 0 <ℤ z → pos 0 <ℤ (pos h *ℤ z)
times_above h (negsuc n) some l = absurd (omega (arith, ints, l))
times_above h (pos n) some l = let one : 1 ≤ n = omega (arith, ints, l) in let more : 1 * 1 ≤ h * n = mul-le-mul some one in omega (arith, ints, more)

-- terms: forms by their coefficients
abbrev ones : ℕ → Term
ones zero = num (pos 1)
ones (suc zero) = num (pos 2)
ones (suc (suc k)) = num (pos 1)

abbrev conv : (ℕ → Term) → (ℕ → Term) → ℕ → Term
conv a b zero = mul (a 0) (b 0)
conv a b (suc zero) = add (mul (a 0) (b 1)) (mul (a 1) (b 0))
conv a b (suc (suc zero)) = add (add (mul (a 0) (b 2)) (mul (a 1) (b 1))) (mul (a 2) (b 0))
conv a b (suc (suc (suc zero))) = add (mul (a 1) (b 2)) (mul (a 2) (b 1))
conv a b (suc (suc (suc (suc k)))) = mul (a 2) (b 2)

abbrev scaled : Term → (ℕ → Term) → ℕ → Term
scaled f a k = mul f (a k)

abbrev height : Term → (ℕ → Term) → (ℕ → Term) → ℕ → Term
height f u n k = sub (conv u u k) (conv (scaled f n) ones k)

abbrev width : Term → (ℕ → Term) → (ℕ → Term) → (ℕ → Term) → ℕ → Term
width f u n d k = sub (mul (num (pos 4)) (sub (conv d n k) (conv u u k))) (conv (scaled f n) ones k)

-- what the terms stand for
abbrev eleven : ℤ → ℤ → List ℤ → List ℤ → List ℤ → List ℤ
eleven h f u n d = h ∷ f ∷ at u 0 ∷ at u 1 ∷ at u 2 ∷ at n 0 ∷ at n 1 ∷ at n 2 ∷ at d 0 ∷ at d 1 ∷ at d 2 ∷ []

-- the quantities that the rule compares, where u, n and d are taken times h
height_at : (h f : ℤ) (u n : List ℤ) (k : ℕ) → k < 5 → at (height_less (h *ℤ f) (scaled2 h u) (scaled2 h n)) k ≡ (h *ℤ h) *ℤ at (height_less f u n) k
height_at h f u n zero l = let H = var 0 in let F = var 1 in
    ring (eleven h f u n []) (height (mul H F) (scaled H (from 2)) (scaled H (from 5)) 0) (mul (mul H H) (height F (from 2) (from 5) 0)) refl
height_at h f u n (suc zero) l = let H = var 0 in let F = var 1 in
    ring (eleven h f u n []) (height (mul H F) (scaled H (from 2)) (scaled H (from 5)) 1) (mul (mul H H) (height F (from 2) (from 5) 1)) refl
height_at h f u n (suc (suc zero)) l = let H = var 0 in let F = var 1 in
    ring (eleven h f u n []) (height (mul H F) (scaled H (from 2)) (scaled H (from 5)) 2) (mul (mul H H) (height F (from 2) (from 5) 2)) refl
height_at h f u n (suc (suc (suc zero))) l = let H = var 0 in let F = var 1 in
    ring (eleven h f u n []) (height (mul H F) (scaled H (from 2)) (scaled H (from 5)) 3) (mul (mul H H) (height F (from 2) (from 5) 3)) refl
height_at h f u n (suc (suc (suc (suc zero)))) l = let H = var 0 in let F = var 1 in
    ring (eleven h f u n []) (height (mul H F) (scaled H (from 2)) (scaled H (from 5)) 4) (mul (mul H H) (height F (from 2) (from 5) 4)) refl
height_at h f u n (suc (suc (suc (suc (suc k))))) l = absurd (omega arith)

width_at : (h f : ℤ) (u n d : List ℤ) (k : ℕ) → k < 5 → at (width_less (h *ℤ f) (scaled2 h u) (scaled2 h n) (scaled2 h d)) k ≡ (h *ℤ h) *ℤ at (width_less f u n d) k
width_at h f u n d zero l = let H = var 0 in let F = var 1 in
    ring (eleven h f u n d) (width (mul H F) (scaled H (from 2)) (scaled H (from 5)) (scaled H (from 8)) 0) (mul (mul H H) (width F (from 2) (from 5) (from 8) 0)) refl
width_at h f u n d (suc zero) l = let H = var 0 in let F = var 1 in
    ring (eleven h f u n d) (width (mul H F) (scaled H (from 2)) (scaled H (from 5)) (scaled H (from 8)) 1) (mul (mul H H) (width F (from 2) (from 5) (from 8) 1)) refl
width_at h f u n d (suc (suc zero)) l = let H = var 0 in let F = var 1 in
    ring (eleven h f u n d) (width (mul H F) (scaled H (from 2)) (scaled H (from 5)) (scaled H (from 8)) 2) (mul (mul H H) (width F (from 2) (from 5) (from 8) 2)) refl
width_at h f u n d (suc (suc (suc zero))) l = let H = var 0 in let F = var 1 in
    ring (eleven h f u n d) (width (mul H F) (scaled H (from 2)) (scaled H (from 5)) (scaled H (from 8)) 3) (mul (mul H H) (width F (from 2) (from 5) (from 8) 3)) refl
width_at h f u n d (suc (suc (suc (suc zero)))) l = let H = var 0 in let F = var 1 in
    ring (eleven h f u n d) (width (mul H F) (scaled H (from 2)) (scaled H (from 5)) (scaled H (from 8)) 4) (mul (mul H H) (width F (from 2) (from 5) (from 8) 4)) refl
width_at h f u n d (suc (suc (suc (suc (suc k))))) l = absurd (omega arith)

-- coefficients that are those of another list times the square of a number above 0 have its strict sign
square_above : (h : ℕ) → 0 < h → 0 < h * h
square_above h some = let more : 1 * 1 ≤ h * h = mul-le-mul some some in omega arith

five_below : (h : ℕ) (c x : List ℤ) → 0 < h → 5 ≤ length c → ((k : ℕ) → k < 5 → at x k ≡ (pos h *ℤ pos h) *ℤ at c k) → AllNegative c
    → AllNegative (at x 0 ∷ at x 1 ∷ at x 2 ∷ at x 3 ∷ at x 4 ∷ [])
five_below h c x some long e p =
    let one = λ (k : ℕ) (l : k < 5). let low : k < length c = omega arith in let below : at x k <ℤ pos 0 = subst (λ z. z <ℤ pos 0) (sym (e k l)) (times_below (h * h) (at c k) (square_above h some) (p k (pos 0) low)) in below in
    all_five (λ z. z <ℤ pos 0) (at x 0) (at x 1) (at x 2) (at x 3) (at x 4) (one 0 (omega arith)) (one 1 (omega arith)) (one 2 (omega arith)) (one 3 (omega arith)) (one 4 (omega arith))

five_above : (h : ℕ) (c x : List ℤ) → 0 < h → 5 ≤ length c → ((k : ℕ) → k < 5 → at x k ≡ (pos h *ℤ pos h) *ℤ at c k) → AllPositive c
    → AllPositive (at x 0 ∷ at x 1 ∷ at x 2 ∷ at x 3 ∷ at x 4 ∷ [])
five_above h c x some long e p =
    let one = λ (k : ℕ) (l : k < 5). let low : k < length c = omega arith in let above : pos 0 <ℤ at x k = subst (λ z. pos 0 <ℤ z) (sym (e k l)) (times_above (h * h) (at c k) (square_above h some) (p k (pos 0) low)) in above in
    all_five (λ z. pos 0 <ℤ z) (at x 0) (at x 1) (at x 2) (at x 3) (at x 4) (one 0 (omega arith)) (one 1 (omega arith)) (one 2 (omega arith)) (one 3 (omega arith)) (one 4 (omega arith))

three_below : (h : ℕ) (u : List ℤ) → 0 < h → 3 ≤ length u → AllNegative u → AllNegative (scaled2 (pos h) u)
three_below h u some long p =
    all_three (λ z. z <ℤ pos 0) (pos h *ℤ at u 0) (pos h *ℤ at u 1) (pos h *ℤ at u 2)
    (times_below h (at u 0) some (p 0 (pos 0) (omega arith))) (times_below h (at u 1) some (p 1 (pos 0) (omega arith))) (times_below h (at u 2) some (p 2 (pos 0) (omega arith)))

-- the square of a length at a scale that is g times as fine
square_scaled : (g S : ℕ) (z : ℤ) → pos (g * g) *ℤ scaled_square S z ≡ scaled_square (g * S) z
square_scaled g S z =
    let G = var 0 in let T = var 1 in let Z = var 2 in
    ring (pos g ∷ pos S ∷ z ∷ []) (mul (mul G G) (mul (mul T Z) (mul T Z))) (mul (mul (mul G T) Z) (mul (mul G T) Z)) refl

-- the rule by the coefficients
scaled_with : (s : SlabSize) (g S : ℕ) (u n d : List ℤ) → 0 < g → 3 ≤ length u → ExcludedWith s S u n d
    → ExcludedWith s (g * S) (scaled2 (pos (g * g)) u) (scaled2 (pos (g * g)) n) (scaled2 (pos (g * g)) d)
scaled_with s g S u n d some long x =
    let h = g * g in let H = pos h in let more = square_above g some in
    let lo = scaled_square S s.lo in let hi = scaled_square S s.hi in let dia = scaled_square S s.dia in
    ⊎_elim (λ c. inl (three_below h u more long c))
    (λ y. ⊎_elim
    (λ c. inr (inl (subst (λ f. AllNegative (height_less f (scaled2 H u) (scaled2 H n))) (square_scaled g S s.lo)
    (five_below h (height_less lo u n) (height_less (H *ℤ lo) (scaled2 H u) (scaled2 H n)) more (omega arith) (height_at H lo u n) c))))
    (λ z. ⊎_elim
    (λ c. inr (inr (inl (subst (λ f. AllPositive (height_less f (scaled2 H u) (scaled2 H n))) (square_scaled g S s.hi)
    (five_above h (height_less hi u n) (height_less (H *ℤ hi) (scaled2 H u) (scaled2 H n)) more (omega arith) (height_at H hi u n) c)))))
    (λ c. inr (inr (inr (subst (λ f. AllPositive (width_less f (scaled2 H u) (scaled2 H n) (scaled2 H d))) (square_scaled g S s.dia)
    (five_above h (width_less dia u n d) (width_less (H *ℤ dia) (scaled2 H u) (scaled2 H n) (scaled2 H d)) more (omega arith) (width_at H dia u n d) c)))))
    z) y) x

-- offsets and axes at a scale that is g times as fine
same3 : (a b c d e f : ℤ) → a ≡ d → b ≡ e → c ≡ f → a ∷ b ∷ c ∷ [] ≡ d ∷ e ∷ f ∷ []
same3 a b c d e f h k l = ap (λ z. z ∷ b ∷ c ∷ []) h ∙ ap (λ z. d ∷ z ∷ c ∷ []) k ∙ ap (λ z. d ∷ e ∷ z ∷ []) l

between_scaled : (g a b f t : ℤ) → between (g *ℤ a) (g *ℤ b) f t ≡ g *ℤ between a b f t
between_scaled g a b f t =
    let G = var 0 in let A = var 1 in let B = var 2 in let F = var 3 in let T = var 4 in
    ring (g ∷ a ∷ b ∷ f ∷ t ∷ []) (add (mul (sub (mul G B) (mul G A)) F) (mul (mul G A) T)) (mul G (add (mul (sub B A) F) (mul A T))) refl

offset_scaled : (g a b p f t : ℤ) → offset (g *ℤ a) (g *ℤ b) p f t ≡ g *ℤ offset a b p f t
offset_scaled g a b p f t =
    let G = var 0 in let A = var 1 in let B = var 2 in let F = var 3 in let T = var 4 in let P = var 5 in
    ring (g ∷ a ∷ b ∷ f ∷ t ∷ p ∷ []) (sub (mul (mul G B) P) (add (mul (sub (mul G B) (mul G A)) F) (mul (mul G A) T)))
    (mul G (sub (mul B P) (add (mul (sub B A) F) (mul A T)))) refl

offset_at_scaled : (m : SweepOf) (p : List ℤ) (g k S : ℕ) → offset_at m p (pos (g * k)) (pos (g * S)) ≡ scaled2 (pos g) (offset_at m p (pos k) (pos S))
offset_at_scaled m p g k S =
    same3 _ _ _ _ _ _ (offset_scaled (pos g) (pos k) (pos S) (at p 0) (at m.from 0) (at m.to 0)) (offset_scaled (pos g) (pos k) (pos S) (at p 1) (at m.from 1) (at m.to 1)) (offset_scaled (pos g) (pos k) (pos S) (at p 2) (at m.from 2) (at m.to 2))

axis_at_scaled : (m : SweepOf) (g k S : ℕ) → axis_at m (pos (g * k)) (pos (g * S)) ≡ scaled2 (pos g) (axis_at m (pos k) (pos S))
axis_at_scaled m g k S =
    same3 _ _ _ _ _ _ (between_scaled (pos g) (pos k) (pos S) (at m.axis_from 0) (at m.axis_to 0)) (between_scaled (pos g) (pos k) (pos S) (at m.axis_from 1) (at m.axis_to 1)) (between_scaled (pos g) (pos k) (pos S) (at m.axis_from 2) (at m.axis_to 2))

-- a scalar product of vectors that are taken times g
abbrev crosses : (ℕ → Term) → (ℕ → Term) → (ℕ → Term) → (ℕ → Term) → Term
crosses p q a c = add (add (add (mul (p 0) (c 0)) (mul (q 0) (a 0))) (add (mul (p 1) (c 1)) (mul (q 1) (a 1)))) (add (mul (p 2) (c 2)) (mul (q 2) (a 2)))

abbrev thirteen : ℤ → List ℤ → List ℤ → List ℤ → List ℤ → List ℤ
thirteen g p q a c = g ∷ at p 0 ∷ at p 1 ∷ at p 2 ∷ at q 0 ∷ at q 1 ∷ at q 2 ∷ at a 0 ∷ at a 1 ∷ at a 2 ∷ at c 0 ∷ at c 1 ∷ at c 2 ∷ []

dot_scaled : (g : ℤ) (p q a c : List ℤ) → dot_on_cell (scaled2 g p) (scaled2 g q) (scaled2 g a) (scaled2 g c) ≡ scaled2 (g *ℤ g) (dot_on_cell p q a c)
dot_scaled g p q a c =
    let e = thirteen g p q a c in let G = var 0 in
    let P = scaled G (from 1) in let Q = scaled G (from 4) in let A = scaled G (from 7) in let C = scaled G (from 10) in
    same3 _ _ _ _ _ _
    (ring e (dots P A) (mul (mul G G) (dots (from 1) (from 7))) refl)
    (ring e (crosses P Q A C) (mul (mul G G) (crosses (from 1) (from 4) (from 7) (from 10))) refl)
    (ring e (dots Q C) (mul (mul G G) (dots (from 4) (from 10))) refl)

dot_by : (p q a c p' q' a' c' : List ℤ) → p ≡ p' → q ≡ q' → a ≡ a' → c ≡ c' → dot_on_cell p q a c ≡ dot_on_cell p' q' a' c'
dot_by p q a c p' q' a' c' hp hq ha hc = λ t. dot_on_cell (hp t) (hq t) (ha t) (hc t)

u_scaled : (m : SweepOf) (p : List ℤ) (g j k S : ℕ) → u_between m p (g * j) (g * k) (g * S) ≡ scaled2 (pos (g * g)) (u_between m p j k S)
u_scaled m p g j k S =
    dot_by _ _ _ _ _ _ _ _ (offset_at_scaled m p g j S) (offset_at_scaled m p g k S) (axis_at_scaled m g j S) (axis_at_scaled m g k S)
    ∙ dot_scaled (pos g) (offset_at m p (pos j) (pos S)) (offset_at m p (pos k) (pos S)) (axis_at m (pos j) (pos S)) (axis_at m (pos k) (pos S))

n_scaled : (m : SweepOf) (g j k S : ℕ) → n_between m (g * j) (g * k) (g * S) ≡ scaled2 (pos (g * g)) (n_between m j k S)
n_scaled m g j k S =
    dot_by _ _ _ _ _ _ _ _ (axis_at_scaled m g j S) (axis_at_scaled m g k S) (axis_at_scaled m g j S) (axis_at_scaled m g k S)
    ∙ dot_scaled (pos g) (axis_at m (pos j) (pos S)) (axis_at m (pos k) (pos S)) (axis_at m (pos j) (pos S)) (axis_at m (pos k) (pos S))

d_scaled : (m : SweepOf) (p : List ℤ) (g j k S : ℕ) → d_between m p (g * j) (g * k) (g * S) ≡ scaled2 (pos (g * g)) (d_between m p j k S)
d_scaled m p g j k S =
    dot_by _ _ _ _ _ _ _ _ (offset_at_scaled m p g j S) (offset_at_scaled m p g k S) (offset_at_scaled m p g j S) (offset_at_scaled m p g k S)
    ∙ dot_scaled (pos g) (offset_at m p (pos j) (pos S)) (offset_at m p (pos k) (pos S)) (offset_at m p (pos j) (pos S)) (offset_at m p (pos k) (pos S))

-- what is excluded between two samples is so between the same times of the finer scale
excluded_scaled : (s : SlabSize) (m : SweepOf) (p : List ℤ) (g j k S : ℕ) → 0 < g → ExcludedBetween s m p j k S → ExcludedBetween s m p (g * j) (g * k) (g * S)
excluded_scaled s m p g j k S some x =
    let H = pos (g * g) in
    subst (λ u. ExcludedWith s (g * S) u (n_between m (g * j) (g * k) (g * S)) (d_between m p (g * j) (g * k) (g * S))) (sym (u_scaled m p g j k S))
    (subst (λ n. ExcludedWith s (g * S) (scaled2 H (u_between m p j k S)) n (d_between m p (g * j) (g * k) (g * S))) (sym (n_scaled m g j k S))
    (subst (λ d. ExcludedWith s (g * S) (scaled2 H (u_between m p j k S)) (scaled2 H (n_between m j k S)) d) (sym (d_scaled m p g j k S))
    (scaled_with s g S (u_between m p j k S) (n_between m j k S) (d_between m p j k S) some (omega arith) x)))

out_scaled : (slabs : List SlabSize) (m : SweepOf) (p : List ℤ) (g j k S : ℕ) → 0 < g → AllOut slabs m p j k S → AllOut slabs m p (g * j) (g * k) (g * S)
out_scaled slabs m p g j k S some out = record { each = λ s among. excluded_scaled s m p g j k S some (out.each s among) }

-- slabs that are all excluded on cell k of 2^q are so on each of its 2^n cells of the scale 2^(q + n)
pub left_on_no_finer : (slabs : List SlabSize) (m : SweepOf) (p : List ℤ) (q n k c : ℕ) → is_unexcluded_between slabs m p k (k + 1) (2 ^ q) ≡ false
    → 2 ^ n * k ≤ c → c < 2 ^ n * k + 2 ^ n → is_unexcluded_on slabs m p c (2 ^ (n + q)) ≡ false
left_on_no_finer slabs m p q n k c none after before =
    let g = 2 ^ n in
    let out : AllOut slabs m p (g * k) (g * (k + 1)) (g * 2 ^ q) = out_scaled slabs m p g k (k + 1) (2 ^ q) (pow_pos n) (all_out slabs m p k (k + 1) (2 ^ q) none) in
    let last : g * (k + 1) ≡ g * k + g = mul-add g k 1 ∙ ap (λ x. g * k + x) (omega arith) in
    subst (λ S. is_unexcluded_on slabs m p c S ≡ false) (sym (pow-add 2 n q))
    (left_on_none slabs m p (g * 2 ^ q) n (g * k) c (subst (λ e. AllOut slabs m p (g * k) e (g * 2 ^ q)) last out) after before)
