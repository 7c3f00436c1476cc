-- The cell rule says the same at any scale: samples that are counted t times as finely, with lengths taken t times as long.
use Rattle.std.proofs.Common.{◌≡◌, ℕ, zero, suc, ◌+◌, ◌*◌, ◌≤◌, ◌<◌, [], ◌∷◌, List, length, ℤ, pos, negsuc, ◌*ℤ◌, ◌-ℤ◌, ◌<ℤ◌, inl, inr, ⊎_elim, arith, ap, refl, sym, subst, ◌∙◌}
use Rattle.std.proofs.lemmas.Int.{ints}
use Rattle.std.proofs.Math.Nat.{mul-le-mul}
use Rattle.std.specs.List.{All}
use Rattle.space.specs.Sweeps.{SweepOf, axis_at, between, offset, offset_at}
use Rattle.space.specs.Vectors.{at}
use Rattle.space.proofs.Solver.{Term, var, num, add, mul, ring}
use Rattle.space.proofs.Terms.{from, sub}
use Rattle.bern_form.specs.Between.{d_between, height_less, n_between, u_between, width_less}
use Rattle.bern_form.specs.Cells.{dot_on_cell, scaled_square}
use Rattle.bern_form.specs.Forms.{scaled2, scaled4}
use Rattle.bern_form.specs.Slab.{SlabSize}
use Rattle.bern_form.proofs.Finer.{AllOut, ExcludedWith}
use Rattle.bern_form.proofs.HalfSigns.{all_five}
use Rattle.bern_form.proofs.Relations.{AllNegative, AllPositive}

-- vectors
abbrev grown : ℤ → List ℤ → List ℤ
grown t v = (t *ℤ at v 0) ∷ (t *ℤ at v 1) ∷ (t *ℤ at v 2) ∷ []

same3 : (a b c d e f : ℤ) → a ≡ d → b ≡ e → c ≡ f → a ∷ b ∷ c ∷ [] ≡ d ∷ e ∷ f ∷ []
same3 a b c d e f h k l = ap (λ z. z ∷ b ∷ c ∷ []) h ∙ ap (λ z. d ∷ z ∷ c ∷ []) k ∙ ap (λ z. d ∷ e ∷ z ∷ []) l

same5 : (a b c d e f g h i j : ℤ) → a ≡ f → b ≡ g → c ≡ h → d ≡ i → e ≡ j → a ∷ b ∷ c ∷ d ∷ e ∷ [] ≡ f ∷ g ∷ h ∷ i ∷ j ∷ []
same5 a b c d e f g h i j p q r s t =
    ap (λ z. z ∷ b ∷ c ∷ d ∷ e ∷ []) p ∙ ap (λ z. f ∷ z ∷ c ∷ d ∷ e ∷ []) q ∙ ap (λ z. f ∷ g ∷ z ∷ d ∷ e ∷ []) r ∙ ap (λ z. f ∷ g ∷ h ∷ z ∷ e ∷ []) s ∙ ap (λ z. f ∷ g ∷ h ∷ i ∷ z ∷ []) t

times_is : (a t : ℕ) → pos (a * t) ≡ pos a *ℤ pos t
times_is a t = omega (arith, ints)

between_grown : (k S t : ℕ) (f e : ℤ) → between (pos (k * t)) (pos (S * t)) f e ≡ pos t *ℤ between (pos k) (pos S) f e
between_grown k S t f e =
    ap (λ z. between z (pos (S * t)) f e) (times_is k t) ∙ ap (λ z. between (pos k *ℤ pos t) z f e) (times_is S t) ∙ both (pos k) (pos S) (pos t) f e where
      both : (k S t f e : ℤ) → between (k *ℤ t) (S *ℤ t) f e ≡ t *ℤ between k S f e
      both k S t f e =
          let K = var 0 in let Z = var 1 in let T = var 2 in let F = var 3 in let E = var 4 in
          ring (k ∷ S ∷ t ∷ f ∷ e ∷ []) (add (mul (sub (mul Z T) (mul K T)) F) (mul (mul K T) E)) (mul T (add (mul (sub Z K) F) (mul K E))) refl

offset_grown : (k S t : ℕ) (p f e : ℤ) → offset (pos (k * t)) (pos (S * t)) p f e ≡ pos t *ℤ offset (pos k) (pos S) p f e
offset_grown k S t p f e =
    ap (λ z. pos (S * t) *ℤ p -ℤ z) (between_grown k S t f e) ∙ ap (λ z. z *ℤ p -ℤ pos t *ℤ between (pos k) (pos S) f e) (times_is S t)
    ∙ both (pos S) (pos t) p (between (pos k) (pos S) f e) where
      both : (S t p b : ℤ) → (S *ℤ t) *ℤ p -ℤ t *ℤ b ≡ t *ℤ (S *ℤ p -ℤ b)
      both S t p b = ring (S ∷ t ∷ p ∷ b ∷ []) (sub (mul (mul (var 0) (var 1)) (var 2)) (mul (var 1) (var 3))) (mul (var 1) (sub (mul (var 0) (var 2)) (var 3))) refl

offsets_grown : (m : SweepOf) (p : List ℤ) (k S t : ℕ) → offset_at m p (pos (k * t)) (pos (S * t)) ≡ grown (pos t) (offset_at m p (pos k) (pos S))
offsets_grown m p k S t =
    same3 _ _ _ _ _ _ (offset_grown k S t (at p 0) (at m.from 0) (at m.to 0)) (offset_grown k S t (at p 1) (at m.from 1) (at m.to 1)) (offset_grown k S t (at p 2) (at m.from 2) (at m.to 2))

axes_grown : (m : SweepOf) (k S t : ℕ) → axis_at m (pos (k * t)) (pos (S * t)) ≡ grown (pos t) (axis_at m (pos k) (pos S))
axes_grown m k S t =
    same3 _ _ _ _ _ _ (between_grown k S t (at m.axis_from 0) (at m.axis_to 0)) (between_grown k S t (at m.axis_from 1) (at m.axis_to 1)) (between_grown k S t (at m.axis_from 2) (at m.axis_to 2))

-- forms of degree 2
abbrev product11 : Term → Term → Term → Term → ℕ → Term
product11 a b c d zero = mul a c
product11 a b c d (suc zero) = add (mul a d) (mul b c)
product11 a b c d (suc (suc k)) = mul b d

abbrev on_cell : (ℕ → Term) → (ℕ → Term) → (ℕ → Term) → (ℕ → Term) → ℕ → Term
on_cell p q a c k = add (add (product11 (p 0) (q 0) (a 0) (c 0) k) (product11 (p 1) (q 1) (a 1) (c 1) k)) (product11 (p 2) (q 2) (a 2) (c 2) k)

dot_grown : (t : ℤ) (p q a c : List ℤ) → dot_on_cell (grown t p) (grown t q) (grown t a) (grown t c) ≡ scaled2 (t *ℤ t) (dot_on_cell p q a c)
dot_grown t p q a c =
    let e = at p 0 ∷ at p 1 ∷ at p 2 ∷ at q 0 ∷ at q 1 ∷ at q 2 ∷ at a 0 ∷ at a 1 ∷ at a 2 ∷ at c 0 ∷ at c 1 ∷ at c 2 ∷ t ∷ [] in let T = var 12 in
    let g = λ (n : ℕ) (k : ℕ). mul T (var (n + k)) in
    let l = on_cell (g 0) (g 3) (g 6) (g 9) in let r = λ (k : ℕ). mul (mul T T) (on_cell (from 0) (from 3) (from 6) (from 9) k) in
    same3 _ _ _ _ _ _ (ring e (l 0) (r 0) refl) (ring e (l 1) (r 1) refl) (ring e (l 2) (r 2) refl)

u_grown : (m : SweepOf) (p : List ℤ) (j k S t : ℕ) → u_between m p (j * t) (k * t) (S * t) ≡ scaled2 (pos t *ℤ pos t) (u_between m p j k S)
u_grown m p j k S t =
    ap (λ v. dot_on_cell v (offset_at m p (pos (k * t)) (pos (S * t))) (axis_at m (pos (j * t)) (pos (S * t))) (axis_at m (pos (k * t)) (pos (S * t)))) (offsets_grown m p j S t)
    ∙ ap (λ v. dot_on_cell (grown (pos t) (offset_at m p (pos j) (pos S))) v (axis_at m (pos (j * t)) (pos (S * t))) (axis_at m (pos (k * t)) (pos (S * t)))) (offsets_grown m p k S t)
    ∙ ap (λ v. dot_on_cell (grown (pos t) (offset_at m p (pos j) (pos S))) (grown (pos t) (offset_at m p (pos k) (pos S))) v (axis_at m (pos (k * t)) (pos (S * t)))) (axes_grown m j S t)
    ∙ ap (λ v. dot_on_cell (grown (pos t) (offset_at m p (pos j) (pos S))) (grown (pos t) (offset_at m p (pos k) (pos S))) (grown (pos t) (axis_at m (pos j) (pos S))) v) (axes_grown m k S t)
    ∙ dot_grown (pos t) (offset_at m p (pos j) (pos S)) (offset_at m p (pos k) (pos S)) (axis_at m (pos j) (pos S)) (axis_at m (pos k) (pos S))

n_grown : (m : SweepOf) (j k S t : ℕ) → n_between m (j * t) (k * t) (S * t) ≡ scaled2 (pos t *ℤ pos t) (n_between m j k S)
n_grown m j k S t =
    let a = axis_at m (pos j) (pos S) in let c = axis_at m (pos k) (pos S) in
    ap (λ v. dot_on_cell v (axis_at m (pos (k * t)) (pos (S * t))) v (axis_at m (pos (k * t)) (pos (S * t)))) (axes_grown m j S t)
    ∙ ap (λ v. dot_on_cell (grown (pos t) a) v (grown (pos t) a) v) (axes_grown m k S t) ∙ dot_grown (pos t) a c a c

d_grown : (m : SweepOf) (p : List ℤ) (j k S t : ℕ) → d_between m p (j * t) (k * t) (S * t) ≡ scaled2 (pos t *ℤ pos t) (d_between m p j k S)
d_grown m p j k S t =
    let a = offset_at m p (pos j) (pos S) in let c = offset_at m p (pos k) (pos S) in
    ap (λ v. dot_on_cell v (offset_at m p (pos (k * t)) (pos (S * t))) v (offset_at m p (pos (k * t)) (pos (S * t)))) (offsets_grown m p j S t)
    ∙ ap (λ v. dot_on_cell (grown (pos t) a) v (grown (pos t) a) v) (offsets_grown m p k S t) ∙ dot_grown (pos t) a c a c

-- forms of degree 4
abbrev conv : (ℕ → Term) → (ℕ → Term) → ℕ → Term
conv a b zero = mul (a 0) (b 0)
conv a b (suc zero) = add (mul (a 0) (b 1)) (mul (a 1) (b 0))
conv a b (suc (suc zero)) = add (add (mul (a 0) (b 2)) (mul (a 1) (b 1))) (mul (a 2) (b 0))
conv a b (suc (suc (suc zero))) = add (mul (a 1) (b 2)) (mul (a 2) (b 1))
conv a b (suc (suc (suc (suc k)))) = mul (a 2) (b 2)

abbrev ones : ℕ → Term
ones zero = num (pos 1)
ones (suc zero) = num (pos 2)
ones (suc (suc k)) = num (pos 1)

height_grown : (t f : ℤ) (u n : List ℤ) → height_less (t *ℤ f) (scaled2 t u) (scaled2 t n) ≡ scaled4 (t *ℤ t) (height_less f u n)
height_grown t f u n =
    let e = at u 0 ∷ at u 1 ∷ at u 2 ∷ at n 0 ∷ at n 1 ∷ at n 2 ∷ t ∷ f ∷ [] in let T = var 6 in let F = var 7 in
    let U = λ (k : ℕ). mul T (var k) in let N = λ (k : ℕ). mul (mul T F) (mul T (var (3 + k))) in
    let l = λ (k : ℕ). sub (conv U U k) (conv N ones k) in
    let r = λ (k : ℕ). mul (mul T T) (sub (conv (from 0) (from 0) k) (conv (λ i. mul F (var (3 + i))) ones k)) in
    same5 _ _ _ _ _ _ _ _ _ _ (ring e (l 0) (r 0) refl) (ring e (l 1) (r 1) refl) (ring e (l 2) (r 2) refl) (ring e (l 3) (r 3) refl) (ring e (l 4) (r 4) refl)

width_grown : (t f : ℤ) (u n d : List ℤ) → width_less (t *ℤ f) (scaled2 t u) (scaled2 t n) (scaled2 t d) ≡ scaled4 (t *ℤ t) (width_less f u n d)
width_grown t f u n d =
    let e = at u 0 ∷ at u 1 ∷ at u 2 ∷ at n 0 ∷ at n 1 ∷ at n 2 ∷ t ∷ f ∷ at d 0 ∷ at d 1 ∷ at d 2 ∷ [] in let T = var 6 in let F = var 7 in
    let U = λ (k : ℕ). mul T (var k) in let N = λ (k : ℕ). mul T (var (3 + k)) in let D = λ (k : ℕ). mul T (var (8 + k)) in
    let l = λ (k : ℕ). sub (mul (num (pos 4)) (sub (conv D N k) (conv U U k))) (conv (λ i. mul (mul T F) (N i)) ones k) in
    let r = λ (k : ℕ). mul (mul T T) (sub (mul (num (pos 4)) (sub (conv (from 8) (from 3) k) (conv (from 0) (from 0) k))) (conv (λ i. mul F (var (3 + i))) ones k)) in
    same5 _ _ _ _ _ _ _ _ _ _ (ring e (l 0) (r 0) refl) (ring e (l 1) (r 1) refl) (ring e (l 2) (r 2) refl) (ring e (l 3) (r 3) refl) (ring e (l 4) (r 4) refl)

square_grown : (S t : ℕ) (z : ℤ) → scaled_square (S * t) z ≡ (pos t *ℤ pos t) *ℤ scaled_square S z
square_grown S t z = ap (λ y. (y *ℤ z) *ℤ (y *ℤ z)) (times_is S t) ∙ both (pos S) (pos t) z where
  both : (s t z : ℤ) → ((s *ℤ t) *ℤ z) *ℤ ((s *ℤ t) *ℤ z) ≡ (t *ℤ t) *ℤ ((s *ℤ z) *ℤ (s *ℤ z))
  both s t z =
      let Z = mul (mul (var 0) (var 1)) (var 2) in let Y = mul (var 0) (var 2) in
      ring (s ∷ t ∷ z ∷ []) (mul Z Z) (mul (mul (var 1) (var 1)) (mul Y Y)) refl

-- signs
negative_grown : (k : ℕ) (z : ℤ) → 0 < k → z <ℤ pos 0 → (pos k *ℤ z) <ℤ pos 0
negative_grown k (pos n) some h = absurd (omega (arith, ints, h))
negative_grown k (negsuc n) some h = let more : 1 * 1 ≤ k * (n + 1) = mul-le-mul some (one n) in omega (arith, ints, more) where
  one : (n : ℕ) → 1 ≤ n + 1
  one n = omega arith

positive_grown : (k : ℕ) (z : ℤ) → 0 < k → pos 0 <ℤ z → pos 0 <ℤ (pos k *ℤ z)
positive_grown k (pos n) some h = let one : 1 ≤ n = omega (arith, ints, h) in let more : 1 * 1 ≤ k * n = mul-le-mul some one in omega (arith, ints, more)
positive_grown k (negsuc n) some h = absurd (omega (arith, ints, h))

all_three : (P : ℤ → Type 0) (a b c : ℤ) → P a → P b → P c → All P (a ∷ b ∷ c ∷ [])
all_three P a b c h0 h1 h2 zero d l = h0
all_three P a b c h0 h1 h2 (suc zero) d l = h1
all_three P a b c h0 h1 h2 (suc (suc zero)) d l = h2
all_three P a b c h0 h1 h2 (suc (suc (suc k))) d l = absurd (omega arith)

two_grown : (k : ℕ) (c : List ℤ) → 0 < k → 3 ≤ length c → AllNegative c → AllNegative (scaled2 (pos k) c)
two_grown k c some long h =
    all_three (λ z. z <ℤ pos 0) (pos k *ℤ at c 0) (pos k *ℤ at c 1) (pos k *ℤ at c 2)
    (negative_grown k (at c 0) some (h 0 (pos 0) (omega arith))) (negative_grown k (at c 1) some (h 1 (pos 0) (omega arith))) (negative_grown k (at c 2) some (h 2 (pos 0) (omega arith)))

four_negative : (k : ℕ) (c : List ℤ) → 0 < k → 5 ≤ length c → AllNegative c → AllNegative (scaled4 (pos k) c)
four_negative k c some long h =
    let P = λ (i : ℕ) (l : i < length c). negative_grown k (at c i) some (h i (pos 0) l) in
    all_five (λ z. z <ℤ pos 0) (pos k *ℤ at c 0) (pos k *ℤ at c 1) (pos k *ℤ at c 2) (pos k *ℤ at c 3) (pos k *ℤ at c 4)
    (P 0 (omega arith)) (P 1 (omega arith)) (P 2 (omega arith)) (P 3 (omega arith)) (P 4 (omega arith))

four_positive : (k : ℕ) (c : List ℤ) → 0 < k → 5 ≤ length c → AllPositive c → AllPositive (scaled4 (pos k) c)
four_positive k c some long h =
    let P = λ (i : ℕ) (l : i < length c). positive_grown k (at c i) some (h i (pos 0) l) in
    all_five (λ z. pos 0 <ℤ z) (pos k *ℤ at c 0) (pos k *ℤ at c 1) (pos k *ℤ at c 2) (pos k *ℤ at c 3) (pos k *ℤ at c 4)
    (P 0 (omega arith)) (P 1 (omega arith)) (P 2 (omega arith)) (P 3 (omega arith)) (P 4 (omega arith))

some_square : (t : ℕ) → 0 < t → 0 < t * t
some_square t h = let more : 1 * 1 ≤ t * t = mul-le-mul h h in omega (arith, more)

-- the cell rule
excluded_grown : (s : SlabSize) (S t : ℕ) (u n d : List ℤ) → 0 < t → 3 ≤ length u → ExcludedWith s S u n d
    → ExcludedWith s (S * t) (scaled2 (pos t *ℤ pos t) u) (scaled2 (pos t *ℤ pos t) n) (scaled2 (pos t *ℤ pos t) d)
excluded_grown s S t u n d some long x =
    let T : ℤ = pos t *ℤ pos t in
    let k = t * t in let k_is : T ≡ pos k = square_is t in let fourth : T *ℤ T ≡ pos (k * k) = fourth_is t in
    let enough = some_square t some in let more = some_square k enough in
    let height = λ (z : ℤ). ap (λ (f : ℤ). height_less f (scaled2 T u) (scaled2 T n)) (square_grown S t z) ∙ height_grown T (scaled_square S z) u n ∙ ap (λ (y : ℤ). scaled4 y (height_less (scaled_square S z) u n)) fourth in
    let width = λ (z : ℤ). ap (λ (f : ℤ). width_less f (scaled2 T u) (scaled2 T n) (scaled2 T d)) (square_grown S t z) ∙ width_grown T (scaled_square S z) u n d ∙ ap (λ (y : ℤ). scaled4 y (width_less (scaled_square S z) u n d)) fourth in
    ⊎_elim (λ c. inl (subst (λ (y : ℤ). AllNegative (scaled2 y u)) (sym k_is) (two_grown k u enough long c)))
    (λ y. ⊎_elim (λ c. inr (inl (subst AllNegative (sym (height s.lo)) (four_negative (k * k) (height_less (scaled_square S s.lo) u n) more (omega arith) c))))
    (λ z. ⊎_elim (λ c. inr (inr (inl (subst AllPositive (sym (height s.hi)) (four_positive (k * k) (height_less (scaled_square S s.hi) u n) more (omega arith) c)))))
    (λ c. inr (inr (inr (subst AllPositive (sym (width s.dia)) (four_positive (k * k) (width_less (scaled_square S s.dia) u n d) more (omega arith) c))))) z) y) x where
      square_is : (t : ℕ) → pos t *ℤ pos t ≡ pos (t * t)
      square_is t = omega (arith, ints)

      fourth_is : (t : ℕ) → (pos t *ℤ pos t) *ℤ (pos t *ℤ pos t) ≡ pos (t * t * (t * t))
      fourth_is t = ap (λ (y : ℤ). y *ℤ y) (square_is t) ∙ square_is (t * t)

pub out_grown : (slabs : List SlabSize) (m : SweepOf) (p : List ℤ) (j k S t : ℕ) → 0 < t → AllOut slabs m p j k S → AllOut slabs m p (j * t) (k * t) (S * t)
out_grown slabs m p j k S t some out = record {
  each = λ s among.
      let T : ℤ = pos t *ℤ pos t in
      subst (λ (l : List ℤ). ExcludedWith s (S * t) (u_between m p (j * t) (k * t) (S * t)) (n_between m (j * t) (k * t) (S * t)) l) (sym (d_grown m p j k S t))
      (subst (λ (l : List ℤ). ExcludedWith s (S * t) (u_between m p (j * t) (k * t) (S * t)) l (scaled2 T (d_between m p j k S))) (sym (n_grown m j k S t))
      (subst (λ (l : List ℤ). ExcludedWith s (S * t) l (scaled2 T (n_between m j k S)) (scaled2 T (d_between m p j k S))) (sym (u_grown m p j k S t))
      (excluded_grown s S t (u_between m p j k S) (n_between m j k S) (d_between m p j k S) some (omega arith) (out.each s among))));
}
