-- The forms of the two halves of a part of a move, from a sample to one in the middle and from there to a last one. The forms of
-- the whole are sums of each half's, so the whole's strict signs are the halves' signs too.
use Rattle.std.proofs.Common.{◌≡◌, ℕ, ◌+◌, ◌*◌, [], ◌∷◌, List, ℤ, pos, ◌+ℤ◌, ◌*ℤ◌, ◌-ℤ◌, arith, refl, ap, ap₂, ◌∙◌}
use Rattle.std.proofs.lemmas.Int.{ints}
use Rattle.space.specs.Vectors.{at}
use Rattle.space.specs.Sweeps.{SweepOf, axis_at, between, offset, offset_at}
use Rattle.space.proofs.Solver.{Term, var, num, add, mul, ring}
use Rattle.space.proofs.Terms.{dots, from, sub}
use Rattle.bern_form.specs.Cells.{dot_on_cell}
use Rattle.bern_form.specs.Between.{d_between, n_between, u_between}

-- the other end, as far from the middle as the one end
abbrev pub far : List ℤ → List ℤ → List ℤ
far m p = (pos 2 *ℤ at m 0 -ℤ at p 0) ∷ (pos 2 *ℤ at m 1 -ℤ at p 1) ∷ (pos 2 *ℤ at m 2 -ℤ at p 2) ∷ []

-- a form of degree 2 on the whole, from its form on the first half, and from that on the last half
abbrev pub whole_of_first : List ℤ → List ℤ
whole_of_first h = at h 0 ∷ (pos 2 *ℤ at h 1 -ℤ pos 2 *ℤ at h 0) ∷ ((at h 0 -ℤ pos 2 *ℤ at h 1) +ℤ pos 4 *ℤ at h 2) ∷ []

abbrev pub whole_of_last : List ℤ → List ℤ
whole_of_last h = ((pos 4 *ℤ at h 0 -ℤ pos 2 *ℤ at h 1) +ℤ at h 2) ∷ (pos 2 *ℤ at h 1 -ℤ pos 2 *ℤ at h 2) ∷ at h 2 ∷ []

same3 : (a b c d e f : ℤ) → a ≡ d → b ≡ e → c ≡ f → a ∷ b ∷ c ∷ [] ≡ d ∷ e ∷ f ∷ []
same3 a b c d e f h k l = ap (λ z. z ∷ b ∷ c ∷ []) h ∙ ap (λ z. d ∷ z ∷ c ∷ []) k ∙ ap (λ z. d ∷ e ∷ z ∷ []) l

-- terms
abbrev twice : Term → Term
twice t = mul (num (pos 2)) t

abbrev times4 : Term → Term
times4 t = mul (num (pos 4)) t

-- the middle coefficient of a scalar product on a cell
abbrev cross_term : (ℕ → Term) → (ℕ → Term) → (ℕ → Term) → (ℕ → Term) → ℕ → Term
cross_term p q a c k = add (mul (p k) (c k)) (mul (q k) (a k))

abbrev crosses : (ℕ → Term) → (ℕ → Term) → (ℕ → Term) → (ℕ → Term) → Term
crosses p q a c = add (add (cross_term p q a c 0) (cross_term p q a c 1)) (cross_term p q a c 2)

abbrev other : (ℕ → Term) → (ℕ → Term) → ℕ → Term
other m p k = sub (twice (m k)) (p k)

abbrev twelve : List ℤ → List ℤ → List ℤ → List ℤ → List ℤ
twelve p q a c = at p 0 ∷ at p 1 ∷ at p 2 ∷ at q 0 ∷ at q 1 ∷ at q 2 ∷ at a 0 ∷ at a 1 ∷ at a 2 ∷ at c 0 ∷ at c 1 ∷ at c 2 ∷ []

-- a scalar product on the whole, from the one end and the middle, and from the middle and the last end
dot_first : (p m a b : List ℤ) → dot_on_cell p (far m p) a (far b a) ≡ whole_of_first (dot_on_cell p m a b)
dot_first p m a b =
    let e = twelve p m a b in let q = other (from 3) (from 0) in let c = other (from 9) (from 6) in
    same3 _ _ _ _ _ _
    refl
    (ring e (crosses (from 0) q (from 6) c) (sub (twice (crosses (from 0) (from 3) (from 6) (from 9))) (twice (dots (from 0) (from 6)))) refl)
    (ring e (dots q c) (add (sub (dots (from 0) (from 6)) (twice (crosses (from 0) (from 3) (from 6) (from 9)))) (times4 (dots (from 3) (from 9)))) refl)

dot_last : (m q b c : List ℤ) → dot_on_cell (far m q) q (far b c) c ≡ whole_of_last (dot_on_cell m q b c)
dot_last m q b c =
    let e = twelve m q b c in let p = other (from 0) (from 3) in let a = other (from 6) (from 9) in
    same3 _ _ _ _ _ _
    (ring e (dots p a) (add (sub (times4 (dots (from 0) (from 6))) (twice (crosses (from 0) (from 3) (from 6) (from 9)))) (dots (from 3) (from 9))) refl)
    (ring e (crosses p (from 3) a (from 9)) (sub (twice (crosses (from 0) (from 3) (from 6) (from 9))) (twice (dots (from 3) (from 9)))) refl)
    refl

-- offsets and axes are linear in the number of the sample
between_far : (i j s f t : ℤ) → between (pos 2 *ℤ i -ℤ j) s f t ≡ pos 2 *ℤ between i s f t -ℤ between j s f t
between_far i j s f t =
    let I = var 0 in let J = var 1 in let S = var 2 in let F = var 3 in let T = var 4 in
    let at_time = λ (a : Term). add (mul (sub S a) F) (mul a T) in
    ring (i ∷ j ∷ s ∷ f ∷ t ∷ []) (at_time (sub (twice I) J)) (sub (twice (at_time I)) (at_time J)) refl

offset_far : (i j s p f t : ℤ) → offset (pos 2 *ℤ i -ℤ j) s p f t ≡ pos 2 *ℤ offset i s p f t -ℤ offset j s p f t
offset_far i j s p f t =
    let I = var 0 in let J = var 1 in let S = var 2 in let F = var 3 in let T = var 4 in let X = var 5 in
    let at_time = λ (a : Term). sub (mul S X) (add (mul (sub S a) F) (mul a T)) in
    ring (i ∷ j ∷ s ∷ f ∷ t ∷ p ∷ []) (at_time (sub (twice I) J)) (sub (twice (at_time I)) (at_time J)) refl

other_time : (j i k : ℕ) → j + k ≡ 2 * i → pos k ≡ pos 2 *ℤ pos i -ℤ pos j
other_time j i k h = omega (arith, ints)

offset_at_far : (m : SweepOf) (p : List ℤ) (j i k S : ℕ) → j + k ≡ 2 * i → offset_at m p (pos k) (pos S) ≡ far (offset_at m p (pos i) (pos S)) (offset_at m p (pos j) (pos S))
offset_at_far m p j i k S h =
    let s = pos S in
    ap (λ z. offset_at m p z s) (other_time j i k h)
    ∙ same3 _ _ _ _ _ _ (offset_far (pos i) (pos j) s (at p 0) (at m.from 0) (at m.to 0)) (offset_far (pos i) (pos j) s (at p 1) (at m.from 1) (at m.to 1)) (offset_far (pos i) (pos j) s (at p 2) (at m.from 2) (at m.to 2))

axis_at_far : (m : SweepOf) (j i k S : ℕ) → j + k ≡ 2 * i → axis_at m (pos k) (pos S) ≡ far (axis_at m (pos i) (pos S)) (axis_at m (pos j) (pos S))
axis_at_far m j i k S h =
    let s = pos S in
    ap (λ z. axis_at m z s) (other_time j i k h)
    ∙ same3 _ _ _ _ _ _ (between_far (pos i) (pos j) s (at m.axis_from 0) (at m.axis_to 0)) (between_far (pos i) (pos j) s (at m.axis_from 1) (at m.axis_to 1)) (between_far (pos i) (pos j) s (at m.axis_from 2) (at m.axis_to 2))

turned : (j i k : ℕ) → j + k ≡ 2 * i → k + j ≡ 2 * i
turned j i k h = omega arith

-- the forms of u, n and d between the samples j and k, by those of the half up to the sample i in the middle, and of the half from there
pub u_of_first : (m : SweepOf) (p : List ℤ) (j i k S : ℕ) → j + k ≡ 2 * i → u_between m p j k S ≡ whole_of_first (u_between m p j i S)
u_of_first m p j i k S h =
    let P = offset_at m p (pos j) (pos S) in let A = axis_at m (pos j) (pos S) in
    ap₂ (λ q c. dot_on_cell P q A c) (offset_at_far m p j i k S h) (axis_at_far m j i k S h) ∙ dot_first P (offset_at m p (pos i) (pos S)) A (axis_at m (pos i) (pos S))

pub u_of_last : (m : SweepOf) (p : List ℤ) (j i k S : ℕ) → j + k ≡ 2 * i → u_between m p j k S ≡ whole_of_last (u_between m p i k S)
u_of_last m p j i k S h =
    let Q = offset_at m p (pos k) (pos S) in let C = axis_at m (pos k) (pos S) in let t = turned j i k h in
    ap₂ (λ q a. dot_on_cell q Q a C) (offset_at_far m p k i j S t) (axis_at_far m k i j S t) ∙ dot_last (offset_at m p (pos i) (pos S)) Q (axis_at m (pos i) (pos S)) C

pub n_of_first : (m : SweepOf) (j i k S : ℕ) → j + k ≡ 2 * i → n_between m j k S ≡ whole_of_first (n_between m j i S)
n_of_first m j i k S h =
    let A = axis_at m (pos j) (pos S) in let B = axis_at m (pos i) (pos S) in
    ap (λ c. dot_on_cell A c A c) (axis_at_far m j i k S h) ∙ dot_first A B A B

pub n_of_last : (m : SweepOf) (j i k S : ℕ) → j + k ≡ 2 * i → n_between m j k S ≡ whole_of_last (n_between m i k S)
n_of_last m j i k S h =
    let C = axis_at m (pos k) (pos S) in let B = axis_at m (pos i) (pos S) in
    ap (λ a. dot_on_cell a C a C) (axis_at_far m k i j S (turned j i k h)) ∙ dot_last B C B C

pub d_of_first : (m : SweepOf) (p : List ℤ) (j i k S : ℕ) → j + k ≡ 2 * i → d_between m p j k S ≡ whole_of_first (d_between m p j i S)
d_of_first m p j i k S h =
    let P = offset_at m p (pos j) (pos S) in let M = offset_at m p (pos i) (pos S) in
    ap (λ q. dot_on_cell P q P q) (offset_at_far m p j i k S h) ∙ dot_first P M P M

pub d_of_last : (m : SweepOf) (p : List ℤ) (j i k S : ℕ) → j + k ≡ 2 * i → d_between m p j k S ≡ whole_of_last (d_between m p i k S)
d_of_last m p j i k S h =
    let Q = offset_at m p (pos k) (pos S) in let M = offset_at m p (pos i) (pos S) in
    ap (λ q. dot_on_cell q Q q Q) (offset_at_far m p k i j S (turned j i k h)) ∙ dot_last M Q M Q
