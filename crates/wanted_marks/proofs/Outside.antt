-- Where a point is lower on a whole move than the slabs of a rising stack from some number on begin, and beside the one before it, each is
-- excluded: those from there on begin no lower, and those before it are no wider.
use Rattle.std.proofs.Common.{◌≡◌, true, ℕ, zero, suc, ◌-◌, ◌^◌, ◌≤◌, ◌<◌, List, [], ◌∷◌, length, get_or, ℤ, pos, negsuc, ◌+ℤ◌, ◌*ℤ◌, ◌-ℤ◌, ◌<ℤ◌, ◌≤ℤ◌, inl, inr, arith, refl, ap, ⊎_elim, subst, sym, ◌∙◌}
use Rattle.std.proofs.lemmas.Bool.{cases_lt}
use Rattle.std.proofs.lemmas.Int.{ints}
use Rattle.std.proofs.lemmas.List.{get_or_default}
use Rattle.std.proofs.lemmas.List.Elements.{All-contains}
use Rattle.space.specs.Vectors.{at}
use Rattle.space.proofs.Naturals.{square_not_negative}
use Rattle.space.proofs.Solver.{var, num, add, mul, ring}
use Rattle.space.proofs.Terms.{from, sub}
use Rattle.space.proofs.Tests.{decides_lt}
use Rattle.bern_form.specs.Between.{height_less, n_between, u_between}
use Rattle.bern_form.specs.Cells.{scaled_square}
use Rattle.bern_form.specs.Forms.{all_negative, all_positive, difference4, product22}
use Rattle.bern_form.specs.Slab.{SlabSize}
use Rattle.bern_form.proofs.Decided.{decides_negative, decides_positive}
use Rattle.bern_form.proofs.Finer.{ExcludedBetween}
use Rattle.bern_form.proofs.HalfSigns.{all_five}
use Rattle.bern_form.proofs.Relations.{AllNegative, AllPositive}
use Rattle.cutter_slabs.specs.Rising.{IsRising}
use Rattle.cutter_slabs.specs.Stacks.{outer_stack}
use Rattle.axis_cells.specs.Exclusion.{squared}
use Rattle.box_bisect.specs.SlabTests.{no_slab}
use Rattle.ray_boxes.proofs.Raised.{raised_is}
use Rattle.width_bisect.specs.Below.{IsBelowFrom}
use Rattle.wanted_marks.specs.Limits.{IsNoWider, all_not_below_zero}
use Rattle.wanted_marks.specs.Peaks.{IsLeast, IsPeak, is_under}
use Rattle.wanted_marks.specs.Rays.{IsClearOf, MoveOf, is_possible_in, is_sure_in}
use Rattle.wanted_marks.specs.Widths.{whole_width}
use Rattle.wanted_marks.proofs.Dropping.{is_clear, over_less}
use Rattle.wanted_marks.proofs.Running.{above, nth, slab_in, weighed}
use Rattle.wanted_marks.proofs.Widest.{within_limits}

-- products of numbers that aren't below 0
product_natural : (x y : ℤ) → pos 0 ≤ℤ x → pos 0 ≤ℤ y → pos 0 ≤ℤ (x *ℤ y)
product_natural (pos m) (pos n) h k = omega (arith, ints)
product_natural (pos m) (negsuc n) h k = absurd (omega (arith, ints, k))
product_natural (negsuc m) y h k = absurd (omega (arith, ints, h))

rest_is : (f m z : ℤ) → f *ℤ (z -ℤ m) ≡ f *ℤ z -ℤ f *ℤ m
rest_is f m z = let F = var 0 in let M = var 1 in let Z = var 2 in ring (f ∷ m ∷ z ∷ []) (mul F (sub Z M)) (sub (mul F Z) (mul F M)) refl

left_natural : (m z : ℤ) → m ≤ℤ z → pos 0 ≤ℤ (z -ℤ m)
left_natural m z h = omega (arith, ints, h)

no_less : (x y : ℤ) → pos 0 ≤ℤ (y -ℤ x) → x ≤ℤ y
no_less x y h = omega (arith, ints, h)

times_more : (f m z : ℤ) → pos 0 ≤ℤ f → m ≤ℤ z → (f *ℤ m) ≤ℤ (f *ℤ z)
times_more f m z h k = no_less (f *ℤ m) (f *ℤ z) (subst (λ x. pos 0 ≤ℤ x) (rest_is f m z) (product_natural f (z -ℤ m) h (left_natural m z k)))

over : (q x y z : ℤ) → q <ℤ x → x ≤ℤ y → y ≡ z → q <ℤ z
over q x y z h k e = omega (arith, ints, h, k, e)

-- a product of two numbers against their squares
cross_at_most : (x y : ℤ) → (pos 4 *ℤ (x *ℤ y)) ≤ℤ ((pos 2 *ℤ x) *ℤ (pos 2 *ℤ x) +ℤ y *ℤ y)
cross_at_most x y =
    let X = var 0 in let Y = var 1 in let two = num (pos 2) in let d = sub (mul two X) Y in
    no_less (pos 4 *ℤ (x *ℤ y)) ((pos 2 *ℤ x) *ℤ (pos 2 *ℤ x) +ℤ y *ℤ y)
    (subst (λ z. pos 0 ≤ℤ z)
    (ring (x ∷ y ∷ []) (mul d d) (sub (add (mul (mul two X) (mul two X)) (mul Y Y)) (mul (num (pos 4)) (mul X Y))) refl)
    (square_not_negative (pos 2 *ℤ x -ℤ y)))

ends_at_most : (x y : ℤ) → (pos 8 *ℤ (x *ℤ y)) ≤ℤ ((pos 2 *ℤ x) *ℤ (pos 2 *ℤ x) +ℤ (pos 2 *ℤ y) *ℤ (pos 2 *ℤ y))
ends_at_most x y =
    let X = var 0 in let Y = var 1 in let two = num (pos 2) in let d = sub (mul two X) (mul two Y) in
    no_less (pos 8 *ℤ (x *ℤ y)) ((pos 2 *ℤ x) *ℤ (pos 2 *ℤ x) +ℤ (pos 2 *ℤ y) *ℤ (pos 2 *ℤ y))
    (subst (λ z. pos 0 ≤ℤ z)
    (ring (x ∷ y ∷ []) (mul d d) (sub (add (mul (mul two X) (mul two X)) (mul (mul two Y) (mul two Y))) (mul (num (pos 8)) (mul X Y))) refl)
    (square_not_negative (pos 2 *ℤ x -ℤ pos 2 *ℤ y)))

quarter : (x : ℤ) → (pos 2 *ℤ x) *ℤ (pos 2 *ℤ x) ≡ pos 4 *ℤ (x *ℤ x)
quarter x = let X = var 0 in let two = num (pos 2) in ring (x ∷ []) (mul (mul two X) (mul two X)) (mul (num (pos 4)) (mul X X)) refl

taken_out : (b f z : ℤ) → f *ℤ (b *ℤ z) ≡ b *ℤ (f *ℤ z)
taken_out b f z = let B = var 0 in let F = var 1 in let Z = var 2 in ring (b ∷ f ∷ z ∷ []) (mul F (mul B Z)) (mul B (mul F Z)) refl

-- the five coefficients, by the products that they are computed from
end_less : (x n : ℤ) (q : ℤ) → (pos 4 *ℤ x) ≤ℤ q → q <ℤ (pos 4 *ℤ n) → (x -ℤ n) <ℤ pos 0
end_less x n q h k = omega (arith, ints, h, k)

side_less : (x y xy n m q : ℤ) → x ≤ℤ q → y ≤ℤ q → (pos 4 *ℤ xy) ≤ℤ (x +ℤ y) → q <ℤ (pos 4 *ℤ n) → q <ℤ (pos 2 *ℤ m)
    → (pos 2 *ℤ xy -ℤ (pos 2 *ℤ n +ℤ m)) <ℤ pos 0
side_less x y xy n m q h k c a b = omega (arith, ints, h, k, c, a, b)

middle_less : (x y z xz n m o q : ℤ) → x ≤ℤ q → y ≤ℤ q → z ≤ℤ q → (pos 8 *ℤ xz) ≤ℤ (x +ℤ z) → q <ℤ (pos 4 *ℤ n) → q <ℤ (pos 2 *ℤ m) → q <ℤ (pos 4 *ℤ o)
    → ((pos 2 *ℤ xz +ℤ y) -ℤ ((n +ℤ pos 2 *ℤ m) +ℤ o)) <ℤ pos 0
middle_less x y z xz n m o q h k l c a b d = omega (arith, ints, h, k, l, c, a, b, d)

-- the slab begins higher
abbrev coefficient : List ℤ → ℤ → List ℤ → ℕ → ℤ
coefficient u f n k = at (height_less f u n) k

pub under_slab : (f : ℤ) (u n : List ℤ) (square least : ℤ) → pos 0 ≤ℤ f → IsPeak square u → IsLeast least n → square <ℤ (f *ℤ least) → AllNegative (height_less f u n)
under_slab f u n square least up peak floor less =
    let u0 = at u 0 in let u1 = at u 1 in let u2 = at u 2 in let n0 = at n 0 in let n1 = at n 1 in let n2 = at n 2 in
    let q = square in
    let a = over q (f *ℤ least) (f *ℤ (pos 4 *ℤ n0)) (pos 4 *ℤ (f *ℤ n0)) less (times_more f least (pos 4 *ℤ n0) up floor.first) (taken_out (pos 4) f n0) in
    let b = over q (f *ℤ least) (f *ℤ (pos 2 *ℤ n1)) (pos 2 *ℤ (f *ℤ n1)) less (times_more f least (pos 2 *ℤ n1) up floor.middle) (taken_out (pos 2) f n1) in
    let d = over q (f *ℤ least) (f *ℤ (pos 4 *ℤ n2)) (pos 4 *ℤ (f *ℤ n2)) less (times_more f least (pos 4 *ℤ n2) up floor.last) (taken_out (pos 4) f n2) in
    let e = u0 ∷ u1 ∷ u2 ∷ f ∷ n0 ∷ n1 ∷ n2 ∷ [] in
    let U = from 0 in let F = var 3 in let N = from 4 in let one = num (pos 1) in let two = num (pos 2) in
    let s0 = subst (λ z. z ≤ℤ q) (quarter u0) peak.first in let s2 = subst (λ z. z ≤ℤ q) (quarter u2) peak.last in
    let negative = λ (z : ℤ). z <ℤ pos 0 in
    let k0 = subst negative (ring e (sub (mul (U 0) (U 0)) (mul F (N 0))) (sub (mul (U 0) (U 0)) (mul (mul F (N 0)) one)) refl) (end_less (u0 *ℤ u0) (f *ℤ n0) q s0 a) in
    let k1 = subst negative
    (ring e (sub (mul two (mul (U 0) (U 1))) (add (mul two (mul F (N 0))) (mul F (N 1))))
    (sub (add (mul (U 0) (U 1)) (mul (U 1) (U 0))) (add (mul (mul F (N 0)) two) (mul (mul F (N 1)) one))) refl)
    (side_less ((pos 2 *ℤ u0) *ℤ (pos 2 *ℤ u0)) (u1 *ℤ u1) (u0 *ℤ u1) (f *ℤ n0) (f *ℤ n1) q peak.first peak.middle (cross_at_most u0 u1) a b) in
    let k2 = subst negative
    (ring e (sub (add (mul two (mul (U 0) (U 2))) (mul (U 1) (U 1))) (add (add (mul F (N 0)) (mul two (mul F (N 1)))) (mul F (N 2))))
    (sub (add (add (mul (U 0) (U 2)) (mul (U 1) (U 1))) (mul (U 2) (U 0))) (add (add (mul (mul F (N 0)) one) (mul (mul F (N 1)) two)) (mul (mul F (N 2)) one))) refl)
    (middle_less ((pos 2 *ℤ u0) *ℤ (pos 2 *ℤ u0)) (u1 *ℤ u1) ((pos 2 *ℤ u2) *ℤ (pos 2 *ℤ u2)) (u0 *ℤ u2) (f *ℤ n0) (f *ℤ n1) (f *ℤ n2) q peak.first peak.middle peak.last (ends_at_most u0 u2) a b d) in
    let k3 = subst negative
    (ring e (sub (mul two (mul (U 2) (U 1))) (add (mul two (mul F (N 2))) (mul F (N 1))))
    (sub (add (mul (U 1) (U 2)) (mul (U 2) (U 1))) (add (mul (mul F (N 1)) one) (mul (mul F (N 2)) two))) refl)
    (side_less ((pos 2 *ℤ u2) *ℤ (pos 2 *ℤ u2)) (u1 *ℤ u1) (u2 *ℤ u1) (f *ℤ n2) (f *ℤ n1) q peak.last peak.middle (cross_at_most u2 u1) d b) in
    let k4 = subst negative (ring e (sub (mul (U 2) (U 2)) (mul F (N 2))) (sub (mul (U 2) (U 2)) (mul (mul F (N 2)) one)) refl) (end_less (u2 *ℤ u2) (f *ℤ n2) q s2 d) in
    all_five negative (coefficient u f n 0) (coefficient u f n 1) (coefficient u f n 2) (coefficient u f n 3) (coefficient u f n 4) k0 k1 k2 k3 k4

-- a slab that begins no lower
natural_of : (q f least : ℤ) → pos 0 ≤ℤ q → pos 0 ≤ℤ f → q <ℤ (f *ℤ least) → pos 0 ≤ℤ least
natural_of q f (pos n) h k l = omega (arith, ints)
natural_of q (pos zero) (negsuc n) h k l = absurd (omega (arith, ints, h, l))
natural_of q (pos (suc m)) (negsuc n) h k l = absurd (omega (arith, ints, h, l))
natural_of q (negsuc m) (negsuc n) h k l = absurd (omega (arith, ints, k))

at_most_before : (a b c : ℤ) → a <ℤ b → b ≤ℤ c → a <ℤ c
at_most_before a b c h k = omega (arith, ints, h, k)

at_most_after : (a b c : ℤ) → a ≤ℤ b → b ≤ℤ c → a ≤ℤ c
at_most_after a b c h k = omega (arith, ints, h, k)

under_later : (S : ℕ) (u n : List ℤ) (square least : ℤ) (s t : SlabSize) → IsPeak square u → IsLeast least n → pos 0 ≤ℤ s.lo → s.lo ≤ℤ t.lo → is_under S square least s ≡ true
    → AllNegative (height_less (scaled_square S t.lo) u n)
under_later S u n square least s t peak floor natural higher under =
    let f = scaled_square S s.lo in let less = (decides_lt square (f *ℤ least)).0 under in
    let some = at_most_after (pos 0) (at u 1 *ℤ at u 1) square (square_not_negative (at u 1)) peak.middle in
    let up = natural_of square f least some (square_not_negative (pos S *ℤ s.lo)) less in
    under_slab (scaled_square S t.lo) u n square least (square_not_negative (pos S *ℤ t.lo)) peak floor
    (at_most_before square (f *ℤ least) (scaled_square S t.lo *ℤ least) less (weighed S s.lo t.lo least up natural higher))

-- the slabs from a number on are under by their beginnings, the others beside by the width of the last of them
pub record IsOutside (outer : List SlabSize) (S : ℕ) (square least : ℤ) (n W : List ℤ) (j : ℕ) : Type 0 where
  pub under : j < length outer → is_under S square least (nth outer j) ≡ true
  pub beside : (i : ℕ) → j ≡ suc i → (i < length outer) × (all_positive (difference4 W (all_not_below_zero (squared (pos S) (nth outer i).dia n))) ≡ true)

out_beside : (S : ℕ) (u n W : List ℤ) (most : ℤ) (s : SlabSize) → IsNoWider most s → all_positive (difference4 W (all_not_below_zero (squared (pos S) most n))) ≡ true
    → AllPositive (difference4 W (squared (pos S) s.dia n))
out_beside S u n W most s no_wider beyond =
    let limits = all_not_below_zero (squared (pos S) most n) in
    over_less W limits (squared (pos S) s.dia n) ((decides_positive (difference4 W limits)).0 beyond) (within_limits S most n s no_wider).at_most

pub slabs_out : (v : MoveOf) (p : List ℤ) (square least : ℤ) (j : ℕ) → IsRising (outer_stack v.cutter v.slabs)
    → IsPeak square (u_between v.sweep p 0 (2 ^ v.depth) (2 ^ v.depth)) → IsLeast least (n_between v.sweep 0 (2 ^ v.depth) (2 ^ v.depth))
    → IsOutside (outer_stack v.cutter v.slabs) (2 ^ v.depth) square least (n_between v.sweep 0 (2 ^ v.depth) (2 ^ v.depth)) (whole_width v.sweep p (2 ^ v.depth)) j
    → (i : ℕ) → i < length (outer_stack v.cutter v.slabs) → ExcludedBetween (nth (outer_stack v.cutter v.slabs) i) v.sweep p 0 (2 ^ v.depth) (2 ^ v.depth)
slabs_out v p square least zero rising peak floor out i l =
    let S = 2 ^ v.depth in let outer = outer_stack v.cutter v.slabs in let u = u_between v.sweep p 0 S S in let n = n_between v.sweep 0 S S in
    inr (inl (under_later S u n square least (nth outer 0) (nth outer i) peak floor (slab_in outer 0 rising (omega (arith, l))).above_tip (above outer 0 i i rising (omega arith) l).low (out.under (omega (arith, l)))))
slabs_out v p square least (suc k) rising peak floor out i l =
    let S = 2 ^ v.depth in let outer = outer_stack v.cutter v.slabs in let u = u_between v.sweep p 0 S S in let n = n_between v.sweep 0 S S in let W = whole_width v.sweep p S in
    ⊎_elim
    (λ (h : i < suc k).
    let b = out.beside k refl in
    inr (inr (inr (out_beside S u n W (nth outer k).dia (nth outer i) record { not_negative = (slab_in outer i rising l).thick; no_wider = (above outer i (k - i) k rising (omega (arith, h)) b.0).wider } b.1))))
    (λ (h : suc k ≤ i).
    let j = suc k in let within : j < length outer = omega (arith, h, l) in
    inr (inl (under_later S u n square least (nth outer j) (nth outer i) peak floor (slab_in outer j rising within).above_tip (above outer j (i - j) i rising (omega (arith, h)) l).low (out.under within))))
    (cases_lt i (suc k))

pub outside_is_clear : (v : MoveOf) (p : List ℤ) (square least : ℤ) (j : ℕ) → (is_sure_in v p ≡ true → is_possible_in v p ≡ true) → IsRising (outer_stack v.cutter v.slabs)
    → IsPeak square (u_between v.sweep p 0 (2 ^ v.depth) (2 ^ v.depth)) → IsLeast least (n_between v.sweep 0 (2 ^ v.depth) (2 ^ v.depth))
    → IsOutside (outer_stack v.cutter v.slabs) (2 ^ v.depth) square least (n_between v.sweep 0 (2 ^ v.depth) (2 ^ v.depth)) (whole_width v.sweep p (2 ^ v.depth)) j → IsClearOf v p
outside_is_clear v p square least j both rising peak floor out =
    let S = 2 ^ v.depth in let outer = outer_stack v.cutter v.slabs in
    let all = slabs_out v p square least j rising peak floor out in
    is_clear v p both record {
      each = λ s among. All-contains (λ x. ExcludedBetween x v.sweep p 0 S S) outer s
          (λ i d l. subst (λ x. ExcludedBetween x v.sweep p 0 S S) (get_or_default outer i no_slab d l) (all i l)) among;
    }

-- the same by what is computed
pub outside_by : (v : MoveOf) (p : List ℤ) (S j : ℕ) (outer : List SlabSize) (u n W : List ℤ) (square least : ℤ) → outer ≡ outer_stack v.cutter v.slabs → S ≡ 2 ^ v.depth
    → u ≡ u_between v.sweep p 0 (2 ^ v.depth) (2 ^ v.depth) → n ≡ n_between v.sweep 0 (2 ^ v.depth) (2 ^ v.depth) → W ≡ whole_width v.sweep p (2 ^ v.depth)
    → (is_sure_in v p ≡ true → is_possible_in v p ≡ true) → IsRising (outer_stack v.cutter v.slabs) → IsPeak square u → IsLeast least n → IsOutside outer S square least n W j → IsClearOf v p
outside_by v p S j outer u n W square least eo es eu en ew both rising peak floor out =
    let k = 2 ^ v.depth in let slabs = outer_stack v.cutter v.slabs in let N = n_between v.sweep 0 k k in
    let o1 = subst (λ (l : List SlabSize). IsOutside l S square least n W j) eo out in
    let o2 = subst (λ (z : ℕ). IsOutside slabs z square least n W j) es o1 in
    let o3 = subst (λ (z : List ℤ). IsOutside slabs k square least z W j) en o2 in
    outside_is_clear v p square least j both rising (subst (IsPeak square) eu peak) (subst (IsLeast least) en floor) (subst (λ (z : List ℤ). IsOutside slabs k square least N z j) ew o3)

-- and it is below the slab that begins higher throughout, as a search by its width requires
pub below_from : (v : MoveOf) (p : List ℤ) (S j : ℕ) (outer : List SlabSize) (u n : List ℤ) (square least : ℤ) → outer ≡ outer_stack v.cutter v.slabs → S ≡ 2 ^ v.depth
    → u ≡ u_between v.sweep p 0 (2 ^ v.depth) (2 ^ v.depth) → n ≡ n_between v.sweep 0 (2 ^ v.depth) (2 ^ v.depth) → IsPeak square u → IsLeast least n → j ≤ length outer
    → (j < length outer → is_under S square least (nth outer j) ≡ true) → IsBelowFrom (outer_stack v.cutter v.slabs) v.sweep p (2 ^ v.depth) j
below_from v p S j outer u n square least eo es eu en peak floor within under =
    let k = 2 ^ v.depth in let U = u_between v.sweep p 0 k k in let N = n_between v.sweep 0 k k in
    subst (λ (l : List SlabSize). IsBelowFrom l v.sweep p k j) eo record {
      within = within;
      below = λ l.
          let s = nth outer j in let f = scaled_square k s.lo in
          let less = (decides_lt square (f *ℤ least)).0 (ap (λ z. is_under z square least s) (sym es) ∙ under l) in
          ap (λ c. all_negative (difference4 (product22 U U) c)) (raised_is f N)
          ∙ (decides_negative (height_less f U N)).1
          (under_slab f U N square least (square_not_negative (pos k *ℤ s.lo)) (subst (IsPeak square) eu peak) (subst (IsLeast least) en floor) less);
    }

-- the slab that is tested is the one before the number
pub asked_slab : (outer : List SlabSize) (j i : ℕ) (x : SlabSize) → j ≡ suc i → j ≤ length outer → x ≡ get_or outer (j - 1) x → (i < length outer) × (nth outer i ≡ x)
asked_slab outer j i x e l is =
    let within : i < length outer = omega (arith, e, l) in let same : j - 1 ≡ i = omega (arith, e) in
    (within, get_or_default outer i no_slab x within ∙ sym (is ∙ ap (λ k. get_or outer k x) same))
