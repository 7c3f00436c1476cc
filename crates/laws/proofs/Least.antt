-- Fewer lengths than the length of the normal rounded up are too few: some point that near is left out.
use Rattle.std.proofs.Common.{◌≡◌, ℕ, zero, suc, ◌+◌, ◌-◌, ◌*◌, ◌≤◌, ◌<◌, List, [], ◌∷◌, ℤ, pos, negsuc, neg_ℤ, ◌+ℤ◌, ◌-ℤ◌, ◌*ℤ◌, ◌≤ℤ◌, unsigned_abs, IsTrue, arith, refl, sym, subst, ap, ◌∙◌, ⊎_elim}
use Rattle.std.proofs.Math.Nat.{mul-le-mul_left}
use Rattle.std.proofs.lemmas.Bool.{cases_lt}
use Rattle.std.proofs.lemmas.Int.{ints}
use Rattle.space.proofs.Naturals.{natural}
use Rattle.space.proofs.Ring.{add_mul_ℤ}
use Rattle.space.proofs.Solver.{mul, ring, var}
use Rattle.space.proofs.Terms.{dots, from, sub}
use Rattle.bern_form.proofs.Roots.{ceil_root-least}
use Rattle.ray_shapes.specs.Planes.{plane_holds, value_at}
use Rattle.ray_shapes.specs.declared.plane.Plane.{Plane}
use Rattle.setup_file.specs.Shift.{normal_length, square_of}
use Rattle.laws.specs.Clearance.{IsClearedBy, squared_distance}
use Rattle.laws.proofs.Lengths.{sum_is}
use Rattle.laws.proofs.Moved.{of_test, test_of}

-- a way of 2 m T normals, no longer than m (T^2 + N), that leads further than m (T^2 + N) s
record Way (N s e : ℕ) : Type 0 where
  times : ℕ
  by : ℕ
  short : times * times * N ≤ by * by
  past : by * s + e < times * N

four_above : (y d : ℕ) → 4 * (y + d) * y ≤ ((y + d) + y) * ((y + d) + y)
four_above y d = omega arith

four_below : (w d : ℕ) → 4 * w * (w + d) ≤ (w + (w + d)) * (w + (w + d))
four_below w d = omega arith

-- 4 w y is at most the square of w + y
four_products : (w y : ℕ) → 4 * w * y ≤ (w + y) * (w + y)
four_products w y =
    ⊎_elim (λ l. let whole : w + (y - w) ≡ y = omega arith in subst (λ z. 4 * w * z ≤ (w + z) * (w + z)) whole (four_below w (y - w)))
    (λ g. let whole : y + (w - y) ≡ w = omega arith in subst (λ z. 4 * z * y ≤ (z + y) * (z + y)) whole (four_above y (w - y)))
    (cases_lt w y)

way_by : (N s e T : ℕ) → (T * T + N) * s + 1 ≤ 2 * T * N → Way N s e
way_by N s e T longer =
    let m = e + 1 in
    let gap = mul-le-mul_left (m * m) (four_products (T * T) N) in
    let times = mul-le-mul_left m longer in
    record {
      times = 2 * T * m;
      by = (T * T + N) * m;
      short = omega arith;
      past = omega arith;
    }

way : (N s e : ℕ) → s * s < N → Way N s e
way N zero e more = way_by N 0 e 1 (omega arith)
way N (suc k) e more =
    let s = suc k in
    let times = mul-le-mul_left s (let q : s * s + 1 ≤ N = omega arith in q) in
    way_by N s e s (omega arith)

-- t normals from the origin
abbrev along : Plane → ℤ → List ℤ
along plane t = (t *ℤ plane.a) ∷ (t *ℤ plane.b) ∷ (t *ℤ plane.c) ∷ []

abbrev squared_normal : Plane → ℤ
squared_normal plane = (plane.a *ℤ plane.a +ℤ plane.b *ℤ plane.b) +ℤ plane.c *ℤ plane.c

value_along : (plane : Plane) (t : ℤ) → value_at plane (along plane t) ≡ t *ℤ squared_normal plane
value_along plane t =
    let N = from 1 in let T = var 0 in
    ring (t ∷ plane.a ∷ plane.b ∷ plane.c ∷ []) (dots N (λ k. mul T (N k))) (mul T (dots N N)) refl

distance_along : (plane : Plane) (t u : ℤ) → squared_distance (along plane t) (along plane u) ≡ ((u -ℤ t) *ℤ (u -ℤ t)) *ℤ squared_normal plane
distance_along plane t u =
    let N = from 2 in let T = var 0 in let U = var 1 in
    ring (t ∷ u ∷ plane.a ∷ plane.b ∷ plane.c ∷ []) (dots (λ k. sub (mul U (N k)) (mul T (N k))) (λ k. sub (mul U (N k)) (mul T (N k)))) (mul (mul (sub U T) (sub U T)) (dots N N)) refl

-- a point as far below the plane as its right side is from 0, or further
low_enough : (d : ℤ) (N : ℕ) → 1 ≤ N → (neg_ℤ (pos (unsigned_abs d)) *ℤ pos N) ≤ℤ d
low_enough (pos zero) N some = omega (arith, ints)
low_enough (pos (suc n)) N some = let k = mul-le-mul_left (suc n) some in omega (arith, ints)
low_enough (negsuc n) N some = let k = mul-le-mul_left (suc n) some in omega (arith, ints)

slack : (x d : ℤ) → x ≤ℤ d → (e : ℕ) × (d ≡ x +ℤ pos e)
slack x d h = let e = natural (d -ℤ x) (let q : pos 0 ≤ℤ (d -ℤ x) = omega (arith, ints) in q) in (e.0, let f = e.1 in omega (arith, ints))

same_way : (t : ℤ) (n : ℕ) → (t +ℤ pos n) -ℤ t ≡ pos n
same_way t n = omega (arith, ints)

squares_times : (t N : ℕ) → (pos t *ℤ pos t) *ℤ pos N ≡ pos (t * t * N)
squares_times t N = omega (arith, ints)

-- the point at the way's end is past the plane that is moved too little
too_far : (x d v : ℤ) (N e t b s : ℕ) → d ≡ x *ℤ pos N +ℤ pos e → v ≡ (x +ℤ pos t) *ℤ pos N → b * s + e < t * N → v ≤ℤ (d +ℤ (pos b *ℤ pos s)) → ⊥
too_far x d v N e t b s right left past held =
    let apart : (x +ℤ pos t) *ℤ pos N ≡ x *ℤ pos N +ℤ pos (t * N) = omega (arith, ints, add_mul_ℤ x (pos t) (pos N)) in
    omega (arith, ints)

too_few : (plane : Plane) (s : ℕ) → s * s < square_of plane.a + square_of plane.b + square_of plane.c → IsClearedBy plane s → ⊥
too_few plane s few cleared =
    let N = square_of plane.a + square_of plane.b + square_of plane.c in
    let length = sum_is plane.a plane.b plane.c in
    let x = neg_ℤ (pos (unsigned_abs plane.d)) in
    let low = value_along plane x ∙ ap (λ z. x *ℤ z) length in
    let under : (x *ℤ pos N) ≤ℤ plane.d = low_enough plane.d N (omega arith) in
    let e = slack (x *ℤ pos N) plane.d under in
    let there = way N s e.0 few in
    let y = x +ℤ pos there.times in
    let p = along plane x in
    let q = along plane y in
    let far : squared_distance p q ≡ pos (there.times * there.times * N) =
    distance_along plane x y ∙ ap (λ z. (z *ℤ z) *ℤ squared_normal plane) (same_way x there.times) ∙ ap (λ z. (pos there.times *ℤ pos there.times) *ℤ z) length ∙ squares_times there.times N in
    let short = there.short in
    let near : squared_distance p q ≤ℤ (pos there.by *ℤ pos there.by) = omega (arith, ints) in
    let holds : IsTrue (plane_holds plane p) = test_of (value_at plane p) plane.d (subst (λ z. z ≤ℤ plane.d) (sym low) under) in
    let after = of_test (value_at plane q) (plane.d +ℤ (pos there.by *ℤ pos s)) (cleared (pos there.by) p q (omega (arith, ints)) holds near) in
    too_far x plane.d (value_at plane q) N e.0 there.times there.by s e.1 (value_along plane y ∙ ap (λ z. y *ℤ z) length) there.past after

pub length_least : (plane : Plane) (s : ℕ) → IsClearedBy plane s → normal_length plane ≤ s
length_least plane s cleared =
    let N = square_of plane.a + square_of plane.b + square_of plane.c in
    ⊎_elim (λ few. absurd (too_few plane s few cleared)) (λ enough. ceil_root-least N s enough) (cases_lt (s * s) N)
