-- The tests of slabs at a sample and between two go up a rising stack.
use Rattle.std.proofs.Common.{List, ◌≡◌, Bool, true, false, ◌&&◌, ℕ, zero, suc, ◌*◌, ◌≤◌, ℤ, pos, negsuc, ◌*ℤ◌, ◌<ℤ◌, ◌≤ℤ◌, int_le, arith, refl, subst, sym, [], ◌∷◌, ◌∙◌}
use Rattle.std.proofs.Math.Nat.{mul-le-mul, mul-le-mul_left, mul-le-mul_right}
use Rattle.std.proofs.lemmas.Int.{ints}
use Rattle.std.proofs.lemmas.List.Folds.{list_any_none}
use Rattle.space.proofs.Naturals.{square_not_negative}
use Rattle.space.proofs.Solver.{mul, num, ring, var}
use Rattle.space.proofs.Tests.{decides_le}
use Rattle.bern_form.specs.Slab.{IsSlab, SlabSize, covers}
use Rattle.bern_form.proofs.Decided.{decides_covers}
use Rattle.bern_form.proofs.Relations.{Covers}
use Rattle.cutter_slabs.specs.Rising.{LiesOn}
use Rattle.box_bisect.specs.SlabTests.{is_reached, some_covers}
use Rattle.box_bisect.proofs.Deciding.{GoesUp}

-- the square of a length that is taken S times, times n
abbrev times : ℕ → ℤ → ℤ → ℤ
times S z n = ((pos S *ℤ z) *ℤ (pos S *ℤ z)) *ℤ n

-- it rises with the length where n is not below 0
naturals_rise : (S x y n : ℕ) → x ≤ y → ((S * x) * (S * x)) * n ≤ ((S * y) * (S * y)) * n
naturals_rise S x y n h = let k = mul-le-mul_left S h in mul-le-mul_right n (mul-le-mul k k)

times_rises : (S : ℕ) (x y : ℤ) (n : ℕ) → pos 0 ≤ℤ x → x ≤ℤ y → times S x (pos n) ≤ℤ times S y (pos n)
times_rises S (pos x) (pos y) n h k = let e = naturals_rise S x y n (omega (arith, ints, k)) in omega (arith, ints, e)
times_rises S (pos x) (negsuc y) n h k = absurd (omega (arith, ints, k))
times_rises S (negsuc x) y n h k = absurd (omega (arith, ints, h))

-- it is not above 0 where n is below 0
negative : (q : ℤ) (n : ℕ) → pos 0 ≤ℤ q → (q *ℤ negsuc n) ≤ℤ pos 0
negative (pos m) n h = omega (arith, ints)
negative (negsuc m) n h = absurd (omega (arith, ints, h))

times_negative : (S : ℕ) (z : ℤ) (n : ℕ) → times S z (negsuc n) ≤ℤ pos 0
times_negative S z n = negative ((pos S *ℤ z) *ℤ (pos S *ℤ z)) n (square_not_negative (pos S *ℤ z))

-- and 0 only where S is, for a length above 0
no_scale : (S n : ℕ) (z : ℤ) → pos 0 <ℤ z → pos 0 ≤ℤ times S z (negsuc n) → S ≡ 0
no_scale zero n z h k = refl
no_scale (suc S) n (pos zero) h k = absurd (omega (arith, ints, h))
no_scale (suc S) n (pos (suc x)) h k = absurd (omega (arith, ints, k))
no_scale (suc S) n (negsuc x) h k = absurd (omega (arith, ints, h))

not_second : (a b c d : Bool) → b ≡ false → (a && (b && (c && d))) ≡ false
not_second true b c d e = cc
not_second false b c d e = refl

reached_lower : (S : ℕ) (x y n v : ℤ) → pos 0 ≤ℤ x → x ≤ℤ y → pos 0 ≤ℤ v → times S y n ≤ℤ v → times S x n ≤ℤ v
reached_lower S x y (pos n) v h k some l = let e = times_rises S x y n h k in omega (arith, ints, e, l)
reached_lower S x y (negsuc n) v h k some l = let e = times_negative S x n in omega (arith, ints, e, some)

-- at a scale of 0 all lengths are alike
nothing : (z n : ℤ) → times 0 z n ≡ pos 0
nothing z n =
    let O = num (pos 0) in let Z = var 0 in
    ring (z ∷ n ∷ []) (mul (mul (mul O Z) (mul O Z)) (var 1)) O refl

alike : (S : ℕ) (x y n v : ℤ) → S ≡ 0 → v ≤ℤ times S x n → v ≤ℤ times S y n
alike zero x y n v e h = subst (λ z. v ≤ℤ z) (nothing x n ∙ sym (nothing y n)) h
alike (suc S) x y n v e h = absurd (omega (arith, e))

covers_up : (s t : SlabSize) → IsSlab s → IsSlab t → LiesOn t s → (S : ℕ) (u n w : ℤ) → times S t.lo n ≤ℤ (u *ℤ u) → Covers s (pos S) u n w → Covers t (pos S) u n w
covers_up s t vs vt on S u (pos n) w r c =
    let heights = times_rises S s.hi t.hi n (omega (arith, ints)) (omega (arith, ints)) in
    let widths = times_rises S s.dia t.dia n vs.thick on.wider in
    let below = c.below in let near = c.near in
    record { forward = c.forward; above = r; below = omega (arith, ints, heights, below); near = omega (arith, ints, widths, near) }
covers_up s t vs vt on S u (negsuc n) w r c =
    let square = square_not_negative u in let below = c.below in
    let none = no_scale S n s.hi (omega (arith, ints)) (omega (arith, ints, square, below)) in
    record { forward = c.forward; above = r; below = alike S s.hi t.hi (negsuc n) (u *ℤ u) none c.below; near = alike S s.dia t.dia (negsuc n) (pos 4 *ℤ w) none c.near }

pub sample_goes_up : (S : ℕ) (u n w : ℤ) → GoesUp (λ s. covers s (pos S) u n w) (is_reached (pos S) u n)
sample_goes_up S u n w = record {
  needed = λ s out. not_second (int_le (pos 0) u) (is_reached (pos S) u n s) (int_le (u *ℤ u) (times S s.hi n)) (int_le (pos 4 *ℤ w) (times S s.dia n)) out;
  lower = λ s t vs vt on met.
      (decides_le (times S s.lo n) (u *ℤ u)).1
      (reached_lower S s.lo t.lo n (u *ℤ u) vs.above_tip (omega (arith, ints)) (square_not_negative u) ((decides_le (times S t.lo n) (u *ℤ u)).0 met));
  carried = λ s t vs vt on met is.
      (decides_covers t (pos S) u n w).1 (covers_up s t vs vt on S u n w ((decides_le (times S t.lo n) (u *ℤ u)).0 met) ((decides_covers s (pos S) u n w).0 is));
}

-- behind the tip no slab holds the point
pub none_behind : (S : ℕ) (u n w : ℤ) (slabs : List SlabSize) → u <ℤ pos 0 → some_covers (pos S) u n w slabs ≡ false
none_behind S (negsuc u) n w slabs h = list_any_none (λ s. covers s (pos S) (negsuc u) n w) slabs (λ k d l. refl)
none_behind S (pos u) n w slabs h = absurd (omega (arith, ints, h))
