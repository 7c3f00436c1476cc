-- Numbers along a line that fit their types.
use Rattle.std.proofs.Common.{◌≡◌, ℕ, zero, suc, ◌+◌, ◌*◌, ◌≤◌, ◌<◌, List, ℤ, pos, ◌*ℤ◌, ◌-ℤ◌, unsigned_abs, arith, subst, refl}
use Rattle.std.specs.List.{All}
use Rattle.space.specs.Ranges.{IsPoint, IsWithin, axis_unit}
use Rattle.space.specs.Vectors.{at}
use Rattle.space.proofs.Naturals.{abs_mul, abs_sub}
use Rattle.bern_form.specs.Forms.{IsSmall, difference4, product22, scaled4}
use Rattle.bern_form.specs.Sizes.{IsBounded2, IsBounded4, axis_limit, offset_limit, scale_limit}
use Rattle.bern_form.proofs.Sizes.{difference4_bounded, product22_bounded, scaled4_bounded}
use Rattle.axis_cells.proofs.Bounds.{list4}
use Rattle.wanted_marks.specs.Ways.{scaled_vector, scaled_way}
use Rattle.wanted_marks.specs.Widths.{quadratic, quadratics, spread_form}

way_part : (scale : ℕ) (p t : ℤ) → scale ≤ scale_limit → unsigned_abs p ≤ 1000000 → unsigned_abs t ≤ 1000000 → unsigned_abs (pos scale *ℤ p -ℤ pos scale *ℤ t) ≤ offset_limit
way_part scale p t few h k =
    let a = abs_mul (pos scale) p scale 1000000 (omega arith) h in let b = abs_mul (pos scale) t scale 1000000 (omega arith) k in
    let whole = abs_sub (pos scale *ℤ p) (pos scale *ℤ t) in omega (arith, few)

pub way_small : (scale : ℕ) (f t : List ℤ) → scale ≤ scale_limit → IsPoint f → IsPoint t → IsWithin offset_limit (scaled_way (pos scale) f t)
way_small scale f t few h k =
    (way_part scale (at t 0) (at f 0) few k.0 h.0, way_part scale (at t 1) (at f 1) few k.1 h.1, way_part scale (at t 2) (at f 2) few k.2 h.2)

axis_part : (scale : ℕ) (a : ℤ) → scale ≤ scale_limit → unsigned_abs a ≤ 100000 → unsigned_abs (pos scale *ℤ a) ≤ axis_limit
axis_part scale a few h = let x = abs_mul (pos scale) a scale 100000 (omega arith) h in omega (arith, few)

pub vector_small : (scale : ℕ) (a : List ℤ) → scale ≤ scale_limit → IsWithin axis_unit a → IsWithin axis_limit (scaled_vector (pos scale) a)
vector_small scale a few h = (axis_part scale (at a 0) few h.0, axis_part scale (at a 1) few h.1, axis_part scale (at a 2) few h.2)

-- a multiple of d n - u v
pub record SpreadFits (by : ℤ) (d n u v : List ℤ) : Type 0 where
  pub first : All IsSmall (product22 d n)
  pub second : All IsSmall (product22 u v)
  pub between : All IsSmall (difference4 (product22 d n) (product22 u v))
  pub whole : All IsSmall (spread_form by d n u v)

pub spread_fits : (by : ℤ) (d n u v : List ℤ) → IsBounded2 (3 * (offset_limit * offset_limit)) d → IsBounded2 (3 * (axis_limit * axis_limit)) n
    → IsBounded2 (3 * (offset_limit * axis_limit)) u → IsBounded2 (3 * (offset_limit * axis_limit)) v → unsigned_abs by ≤ 8 → SpreadFits by d n u v
spread_fits by d n u v hd hn hu hv few =
    let m = 54 * (offset_limit * axis_limit) * (offset_limit * axis_limit) in
    let e1 : 6 * (3 * (offset_limit * axis_limit) * (3 * (offset_limit * axis_limit))) ≡ m = omega arith in
    let e2 : 6 * (3 * (offset_limit * offset_limit) * (3 * (axis_limit * axis_limit))) ≡ m = omega arith in
    let one = subst (λ k. IsBounded4 k (product22 d n)) e2 (product22_bounded d n (3 * (offset_limit * offset_limit)) (3 * (axis_limit * axis_limit)) hd hn) in
    let two = subst (λ k. IsBounded4 k (product22 u v)) e1 (product22_bounded u v (3 * (offset_limit * axis_limit)) (3 * (offset_limit * axis_limit)) hu hv) in
    let spread = difference4_bounded (product22 d n) (product22 u v) m m one two in
    let whole = scaled4_bounded by (difference4 (product22 d n) (product22 u v)) 8 (m + m) few spread in record {
      first = list4 (product22 d n) m (omega arith) one;
      second = list4 (product22 u v) m (omega arith) two;
      between = list4 (difference4 (product22 d n) (product22 u v)) (m + m) (omega arith) spread;
      whole = list4 (spread_form by d n u v) (8 * (m + m)) (omega arith) whole;
    }

-- a coefficient of the list of quadratics
pub at_quadratics : (a b c : List ℤ) (l : ℤ) (k : ℕ) → k < 5 → at (quadratics a b c l) k ≡ quadratic (at a k) (at b k) (at c k) l
at_quadratics a b c l zero h = refl
at_quadratics a b c l (suc zero) h = refl
at_quadratics a b c l (suc (suc zero)) h = refl
at_quadratics a b c l (suc (suc (suc zero))) h = refl
at_quadratics a b c l (suc (suc (suc (suc zero)))) h = refl
at_quadratics a b c l (suc (suc (suc (suc (suc k))))) h = absurd (omega arith)

pub small_at : (a b c : List ℤ) (l : ℤ) (k : ℕ) → k < 5 → All IsSmall (quadratics a b c l) → IsSmall (quadratic (at a k) (at b k) (at c k) l)
small_at a b c l k h small = subst IsSmall (at_quadratics a b c l k h) (small k (pos 0) h)

-- a coefficient of a multiple
pub at_scaled4 : (s : ℤ) (a : List ℤ) (k : ℕ) → k < 5 → at (scaled4 s a) k ≡ s *ℤ at a k
at_scaled4 s a zero h = refl
at_scaled4 s a (suc zero) h = refl
at_scaled4 s a (suc (suc zero)) h = refl
at_scaled4 s a (suc (suc (suc zero))) h = refl
at_scaled4 s a (suc (suc (suc (suc zero)))) h = refl
at_scaled4 s a (suc (suc (suc (suc (suc k))))) h = absurd (omega arith)
