-- The square of a moment in machine words, from a point of a ray to the next or to the one before.
use Rattle.std.proofs.Common.{◌≡◌, ℕ, ◌+◌, ◌-◌, ◌*◌, ◌<◌, ◌≤◌, ℤ, pos, ◌+ℤ◌, ◌-ℤ◌, ◌*ℤ◌, FitsSigned, unsigned_abs, arith, ap, ap₂, refl, subst, sym, ◌∙◌}
use Rattle.std.proofs.lemmas.Int.{to_z-of_z}
use mir.Syntax.{w128}
use Rattle.space.proofs.Naturals.{abs_add, abs_mul, abs_sub}
use Rattle.near_points.specs.declared.axis_offset.AxisOffset.{AxisOffset}
use Rattle.near_points.specs.declared.ray_step.RayStep.{RayStep}
use Rattle.near_points.specs.Limits.{moment_limit}
use Rattle.near_points.specs.Lines.{FitsAfter, IsAfter, width_at, width_of}
use Rattle.near_points.proofs.Bits.{IsReckoned, difference_passed, reckoned, sum_passed, wide_by}
use Rattle.near_points.proofs.Growing.{back_at, back_fits, back_next, growth_at, growth_fits, growth_next, index_before, next_index, width_back, width_fits, width_next}
use Rattle.near_points.proofs.Leaving.{width_after}
use Rattle.near_points.proofs.Pairs.{as_word, pair_limit, slope_limit, width_limit}

abbrev growth_limit : ℕ
growth_limit = 6 * (moment_limit * moment_limit)

-- what the square grows by to the next point and to the one before, of the curve and the slope
pub growth_reckoned : (c s : ℤ) → unsigned_abs c ≤ pair_limit → unsigned_abs s ≤ slope_limit
    → IsReckoned w128 growth_limit (as_word c +ℤ as_word s) (c +ℤ s)
growth_reckoned c s hc hs =
    let sum = abs_add c s in let small : unsigned_abs (c +ℤ s) ≤ growth_limit = omega (arith, sum, hc, hs) in
    let is = sum_passed w128 c s c s refl refl (wide_by pair_limit c (omega arith) hc) (wide_by slope_limit s (omega arith) hs) in
    reckoned w128 growth_limit _ (c +ℤ s) is (wide_by growth_limit _ (omega arith) small) small

pub rise_reckoned : (c s : ℤ) → unsigned_abs c ≤ pair_limit → unsigned_abs s ≤ slope_limit
    → IsReckoned w128 growth_limit (as_word c -ℤ as_word s) (c -ℤ s)
rise_reckoned c s hc hs =
    let sum = abs_sub c s in let small : unsigned_abs (c -ℤ s) ≤ growth_limit = omega (arith, sum, hc, hs) in
    let is = difference_passed w128 c s c s refl refl (wide_by pair_limit c (omega arith) hc) (wide_by slope_limit s (omega arith) hs) in
    reckoned w128 growth_limit _ (c -ℤ s) is (wide_by growth_limit _ (omega arith) small) small

-- and what that changes by
pub bend_reckoned : (c : ℤ) → unsigned_abs c ≤ pair_limit → IsReckoned w128 slope_limit (pos 2 *ℤ as_word c) (pos 2 *ℤ c)
bend_reckoned c hc =
    let twice = abs_mul (pos 2) c 2 pair_limit (omega arith) hc in
    let small : unsigned_abs (pos 2 *ℤ c) ≤ slope_limit = omega (arith, twice) in
    let is = ap (λ z. pos 2 *ℤ z) (to_z-of_z w128 c (wide_by pair_limit c (omega arith) hc)) in
    reckoned w128 slope_limit _ (pos 2 *ℤ c) is (wide_by slope_limit _ (omega arith) small) small

-- the square at the point where a walk begins
pub width_kept : (w : ℤ) → unsigned_abs w ≤ width_limit → as_word w ≡ w
width_kept w h = to_z-of_z w128 w (wide_by width_limit w (omega arith) h)

pub width_begins : (r s : AxisOffset) (t : RayStep) (l w : ℤ) → IsAfter r s t l
    → record { value : w ≡ width_of r; small : unsigned_abs w ≤ width_limit } → as_word w ≡ width_at s t l
width_begins r s t l w is of = width_kept w of.small ∙ of.value ∙ width_after r s t l is

-- a sum that fits, and what it is
pub record AddsUp (x y z : ℤ) : Type 0 where
  pub fits : FitsSigned w128 (x +ℤ y)
  pub value : as_word (x +ℤ y) ≡ z

adds_up : (m n : ℕ) (x y a b z : ℤ) → m + n ≤ 10 * (moment_limit * moment_limit) → unsigned_abs a ≤ m → unsigned_abs b ≤ n → x ≡ a → y ≡ b
    → a +ℤ b ≡ z → AddsUp x y z
adds_up m n x y a b z few ha hb ex ey e =
    let sum = abs_add a b in let small : unsigned_abs (a +ℤ b) ≤ 10 * (moment_limit * moment_limit) = omega (arith, few, ha, hb, sum) in
    let is = ap₂ (λ p q. p +ℤ q) ex ey in
    let fits = subst (FitsSigned w128) (sym is) (wide_by (10 * (moment_limit * moment_limit)) (a +ℤ b) (omega arith) small) in
    record { fits = fits; value = to_z-of_z w128 (x +ℤ y) fits ∙ is ∙ e }

bend_is : (t : RayStep) → as_word (pos 2 *ℤ as_word t.curve) ≡ pos 2 *ℤ (t.second *ℤ t.second +ℤ t.third *ℤ t.third)
bend_is t = (bend_reckoned t.curve t.curve_small).value ∙ ap (λ z. pos 2 *ℤ z) t.curve_is

bend_small : (t : RayStep) → unsigned_abs (pos 2 *ℤ (t.second *ℤ t.second +ℤ t.third *ℤ t.third)) ≤ slope_limit
bend_small t = subst (λ (z : ℤ). unsigned_abs z ≤ slope_limit) (bend_is t) (bend_reckoned t.curve t.curve_small).small

-- from the point l to the next
pub width_on : (s : AxisOffset) (t : RayStep) (w g : ℤ) (l : ℕ) → FitsAfter s t (pos l) → w ≡ width_at s t (pos l) → g ≡ growth_at s t (pos l)
    → AddsUp w g (width_at s t (pos (l + 1)))
width_on s t w g l fits ew eg =
    adds_up width_limit growth_limit w g _ _ _ (omega arith) (width_fits s t (pos l) fits) (growth_fits s t (pos l) fits) ew eg
    (width_next s t (pos l) ∙ ap (width_at s t) (next_index l))

pub growth_on : (s : AxisOffset) (t : RayStep) (g : ℤ) (l : ℕ) → FitsAfter s t (pos l) → g ≡ growth_at s t (pos l)
    → AddsUp g (as_word (pos 2 *ℤ as_word t.curve)) (growth_at s t (pos (l + 1)))
growth_on s t g l fits eg =
    adds_up growth_limit slope_limit g _ _ _ _ (omega arith) (growth_fits s t (pos l) fits) (bend_small t) eg (bend_is t)
    (growth_next s t (pos l) ∙ ap (growth_at s t) (next_index l))

-- and to the one before
pub width_off : (s : AxisOffset) (t : RayStep) (w g : ℤ) (l : ℕ) → FitsAfter s t (pos l) → w ≡ width_at s t (pos l) → g ≡ back_at s t (pos l)
    → 0 < l → AddsUp w g (width_at s t (pos (l - 1)))
width_off s t w g l fits ew eg some =
    adds_up width_limit growth_limit w g _ _ _ (omega arith) (width_fits s t (pos l) fits) (back_fits s t (pos l) fits) ew eg
    (width_back s t (pos l) ∙ ap (width_at s t) (index_before l some))

pub rise_off : (s : AxisOffset) (t : RayStep) (g : ℤ) (l : ℕ) → FitsAfter s t (pos l) → g ≡ back_at s t (pos l) → 0 < l
    → AddsUp g (as_word (pos 2 *ℤ as_word t.curve)) (back_at s t (pos (l - 1)))
rise_off s t g l fits eg some =
    adds_up growth_limit slope_limit g _ _ _ _ (omega arith) (back_fits s t (pos l) fits) (bend_small t) eg (bend_is t)
    (back_next s t (pos l) ∙ ap (back_at s t) (index_before l some))
