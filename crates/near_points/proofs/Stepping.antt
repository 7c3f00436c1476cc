-- From a point of a ray to the next, or to the one before: a number of its axis offset in a machine word, and whether the point is amid.
use Rattle.std.proofs.Common.{◌≡◌, Bool, ◌&&◌, ℕ, ◌+◌, ◌-◌, ◌*◌, ◌^◌, ◌<◌, ◌≤◌, ℤ, pos, ◌+ℤ◌, ◌-ℤ◌, ◌*ℤ◌, FitsSigned, to_z, of_z, int_le, unsigned_abs, arith, ap, ap₂, refl, subst, sym, [], ◌∷◌, ◌∙◌}
use Rattle.std.proofs.lemmas.Int.{to_z-of_z, fits_signed_from_abs}
use mir.Syntax.{w64}
use Rattle.space.proofs.Naturals.{abs_sub}
use Rattle.space.proofs.Solver.{var, num, add, mul, ring}
use Rattle.space.proofs.Terms.{sub}
use Rattle.near_points.specs.declared.axis_offset.AxisOffset.{AxisOffset}
use Rattle.near_points.specs.declared.cylinder_test.CylinderTest.{CylinderTest}
use Rattle.near_points.specs.declared.ray_step.RayStep.{RayStep}
use Rattle.near_points.specs.Limits.{moment_limit, tilt_limit}
use Rattle.near_points.specs.Lines.{FitsAfter, height_at, is_amid_after, side_at}
use Rattle.near_points.proofs.Bits.{small_fits, sum_fits}
use Rattle.near_points.proofs.Growing.{index_before, next_index}

-- x is a number at the point l, to which a step adds b
pub record StepsOn (x a b : ℤ) (l : ℕ) : Type 0 where
  pub fits : FitsSigned w64 (x +ℤ to_z w64 (of_z w64 b))
  pub value : to_z w64 (of_z w64 (x +ℤ to_z w64 (of_z w64 b))) ≡ a +ℤ pos (l + 1) *ℤ b

pub record StepsBack (x a b : ℤ) (l : ℕ) : Type 0 where
  pub fits : FitsSigned w64 (x -ℤ to_z w64 (of_z w64 b))
  pub value : to_z w64 (of_z w64 (x -ℤ to_z w64 (of_z w64 b))) ≡ a +ℤ pos (l - 1) *ℤ b

on_one : (a b l : ℤ) → (a +ℤ l *ℤ b) +ℤ b ≡ a +ℤ (l +ℤ pos 1) *ℤ b
on_one a b l =
    let A = var 0 in let B = var 1 in let L = var 2 in
    ring (a ∷ b ∷ l ∷ []) (add (add A (mul L B)) B) (add A (mul (add L (num (pos 1))) B)) refl

back_one : (a b l : ℤ) → (a +ℤ l *ℤ b) -ℤ b ≡ a +ℤ (l -ℤ pos 1) *ℤ b
back_one a b l =
    let A = var 0 in let B = var 1 in let L = var 2 in
    ring (a ∷ b ∷ l ∷ []) (sub (add A (mul L B)) B) (add A (mul (sub L (num (pos 1))) B)) refl

difference_fits : (m : ℕ) (x b : ℤ) → 2 * m < 2 ^ 63 → unsigned_abs x ≤ m → unsigned_abs b ≤ m → FitsSigned w64 (x -ℤ b)
difference_fits m x b few h k = let s = abs_sub x b in fits_signed_from_abs w64 (x -ℤ b) (omega (arith, few, s, h, k))

steps_on : (m : ℕ) (x a b : ℤ) (l : ℕ) → 2 * m < 2 ^ 63 → unsigned_abs b ≤ m → unsigned_abs (a +ℤ pos l *ℤ b) ≤ m
    → x ≡ a +ℤ pos l *ℤ b → StepsOn x a b l
steps_on m x a b l few hb h at =
    let less : m < 2 ^ 63 = omega (arith, few) in
    let is = ap₂ (λ p q. p +ℤ q) at (to_z-of_z w64 b (small_fits m b less hb)) in
    let fits = subst (FitsSigned w64) (sym is) (sum_fits m (a +ℤ pos l *ℤ b) b few h hb) in
    record { fits = fits; value = to_z-of_z w64 _ fits ∙ is ∙ on_one a b (pos l) ∙ ap (λ k. a +ℤ k *ℤ b) (next_index l) }

steps_back : (m : ℕ) (x a b : ℤ) (l : ℕ) → 2 * m < 2 ^ 63 → unsigned_abs b ≤ m → unsigned_abs (a +ℤ pos l *ℤ b) ≤ m
    → x ≡ a +ℤ pos l *ℤ b → 0 < l → StepsBack x a b l
steps_back m x a b l few hb h at some =
    let less : m < 2 ^ 63 = omega (arith, few) in
    let is = ap₂ (λ p q. p -ℤ q) at (to_z-of_z w64 b (small_fits m b less hb)) in
    let fits = subst (FitsSigned w64) (sym is) (difference_fits m (a +ℤ pos l *ℤ b) b few h hb) in
    record { fits = fits; value = to_z-of_z w64 _ fits ∙ is ∙ back_one a b (pos l) ∙ ap (λ k. a +ℤ k *ℤ b) (index_before l some) }

pub height_on : (s : AxisOffset) (t : RayStep) (x : ℤ) (l : ℕ) → FitsAfter s t (pos l) → x ≡ height_at s t (pos l) → StepsOn x s.height t.height l
height_on s t x l fits = steps_on moment_limit x s.height t.height l (omega arith) t.height_small fits.height

pub side_on : (s : AxisOffset) (t : RayStep) (x : ℤ) (l : ℕ) → FitsAfter s t (pos l) → x ≡ side_at s t (pos l) → StepsOn x s.side t.side l
side_on s t x l fits = steps_on tilt_limit x s.side t.side l (omega arith) t.side_small fits.side

pub height_back : (s : AxisOffset) (t : RayStep) (x : ℤ) (l : ℕ) → FitsAfter s t (pos l) → x ≡ height_at s t (pos l) → 0 < l
    → StepsBack x s.height t.height l
height_back s t x l fits = steps_back moment_limit x s.height t.height l (omega arith) t.height_small fits.height

pub side_back : (s : AxisOffset) (t : RayStep) (x : ℤ) (l : ℕ) → FitsAfter s t (pos l) → x ≡ side_at s t (pos l) → 0 < l
    → StepsBack x s.side t.side l
side_back s t x l fits = steps_back tilt_limit x s.side t.side l (omega arith) t.side_small fits.side

-- what the code finds of a height and a side is true of the point that has them
pub amid_by : (test : CylinderTest) (s : AxisOffset) (t : RayStep) (l y z : ℤ) (r : Bool)
    → r ≡ ((int_le test.least y && int_le y test.most) && (int_le (pos 0 -ℤ test.across) z && int_le z test.across))
    → y ≡ height_at s t l → z ≡ side_at s t l → r ≡ is_amid_after test s t l
amid_by test s t l y z r found ey ez =
    found ∙ ap₂ (λ p q. (int_le test.least p && int_le p test.most) && (int_le (pos 0 -ℤ test.across) q && int_le q test.across)) ey ez
