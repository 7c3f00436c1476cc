-- The square of a moment is too large at a point, and grows from there.
use Rattle.std.proofs.Common.{◌≡◌, false, ℕ, ◌-◌, ◌≤◌, ℤ, pos, ◌+ℤ◌, ◌*ℤ◌, ◌-ℤ◌, ◌≤ℤ◌, ◌<ℤ◌, arith, refl, ap, ap₂, subst, ◌∙◌}
use Rattle.std.proofs.lemmas.Int.{ints}
use Rattle.near_points.specs.declared.axis_offset.AxisOffset.{AxisOffset}
use Rattle.near_points.specs.declared.cylinder_test.CylinderTest.{CylinderTest}
use Rattle.near_points.specs.declared.ray_step.RayStep.{RayStep}
use Rattle.near_points.specs.Lines.{IsAfter, is_narrow_after, second_at, slope_of, third_at, width_at, width_of}
use Rattle.near_points.proofs.Growing.{back_at, growth_at, grows_on}
use Rattle.near_points.proofs.Told.{above_false}

pub width_after : (r s : AxisOffset) (t : RayStep) (l : ℤ) → IsAfter r s t l → width_of r ≡ width_at s t l
width_after r s t l is =
    ap₂ (λ x y. (x *ℤ x +ℤ y *ℤ y) +ℤ r.third *ℤ r.third) is.along is.second ∙ ap (λ x. (s.along *ℤ s.along +ℤ second_at s t l *ℤ second_at s t l) +ℤ x *ℤ x) is.third

pub slope_after : (r s : AxisOffset) (t : RayStep) (l : ℤ) → IsAfter r s t l → slope_of r t ≡ pos 2 *ℤ (second_at s t l *ℤ t.second +ℤ third_at s t l *ℤ t.third)
slope_after r s t l is = ap₂ (λ x y. pos 2 *ℤ (x *ℤ t.second +ℤ y *ℤ t.third)) is.second is.third

pub growth_after : (r s : AxisOffset) (t : RayStep) (l : ℤ) → IsAfter r s t l → t.curve +ℤ slope_of r t ≡ growth_at s t l
growth_after r s t l is = ap₂ (λ x y. x +ℤ y) t.curve_is (slope_after r s t l is)

pub back_after : (r s : AxisOffset) (t : RayStep) (l : ℤ) → IsAfter r s t l → t.curve -ℤ slope_of r t ≡ back_at s t l
back_after r s t l is = ap₂ (λ x y. x -ℤ y) t.curve_is (slope_after r s t l is)

less_than : (a b c d : ℤ) → a <ℤ b → b ≡ c → c ≤ℤ d → a <ℤ d
less_than a b c d h e k = omega (arith, ints, h, e, k)

pub on_to : (l x : ℕ) → l ≤ x → pos l +ℤ pos (x - l) ≡ pos x
on_to l x h = omega (arith, ints, h)

-- where it is too large at a point and grows there, it is too large at each further one
pub left_on : (test : CylinderTest) (s : AxisOffset) (t : RayStep) (l x : ℕ) → l ≤ x → test.square <ℤ width_at s t (pos l) → pos 0 ≤ℤ growth_at s t (pos l) → is_narrow_after test s t (pos x) ≡ false
left_on test s t l x from far growing =
    above_false (width_at s t (pos x)) test.square
    (less_than test.square (width_at s t (pos l)) (width_at s t (pos l)) (width_at s t (pos x)) far refl
    (subst (λ (z : ℤ). width_at s t (pos l) ≤ℤ width_at s t z) (on_to l x from) (grows_on s t l (x - l) growing)))
