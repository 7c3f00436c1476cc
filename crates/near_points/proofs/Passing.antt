-- Points whose moment is too long, or that a band leaves out.
use Rattle.std.proofs.Common.{◌≡◌, ◌⊎◌, inl, inr, ⊎_elim, false, ℕ, ◌≤◌, ℤ, pos, ◌≤ℤ◌, ◌<ℤ◌, List, subst}
use Rattle.sweep_boxes.specs.declared.band.Band.{Band}
use Rattle.near_points.specs.declared.axis_offset.AxisOffset.{AxisOffset}
use Rattle.near_points.specs.declared.cylinder_test.CylinderTest.{CylinderTest}
use Rattle.near_points.specs.declared.ray_step.RayStep.{RayStep}
use Rattle.near_points.specs.Lines.{height_at, is_held_after, is_narrow_after, side_at, width_at}
use Rattle.near_points.specs.Trimmed.{IsLeftOut, IsOut, IsPassed, IsPassedAfter}
use Rattle.near_points.proofs.Growing.{growth_at}
use Rattle.near_points.proofs.Leaving.{left_on}
use Rattle.near_points.proofs.Told.{unheld_wide}

-- what leaves out a point with some numbers leaves out one with equal numbers
pub out_by : (bands : List Band) (y z w height side width : ℤ) → y ≡ height → z ≡ side → w ≡ width → IsOut bands y z w
    → IsOut bands height side width
out_by bands y z w height side width ey ez ew h =
    subst (λ (v : ℤ). IsOut bands height side v) ew
    (subst (λ (v : ℤ). IsOut bands height v w) ez (subst (λ (v : ℤ). IsOut bands v z w) ey h))

-- what the code finds of a point's numbers is true of the point that has them
pub passed_by : (test : CylinderTest) (bands : List Band) (s : AxisOffset) (t : RayStep) (l y z w : ℤ) → y ≡ height_at s t l → z ≡ side_at s t l
    → w ≡ width_at s t l → IsPassed test bands y z w → IsPassedAfter test bands s t l
passed_by test bands s t l y z w ey ez ew h =
    subst (λ (v : ℤ). IsPassed test bands (height_at s t l) (side_at s t l) v) ew
    (subst (λ (v : ℤ). IsPassed test bands (height_at s t l) v w) ez (subst (λ (v : ℤ). IsPassed test bands v z w) ey h))

pub passed_on : (test : CylinderTest) (bands : List Band) (s : AxisOffset) (t : RayStep) (l x : ℕ) → l ≤ x → test.square <ℤ width_at s t (pos l)
    → pos 0 ≤ℤ growth_at s t (pos l) → IsPassedAfter test bands s t (pos x)
passed_on test bands s t l x from far growing = inl (left_on test s t l x from far growing)

-- none of them is held at each band
pub unheld_or_out : (test : CylinderTest) (bands : List Band) (s : AxisOffset) (t : RayStep) (l : ℤ) → IsPassedAfter test bands s t l
    → (is_held_after test s t l ≡ false) ⊎ IsLeftOut bands s t l
unheld_or_out test bands s t l =
    ⊎_elim (λ (wide : is_narrow_after test s t l ≡ false). inl (unheld_wide test s t l wide)) (λ (out : IsLeftOut bands s t l). inr out)
