-- Which points of a ray the bands of a cylinder leave out.
use Rattle.std.specs.Prelude.{◌≡◌, ℤ, pos, ◌-ℤ◌, ◌*ℤ◌, ◌<ℤ◌, ◌&&◌, ◌⊎◌, Bool, false, int_le, Contains, List}
use Rattle.sweep_boxes.specs.declared.band.Band.{Band}
use Rattle.near_points.specs.declared.axis_offset.AxisOffset.{AxisOffset}
use Rattle.near_points.specs.declared.cylinder_test.CylinderTest.{CylinderTest}
use Rattle.near_points.specs.declared.ray_step.RayStep.{RayStep}
use Rattle.near_points.specs.Lines.{height_at, side_at, width_at}

-- a moment with this square is not too long for the band, and with this much of it along the side not too far to either side
abbrev pub is_within : Band → ℤ → ℤ → Bool
is_within band side width =
    int_le width (band.moment *ℤ band.moment)
    && (int_le (pos 0 -ℤ band.across) side && int_le side band.across)

-- a point at this height is below that of one of the bands, and for it too far from the axis or to a side
pub record IsOut (bands : List Band) (height side width : ℤ) : Type 0 where
  pub band : Band
  pub one : Contains bands band
  pub below : height <ℤ band.height
  pub beyond : is_within band side width ≡ false

-- the point l steps on
abbrev pub IsLeftOut : List Band → AxisOffset → RayStep → ℤ → Type 0
IsLeftOut bands s t l = IsOut bands (height_at s t l) (side_at s t l) (width_at s t l)

-- the square of the moment is too large, or a band leaves the point out
abbrev pub IsPassed : CylinderTest → List Band → ℤ → ℤ → ℤ → Type 0
IsPassed test bands height side width = (int_le width test.square ≡ false) ⊎ IsOut bands height side width

abbrev pub IsPassedAfter : CylinderTest → List Band → AxisOffset → RayStep → ℤ → Type 0
IsPassedAfter test bands s t l = IsPassed test bands (height_at s t l) (side_at s t l) (width_at s t l)
