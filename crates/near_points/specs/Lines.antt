-- The axis offsets of the points of a ray, by that of its first point and by what a step adds, at the point l steps on.
use Rattle.std.specs.Prelude.{◌≡◌, ◌≤◌, ℤ, pos, ◌+ℤ◌, ◌-ℤ◌, ◌*ℤ◌, ◌<ℤ◌, ◌≤ℤ◌, ◌⊎◌, ◌&&◌, Bool, int_le, unsigned_abs}
use Rattle.near_points.specs.declared.axis_offset.AxisOffset.{AxisOffset}
use Rattle.near_points.specs.declared.cylinder_test.CylinderTest.{CylinderTest}
use Rattle.near_points.specs.declared.ray_step.RayStep.{RayStep}
use Rattle.near_points.specs.Limits.{moment_limit, tilt_limit}

abbrev pub second_at : AxisOffset → RayStep → ℤ → ℤ
second_at s t l = s.second +ℤ l *ℤ t.second

abbrev pub third_at : AxisOffset → RayStep → ℤ → ℤ
third_at s t l = s.third +ℤ l *ℤ t.third

abbrev pub height_at : AxisOffset → RayStep → ℤ → ℤ
height_at s t l = s.height +ℤ l *ℤ t.height

-- what of the moment is along the side
abbrev pub side_at : AxisOffset → RayStep → ℤ → ℤ
side_at s t l = s.side +ℤ l *ℤ t.side

-- the square of the moment
abbrev pub width_at : AxisOffset → RayStep → ℤ → ℤ
width_at s t l = (s.along *ℤ s.along +ℤ second_at s t l *ℤ second_at s t l) +ℤ third_at s t l *ℤ third_at s t l

-- the axis offset r is that of the point l steps on
pub record IsAfter (r s : AxisOffset) (t : RayStep) (l : ℤ) : Type 0 where
  pub along : r.along ≡ s.along
  pub second : r.second ≡ second_at s t l
  pub third : r.third ≡ third_at s t l
  pub side : r.side ≡ side_at s t l
  pub height : r.height ≡ height_at s t l

-- its numbers fit
pub record FitsAfter (s : AxisOffset) (t : RayStep) (l : ℤ) : Type 0 where
  pub second : unsigned_abs (second_at s t l) ≤ moment_limit
  pub third : unsigned_abs (third_at s t l) ≤ moment_limit
  pub side : unsigned_abs (side_at s t l) ≤ tilt_limit
  pub height : unsigned_abs (height_at s t l) ≤ moment_limit

-- the square of its moment is at most that of the cylinder
abbrev pub is_narrow_after : CylinderTest → AxisOffset → RayStep → ℤ → Bool
is_narrow_after test s t l = int_le (width_at s t l) test.square

-- its height is from the least to the most
abbrev pub is_high_after : CylinderTest → AxisOffset → RayStep → ℤ → Bool
is_high_after test s t l = int_le test.least (height_at s t l) && int_le (height_at s t l) test.most

-- it is not too far to either side
abbrev pub is_beside_after : CylinderTest → AxisOffset → RayStep → ℤ → Bool
is_beside_after test s t l = int_le (pos 0 -ℤ test.across) (side_at s t l) && int_le (side_at s t l) test.across

-- neither too low nor too high nor too far to either side
abbrev pub is_amid_after : CylinderTest → AxisOffset → RayStep → ℤ → Bool
is_amid_after test s t l = is_high_after test s t l && is_beside_after test s t l

-- the point is held: all of it
abbrev pub is_held_after : CylinderTest → AxisOffset → RayStep → ℤ → Bool
is_held_after test s t l = is_narrow_after test s t l && is_amid_after test s t l

-- two numbers are beyond the same end
abbrev pub AreBeyond : ℤ → ℤ → ℤ → ℤ → Type 0
AreBeyond least most a b = ((a <ℤ least) × (b <ℤ least)) ⊎ ((most <ℤ a) × (most <ℤ b))

-- of one axis offset: the square of its moment, and the slope of that for a step
abbrev pub width_of : AxisOffset → ℤ
width_of s = (s.along *ℤ s.along +ℤ s.second *ℤ s.second) +ℤ s.third *ℤ s.third

abbrev pub slope_of : AxisOffset → RayStep → ℤ
slope_of s t = pos 2 *ℤ (s.second *ℤ t.second +ℤ s.third *ℤ t.third)

-- the axis offset r is the axis offset s and n times the axis offset t; its numbers fit
pub record IsMoved (r s t : AxisOffset) (n : ℤ) : Type 0 where
  pub along : r.along ≡ s.along +ℤ n *ℤ t.along
  pub second : r.second ≡ s.second +ℤ n *ℤ t.second
  pub third : r.third ≡ s.third +ℤ n *ℤ t.third
  pub side : r.side ≡ s.side +ℤ n *ℤ t.side
  pub height : r.height ≡ s.height +ℤ n *ℤ t.height

pub record FitsMoved (s t : AxisOffset) (n : ℤ) : Type 0 where
  pub along : unsigned_abs (s.along +ℤ n *ℤ t.along) ≤ moment_limit
  pub second : unsigned_abs (s.second +ℤ n *ℤ t.second) ≤ moment_limit
  pub third : unsigned_abs (s.third +ℤ n *ℤ t.third) ≤ moment_limit
  pub side : unsigned_abs (s.side +ℤ n *ℤ t.side) ≤ tilt_limit
  pub height : unsigned_abs (s.height +ℤ n *ℤ t.height) ≤ moment_limit

-- what lies between two numbers is at least this far from zero
abbrev pub IsLeastSize : ℤ → ℤ → ℤ → Type 0
IsLeastSize a b r = (pos 0 ≤ℤ r) × ((r ≡ pos 0) ⊎ ((r ≤ℤ a) × (r ≤ℤ b)) ⊎ ((a ≤ℤ (pos 0 -ℤ r)) × (b ≤ℤ (pos 0 -ℤ r))))
