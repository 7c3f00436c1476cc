-- How an offset v lies about an axis a: its moment v x a, what of that is along a side d, and its height v . a.
use Rattle.std.specs.Prelude.{◌≡◌, List, ℤ}
use Rattle.space.specs.Vectors.{at, cross, dot}
use Rattle.near_points.specs.declared.axis_offset.AxisOffset.{AxisOffset}
use Rattle.near_points.specs.declared.ray_step.RayStep.{RayStep}

-- the axis offset is that of the offset v under the axis a
pub record IsAxisOffset (s : AxisOffset) (v a d : List ℤ) : Type 0 where
  pub along : s.along ≡ at (cross v a) 0
  pub second : s.second ≡ at (cross v a) 1
  pub third : s.third ≡ at (cross v a) 2
  pub side : s.side ≡ dot d (cross v a)
  pub height : s.height ≡ dot v a

-- the step is that of the way v along a ray, whose moment has no component along the ray
pub record IsRayStep (t : RayStep) (v a d : List ℤ) : Type 0 where
  pub second : t.second ≡ at (cross v a) 1
  pub third : t.third ≡ at (cross v a) 2
  pub side : t.side ≡ dot d (cross v a)
  pub height : t.height ≡ dot v a

-- the step adds what the axis offset of its way has
pub record IsRayStepOf (t : RayStep) (way : AxisOffset) : Type 0 where
  pub second : t.second ≡ way.second
  pub third : t.third ≡ way.third
  pub side : t.side ≡ way.side
  pub height : t.height ≡ way.height
