-- What is known of a strip and of a ray that are ready.
use Rattle.std.specs.Prelude.{◌≡◌, ℕ, ◌^◌, ◌<◌, List, ℤ, pos, ◌*ℤ◌}
use Rattle.space.specs.Vectors.{cross, dot}
use Rattle.ray_grid.specs.Families.{first_axis}
use Rattle.ray_grid.specs.Lattice.{nodes_of, point_at, point_of, points_of}
use Rattle.ray_grid.specs.Ranges.{IsGrid}
use Rattle.sweep_boxes.specs.declared.cylinder.BoundingCylinder.{BoundingCylinder}
use Rattle.sweep_boxes.specs.Intervals.{offset_from}
use Rattle.near_points.specs.declared.axis_offset.AxisOffset.{AxisOffset}
use Rattle.near_points.specs.declared.cylinder_test.CylinderTest.{CylinderTest}
use Rattle.near_points.specs.declared.ray_step.RayStep.{RayStep}
use Rattle.near_points.specs.AxisOffsets.{IsAxisOffset, IsRayStep}
use Rattle.near_points.specs.AxisOrder.{ray_axis_first, way_across, way_along}
use Rattle.near_points.specs.Lines.{FitsAfter, height_at, side_at, width_at}
use Rattle.near_points.specs.Rays.{CylinderRayOf, CylinderStripOf}

-- the offset of a point from the tip of a cylinder, times its scale
abbrev pub offset_of : BoundingCylinder → List ℤ → List ℤ
offset_of c p = offset_from (pos c.scale) c.tip p

-- what holds a point of the cylinder
pub record IsTestOf (test : CylinderTest) (c : BoundingCylinder) : Type 0 where
  pub least : test.least ≡ c.least
  pub most : test.most ≡ c.most
  pub across : test.across ≡ c.across
  pub moment : test.moment ≡ c.moment

-- The axis offset is that of the first point of the first ray; a ray on, it grows by another; a point on, by the step.
pub record IsReadyStrip (start across : AxisOffset) (step : RayStep) (test : CylinderTest) (s : CylinderStripOf) : Type 0 where
  pub sized : IsGrid s.grid
  pub first : s.i < nodes_of s.grid (first_axis s.family)
  pub start_is :
      IsAxisOffset start (ray_axis_first s.family (offset_of s.cylinder (point_at s.grid s.family s.i 0 0)))
      (ray_axis_first s.family s.cylinder.axis) (ray_axis_first s.family s.cylinder.side)
  pub across_is :
      IsAxisOffset across (way_across s.family (pos s.cylinder.scale *ℤ s.grid.pitch)) (ray_axis_first s.family s.cylinder.axis)
      (ray_axis_first s.family s.cylinder.side)
  pub step_is :
      IsRayStep step (way_along (pos s.cylinder.scale *ℤ s.grid.step))
      (ray_axis_first s.family s.cylinder.axis) (ray_axis_first s.family s.cylinder.side)
  pub test_is : IsTestOf test s.cylinder

-- The axis offsets of the points of the ray, by the first one and by the step, have their moments, what of them is along the side, and
-- their heights.
pub record IsReadyRay (first : AxisOffset) (step : RayStep) (test : CylinderTest) (r : CylinderRayOf) : Type 0 where
  pub few : points_of r.grid r.ray.family < 2 ^ 32
  pub test_is : IsTestOf test r.cylinder
  pub fits : (l : ℕ) → l < points_of r.grid r.ray.family → FitsAfter first step (pos l)
  pub widths : (l : ℕ) → l < points_of r.grid r.ray.family
      → width_at first step (pos l)
      ≡ dot (cross (offset_of r.cylinder (point_of r.grid r.ray l)) r.cylinder.axis)
      (cross (offset_of r.cylinder (point_of r.grid r.ray l)) r.cylinder.axis)
  pub sides : (l : ℕ) → l < points_of r.grid r.ray.family
      → side_at first step (pos l) ≡ dot r.cylinder.side (cross (offset_of r.cylinder (point_of r.grid r.ray l)) r.cylinder.axis)
  pub heights : (l : ℕ) → l < points_of r.grid r.ray.family
      → height_at first step (pos l) ≡ dot (offset_of r.cylinder (point_of r.grid r.ray l)) r.cylinder.axis
