-- The points that a bounding cylinder holds.
use Rattle.std.specs.Prelude.{List, ℤ, pos, All}
use Rattle.sweep_boxes.specs.declared.band.Band.{Band}
use Rattle.sweep_boxes.specs.declared.cylinder.BoundingCylinder.{BoundingCylinder}
use Rattle.sweep_boxes.specs.Bands.{IsOnBand}
use Rattle.sweep_boxes.specs.Intervals.{IsBeside, IsHeldOn, offset_from}

-- the cylinder where it is widest holds the point: by its offset from the tip under the axis, about the axis and across it
pub record IsInWidest (c : BoundingCylinder) (p : List ℤ) : Type 0 where
  pub about : IsHeldOn c.least c.most c.moment (offset_from (pos c.scale) c.tip p) c.axis
  pub across : IsBeside c.side c.across (offset_from (pos c.scale) c.tip p) c.axis

-- the cylinder holds the point, at each band too
pub record IsInCylinder (c : BoundingCylinder) (p : List ℤ) : Type 0 where
  pub widest : IsInWidest c p
  pub bands : All (λ (l : Band). IsOnBand l c.side (offset_from (pos c.scale) c.tip p) c.axis) c.bands
