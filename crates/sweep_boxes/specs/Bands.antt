-- The heights below which a cylinder is narrower.
use Rattle.std.specs.Prelude.{List, ℤ, ◌*ℤ◌, ◌<ℤ◌, ◌≤ℤ◌}
use Rattle.space.specs.Vectors.{cross, dot}
use Rattle.sweep_boxes.specs.declared.band.Band.{Band}
use Rattle.sweep_boxes.specs.Intervals.{IsBeside}

-- below the height of a band a place, by its offset v from the tip under the axis a, is within the narrower numbers
pub record IsOnBand (l : Band) (side v a : List ℤ) : Type 0 where
  pub about : dot v a <ℤ l.height → dot (cross v a) (cross v a) ≤ℤ (l.moment *ℤ l.moment)
  pub across : dot v a <ℤ l.height → IsBeside side l.across v a
