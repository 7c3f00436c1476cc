-- What an interval is made of.
use Rattle.std.specs.Prelude.{◌≡◌, ℕ, ◌+◌, ◌*◌, pos, ◌≤ℤ◌}
use Rattle.space.specs.Sweeps.{SweepOf, axis_at}
use Rattle.space.specs.Vectors.{dot}
use Rattle.sweep_boxes.specs.declared.sweep_interval.SweepInterval.{SweepInterval}
use Rattle.sweep_boxes.specs.Intervals.{axis_change_of, middle_axis, middle_tip, offset_change_of}

-- An interval that is made of cell k of S: its numbers are those of the move there, and the squares of the axis at both ends are at
-- most its longest.
pub record IsSweepInterval (interval : SweepInterval) (m : SweepOf) (k S : ℕ) : Type 0 where
  pub scale : interval.scale ≡ 2 * S
  pub tip : interval.tip ≡ middle_tip m k S
  pub axis : interval.axis ≡ middle_axis m k S
  pub offset_change : interval.offset_change ≡ offset_change_of m
  pub axis_change : interval.axis_change ≡ axis_change_of m
  pub first : dot (axis_at m (pos k) (pos S)) (axis_at m (pos k) (pos S)) ≤ℤ interval.longest
  pub last : dot (axis_at m (pos (k + 1)) (pos S)) (axis_at m (pos (k + 1)) (pos S)) ≤ℤ interval.longest
