-- The places of a line that are held.
use Rattle.std.specs.Prelude.{All, List, ℕ, ◌*◌, ◌≤◌, ℤ, pos, ◌*ℤ◌, ◌-ℤ◌, ◌≤ℤ◌, unsigned_abs}
use Rattle.sweep_boxes.specs.declared.band.Band.{Band}
use Rattle.sweep_boxes.specs.declared.cylinder_bounds.CylinderBounds.{CylinderBounds}
use Rattle.sweep_boxes.specs.declared.line.Line.{Line}
use Rattle.sweep_boxes.specs.declared.side_bound.SideBound.{SideBound}
use Rattle.sweep_boxes.specs.declared.sweep_interval.SweepInterval.{SweepInterval}
use Rattle.sweep_boxes.specs.Bands.{IsOnBand}
use Rattle.sweep_boxes.specs.Intervals.{IsBeside, IsHeldOn, offset_from}

-- The place z is in the line's range, and at the height u, which is held: what of its offset isn't along the axis is at most the
-- distance from the axis times what of the axis isn't along the line.
pub record IsOnLine (line : Line) (bounds : CylinderBounds) (z u : ℤ) : Type 0 where
  pub after : line.low ≤ℤ z
  pub before : z ≤ℤ line.high
  pub above : bounds.least ≤ℤ u
  pub below : u ≤ℤ bounds.most
  pub near : (k : ℕ) → (line.square -ℤ line.axis *ℤ line.axis) ≤ℤ pos (k * k)
      → unsigned_abs ((pos line.scale *ℤ z -ℤ line.tip) *ℤ line.square -ℤ u *ℤ line.axis) ≤ k * unsigned_abs bounds.moment

-- the point p is held on the interval
abbrev pub IsHeldPlace : CylinderBounds → SweepInterval → List ℤ → Type 0
IsHeldPlace bounds interval p =
    IsHeldOn bounds.least bounds.most bounds.moment (offset_from (pos interval.scale) interval.tip p) interval.axis

-- and it is no further to either side
abbrev pub IsBesidePlace : SideBound → SweepInterval → List ℤ → Type 0
IsBesidePlace side_bound interval p =
    IsBeside side_bound.side side_bound.across (offset_from (pos interval.scale) interval.tip p) interval.axis

-- and it is at a band
abbrev pub IsBandOf : Band → List ℤ → SweepInterval → List ℤ → Type 0
IsBandOf l side interval p = IsOnBand l side (offset_from (pos interval.scale) interval.tip p) interval.axis

-- and it is at each band
abbrev pub AreBandsOf : List Band → List ℤ → SweepInterval → List ℤ → Type 0
AreBandsOf bands side interval p = All (λ (l : Band). IsOnBand l side (offset_from (pos interval.scale) interval.tip p) interval.axis) bands
