-- Time and motion: tip and axis between two ends, linear in time, over plain whole numbers. A rational time is a pair of
-- numbers a and b that stands for a / b; at it every length is taken times b.
use Rattle.std.specs.Prelude.{◌≡◌, ℕ, ◌≤◌, ◌<◌, false, List, [], ◌∷◌, ℤ, ◌+ℤ◌, ◌*ℤ◌, ◌-ℤ◌}
use Rattle.space.specs.Ranges.{IsWithin, axis_unit, metre}
use Rattle.space.specs.Vectors.{are_opposite, at, is_zero}

-- the tip and the axis, each a list of three components, at both ends of a move
pub record SweepOf : Type 0 where
  pub from : List ℤ
  pub to : List ℤ
  pub axis_from : List ℤ
  pub axis_to : List ℤ

-- a / b is a time of the move, ends included
abbrev pub IsTime : ℕ → ℕ → Type 0
IsTime a b = (0 < b) × (a ≤ b)

-- b times the place between two ends at the time a / b
abbrev pub between : ℤ → ℤ → ℤ → ℤ → ℤ
between a b from to = (b -ℤ a) *ℤ from +ℤ a *ℤ to

-- b times the offset of p from that place
abbrev pub offset : ℤ → ℤ → ℤ → ℤ → ℤ → ℤ
offset a b p from to = b *ℤ p -ℤ between a b from to

-- b times the offset of the point p from the tip at the time a / b
abbrev pub offset_at : SweepOf → List ℤ → ℤ → ℤ → List ℤ
offset_at m p a b =
    offset a b (at p 0) (at m.from 0) (at m.to 0)
    ∷ offset a b (at p 1) (at m.from 1) (at m.to 1)
    ∷ offset a b (at p 2) (at m.from 2) (at m.to 2)
    ∷ []

-- b times the axis at the time a / b
abbrev pub axis_at : SweepOf → ℤ → ℤ → List ℤ
axis_at m a b =
    between a b (at m.axis_from 0) (at m.axis_to 0)
    ∷ between a b (at m.axis_from 1) (at m.axis_to 1)
    ∷ between a b (at m.axis_from 2) (at m.axis_to 2)
    ∷ []

-- a valid sweep: coordinates within a metre of the origin, axis components within 100,000, and axes that turn through no zero
pub record IsSweep (m : SweepOf) : Type 0 where
  pub from : IsWithin metre m.from
  pub to : IsWithin metre m.to
  pub axis_from : IsWithin axis_unit m.axis_from
  pub axis_to : IsWithin axis_unit m.axis_to
  pub first_axis : is_zero m.axis_from ≡ false
  pub last_axis : is_zero m.axis_to ≡ false
  pub apart : are_opposite m.axis_from m.axis_to ≡ false
