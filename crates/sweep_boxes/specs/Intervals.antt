-- A part of a move, cell k of S that are equally long, by its middle and by what changes on it. Lengths are taken times 2 S.
use Rattle.std.specs.Prelude.{ℕ, ◌+◌, ◌*◌, List, [], ◌∷◌, ℤ, pos, ◌+ℤ◌, ◌*ℤ◌, ◌-ℤ◌, ◌≤ℤ◌, unsigned_abs}
use Rattle.std.specs.List.{Contains}
use Rattle.space.specs.Ranges.{IsBetween}
use Rattle.space.specs.Sweeps.{SweepOf, axis_at, between, offset_at}
use Rattle.space.specs.Vectors.{at, cross, difference, dot, sum}
use Rattle.bern_form.specs.Slab.{SlabSize}

-- the place between two ends at the time a / b, times b
abbrev pub between_ends : List ℤ → List ℤ → ℤ → ℤ → List ℤ
between_ends from to a b = between a b (at from 0) (at to 0) ∷ between a b (at from 1) (at to 1) ∷ between a b (at from 2) (at to 2) ∷ []

-- the axis and the tip in the middle of the part, and the offset of a point from that tip
abbrev pub middle_axis : SweepOf → ℕ → ℕ → List ℤ
middle_axis m k S = axis_at m (pos (2 * k + 1)) (pos (2 * S))

abbrev pub middle_tip : SweepOf → ℕ → ℕ → List ℤ
middle_tip m k S = between_ends m.from m.to (pos (2 * k + 1)) (pos (2 * S))

abbrev pub middle_offset : SweepOf → List ℤ → ℕ → ℕ → List ℤ
middle_offset m p k S = offset_at m p (pos (2 * k + 1)) (pos (2 * S))

-- the offset of a point from a tip that is taken times the scale
abbrev pub offset_from : ℤ → List ℤ → List ℤ → List ℤ
offset_from scale tip p =
    (scale *ℤ at p 0 -ℤ at tip 0) ∷ (scale *ℤ at p 1 -ℤ at tip 1) ∷ (scale *ℤ at p 2 -ℤ at tip 2) ∷ []

-- what the offset of a point and the axis change by on any part
abbrev pub offset_change_of : SweepOf → List ℤ
offset_change_of m = difference m.from m.to

abbrev pub axis_change_of : SweepOf → List ℤ
axis_change_of m = difference m.axis_to m.axis_from

-- How the moment p x a changes to either end of the part, and how it is bent; and the same of the height p . a. These are by the
-- offset and the axis in the middle, the offset change d and the axis change e.
abbrev pub moment_change : List ℤ → List ℤ → List ℤ → List ℤ → List ℤ
moment_change p a d e = sum (cross d a) (cross p e)

abbrev pub height_change : List ℤ → List ℤ → List ℤ → List ℤ → ℤ
height_change p a d e = dot d a +ℤ dot p e

-- a slab has at most this width and this height
pub record IsAsLarge (widest highest : ℤ) (s : SlabSize) : Type 0 where
  pub thick : pos 0 ≤ℤ s.dia
  pub width : s.dia ≤ℤ widest
  pub tall : pos 0 ≤ℤ s.hi
  pub height : s.hi ≤ℤ highest

-- all slabs are
abbrev pub AreAsLarge : ℤ → ℤ → List SlabSize → Type 0
AreAsLarge widest highest slabs = (s : SlabSize) → Contains slabs s → IsAsLarge widest highest s

-- all slabs begin at a height or higher
abbrev pub AreFrom : ℤ → List SlabSize → Type 0
AreFrom lowest slabs = (s : SlabSize) → Contains slabs s → lowest ≤ℤ s.lo

-- A place by its offset v from the tip in the middle of an interval, under the axis a there: its height times |a| is from the one number
-- to the other, and its distance from the axis times |a| at most the third.
pub record IsHeldOn (least most moment : ℤ) (v a : List ℤ) : Type 0 where
  pub above : least ≤ℤ dot v a
  pub below : dot v a ≤ℤ most
  pub beside : dot (cross v a) (cross v a) ≤ℤ (moment *ℤ moment)

-- The same place across the axis: what of its moment is along a side, times the length of the side, is no further from zero than a number.
abbrev pub IsBeside : List ℤ → ℤ → List ℤ → List ℤ → Type 0
IsBeside side across v a = pos (unsigned_abs (dot side (cross v a))) ≤ℤ across

-- no component of the vector is further from zero than that of the other
pub record IsNearer (v limit : List ℤ) : Type 0 where
  pub x : pos (unsigned_abs (at v 0)) ≤ℤ at limit 0
  pub y : pos (unsigned_abs (at v 1)) ≤ℤ at limit 1
  pub z : pos (unsigned_abs (at v 2)) ≤ℤ at limit 2

-- each component of the vector is between those of two others
pub record IsAmong (low high v : List ℤ) : Type 0 where
  pub x : IsBetween (at low 0) (at high 0) (at v 0)
  pub y : IsBetween (at low 1) (at high 1) (at v 1)
  pub z : IsBetween (at low 2) (at high 2) (at v 2)
