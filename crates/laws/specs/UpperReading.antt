-- What a move meets with the upper, and with the lower, cutter, said by their readings at rational times, and a place that separates
-- the two.
use Rattle.std.specs.Prelude.{ℕ, ◌↔◌, ℤ, pos, List, [], ◌∷◌}
use Rattle.space.specs.Sweeps.{IsSweep, IsTime, SweepOf}
use Rattle.cutter_slabs.specs.Cutter.{CutterSize, IsCutter}
use Rattle.cutter_slabs.specs.Meets.{InLowerAt, InUpperAt, MeetsLower, MeetsUpper}

-- a move meets a point with the upper cutter exactly where at some rational time a / b that cutter holds it
abbrev pub UpperAtSomeTime : Type 0
UpperAtSomeTime = (c : CutterSize) (m : SweepOf) (p : List ℤ) → MeetsUpper c m p ↔ ((a : ℕ) × (b : ℕ) × IsTime a b × InUpperAt c m p a b)

-- and with the lower cutter likewise
abbrev pub LowerAtSomeTime : Type 0
LowerAtSomeTime = (c : CutterSize) (m : SweepOf) (p : List ℤ) → MeetsLower c m p ↔ ((a : ℕ) × (b : ℕ) × IsTime a b × InLowerAt c m p a b)

-- a cone of diameter 2000 that leans by 30 degrees and is 150,000 high
abbrev pub cone : CutterSize
cone = record { d = 2000; r = 0; h = 150000; flank = 30; base = 0 }

-- the tip and the axis, at the origin and along z
abbrev pub origin : List ℤ
origin = pos 0 ∷ pos 0 ∷ pos 0 ∷ []

abbrev pub along_z : List ℤ
along_z = pos 0 ∷ pos 0 ∷ pos 100000 ∷ []

-- the cone stays there
abbrev pub standing : SweepOf
standing = record { from = origin; to = origin; axis_from = along_z; axis_to = along_z }

-- a place 87,602 from the axis, 149,999 above the tip
abbrev pub place_between : List ℤ
place_between = pos 87602 ∷ pos 0 ∷ pos 149999 ∷ []

-- At that height the cone reaches 87,601.92 from its axis in the lower reading and 87,602.07 in the upper one. So it meets the place
-- with the upper cutter, and at no time with the lower one. If either reading took the other's tangent, this could not be proved.
pub record UpperAlone : Type 0 where
  pub cutter : IsCutter cone
  pub sweep : IsSweep standing
  pub upper : MeetsUpper cone standing place_between
  pub lower : ¬ MeetsLower cone standing place_between
