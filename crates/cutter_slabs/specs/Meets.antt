-- What a cutter holds at a time of a move, and what it meets, in two readings: the lower cutter, with its flank's tangent
-- rounded down to millionths, and the upper one, with the tangent rounded up. The cutter itself lies between them.
use Rattle.std.specs.Prelude.{ℕ, ℤ, pos, List}
use Rattle.space.specs.Flanks.{lower_tangent, upper_tangent}
use Rattle.space.specs.Sweeps.{IsTime, SweepOf, axis_at, offset_at}
use Rattle.cutter_slabs.specs.Cutter.{CutterSize}
use Rattle.cutter_slabs.specs.Inside.{IsInside}

-- the cutter, its flank's tangent taken as t millionths, holds the point p at the time a / b of the move
abbrev pub InsideAt : CutterSize → ℕ → SweepOf → List ℤ → ℕ → ℕ → Type 0
InsideAt c t m p a b = IsInside c t b (offset_at m p (pos a) (pos b)) (axis_at m (pos a) (pos b))

-- the lower, or the upper, cutter holds the point p at the time a / b of the move
abbrev pub InLowerAt : CutterSize → SweepOf → List ℤ → ℕ → ℕ → Type 0
InLowerAt c m p a b = InsideAt c (lower_tangent c.flank) m p a b

abbrev pub InUpperAt : CutterSize → SweepOf → List ℤ → ℕ → ℕ → Type 0
InUpperAt c m p a b = InsideAt c (upper_tangent c.flank) m p a b

-- the cutter, its flank's tangent taken as t millionths, holds the point at some rational time of the move
pub record Meets (c : CutterSize) (t : ℕ) (m : SweepOf) (p : List ℤ) : Type 0 where
  pub numerator : ℕ
  pub denominator : ℕ
  pub time : IsTime numerator denominator
  pub inside : InsideAt c t m p numerator denominator

-- the move meets the point with the lower, or the upper, cutter
abbrev pub MeetsLower : CutterSize → SweepOf → List ℤ → Type 0
MeetsLower c m p = Meets c (lower_tangent c.flank) m p

abbrev pub MeetsUpper : CutterSize → SweepOf → List ℤ → Type 0
MeetsUpper c m p = Meets c (upper_tangent c.flank) m p
