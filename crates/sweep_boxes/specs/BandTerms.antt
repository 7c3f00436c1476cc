-- What the bands of a cylinder are computed from.
use Rattle.std.specs.Prelude.{◌≡◌, ℕ, ◌+◌, ◌≤◌, ◌⊎◌, List, ℤ, pos, ◌+ℤ◌, ◌*ℤ◌, ◌-ℤ◌, ◌<ℤ◌, ◌≤ℤ◌, unsigned_abs}
use Rattle.std.specs.List.{Contains}
use Rattle.space.specs.Vectors.{cross, difference, dot, sum}
use Rattle.bern_form.specs.Slab.{SlabSize}
use Rattle.sweep_boxes.specs.declared.band_terms.BandTerms.{BandTerms}
use Rattle.sweep_boxes.specs.declared.sweep_interval.SweepInterval.{SweepInterval}
use Rattle.sweep_boxes.specs.Held.{IsHeightSlack}
use Rattle.sweep_boxes.specs.Intervals.{IsNearer, moment_change}

-- each slab begins at a height or higher, or it is no wider than a number
abbrev pub IsStepAt : ℤ → ℤ → List SlabSize → Type 0
IsStepAt begin widest slabs = (s : SlabSize) → Contains slabs s → (begin ≤ℤ s.lo) ⊎ ((pos 0 ≤ℤ s.dia) × (s.dia ≤ℤ widest))

-- half the width of slabs of this width, times the length of the axis at either end of an interval, is no more than the number
abbrev pub IsHalfWidth : ℤ → ℤ → SweepInterval → Type 0
IsHalfWidth half widest interval =
    (((pos interval.scale *ℤ widest) *ℤ (pos interval.scale *ℤ widest)) *ℤ interval.longest) ≤ℤ (half *ℤ half)

-- by the axis in the middle of an interval and the axis change: the number's square is at most that of twice the axis at either end, and
-- four times the product of both
pub record IsShortest (g : ℤ) (axis axis_change : List ℤ) : Type 0 where
  pub some : pos 0 ≤ℤ g
  pub first : (g *ℤ g) ≤ℤ dot (difference axis axis_change) (difference axis axis_change)
  pub middle : (g *ℤ g) ≤ℤ (dot axis axis -ℤ dot axis_change axis_change)
  pub last : (g *ℤ g) ≤ℤ dot (sum axis axis_change) (sum axis axis_change)

-- the number is how high a place is throughout an interval, times |a|, that is as high as slabs begin
pub record IsRaised (rise lowest : ℤ) (interval : SweepInterval) : Type 0 where
  pub shortest : ℤ
  pub is_shortest : IsShortest shortest interval.axis interval.axis_change
  pub some : pos 0 ≤ℤ lowest
  pub rise_is : rise ≡ (pos interval.scale *ℤ lowest) *ℤ shortest

-- it is, where it is above 0
abbrev pub IsRiseAbove : ℤ → ℤ → SweepInterval → Type 0
IsRiseAbove rise lowest interval = pos 0 <ℤ rise → IsRaised rise lowest interval

-- a vector is no longer than a number
abbrev pub IsNoLonger : List ℤ → ℤ → Type 0
IsNoLonger v length = dot v v ≤ℤ (length *ℤ length)

-- a number is at least a third of the square of another
abbrev pub IsThirdOfSquare : ℤ → ℤ → Type 0
IsThirdOfSquare third z = (z *ℤ z) ≤ℤ (pos 3 *ℤ third)

-- what the moment of an offset that is no further than far changes by along a side, and by how much it is bent there
pub record IsSideSlack (side_slack : ℤ) (side : List ℤ) (interval : SweepInterval) (far : List ℤ) : Type 0 where
  pub q : ℕ
  pub s : ℕ
  pub total_is : side_slack ≡ pos (q + s)
  pub side_change : (v : List ℤ) → IsNearer v far
      → unsigned_abs (dot side (moment_change v interval.axis interval.offset_change interval.axis_change)) ≤ q
  pub side_bend : unsigned_abs (dot side (cross interval.offset_change interval.axis_change)) ≤ s

-- what all bands of an interval share, whatever the width of their slabs
pub record AreBandTermsOf (band_terms : BandTerms) (interval : SweepInterval) (side far : List ℤ) : Type 0 where
  pub height_slack : IsHeightSlack band_terms.height_slack interval far
  pub shortest : IsShortest band_terms.shortest interval.axis interval.axis_change
  pub long : interval.longest ≤ℤ (band_terms.longest *ℤ band_terms.longest)
  pub change : (v : List ℤ) → IsNearer v far
      → IsNoLonger (moment_change v interval.axis interval.offset_change interval.axis_change) band_terms.change
  pub bend : IsNoLonger (cross interval.offset_change interval.axis_change) band_terms.bent
  pub square_is : band_terms.square ≡ dot side side
  pub third : IsThirdOfSquare band_terms.third (band_terms.change +ℤ (band_terms.bent +ℤ band_terms.bent))
  pub side_slack : IsSideSlack band_terms.side_slack side interval far
