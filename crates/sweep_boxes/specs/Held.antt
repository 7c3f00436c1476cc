-- What the numbers of an interval bound.
use Rattle.std.specs.Prelude.{◌≡◌, ℕ, ◌+◌, ◌*◌, ◌≤◌, List, ℤ, pos, ◌*ℤ◌, ◌≤ℤ◌, unsigned_abs}
use Rattle.space.specs.Vectors.{cross, dot}
use Rattle.sweep_boxes.specs.declared.sweep_interval.SweepInterval.{SweepInterval}
use Rattle.sweep_boxes.specs.Intervals.{IsNearer, height_change, moment_change}

-- The distance from the axis at which a place is outside of slabs of at most a width, throughout the interval: half of their
-- width r, what the moment of an offset that is no further than far changes by, and by how much it is bent. All times |a|.
pub record IsGrown (total : ℤ) (interval : SweepInterval) (widest : ℤ) (far : List ℤ) : Type 0 where
  pub r : ℕ
  pub m : ℕ
  pub n : ℕ
  pub total_is : total ≡ pos (r + (m + n))
  pub wide : (((pos interval.scale *ℤ widest) *ℤ (pos interval.scale *ℤ widest)) *ℤ interval.longest) ≤ℤ pos (r * r)
  pub change : (v : List ℤ) → IsNearer v far
      → dot (moment_change v interval.axis interval.offset_change interval.axis_change)
      (moment_change v interval.axis interval.offset_change interval.axis_change) ≤ℤ pos (m * m)
  pub bend : dot (cross interval.offset_change interval.axis_change) (cross interval.offset_change interval.axis_change) ≤ℤ pos (n * n)

-- what the height of such an offset changes by, and by how much it is bent
pub record IsHeightSlack (total : ℤ) (interval : SweepInterval) (far : List ℤ) : Type 0 where
  pub v : ℕ
  pub b : ℕ
  pub total_is : total ≡ pos (v + b)
  pub change : (p : List ℤ) → IsNearer p far → unsigned_abs (height_change p interval.axis interval.offset_change interval.axis_change) ≤ v
  pub bend : unsigned_abs (dot interval.offset_change interval.axis_change) ≤ b

-- How far along a side the moment of a place is outside of slabs of at most a width, throughout the interval, times the length of
-- the side. A place that far along the side is at least that far from the axis, so of the three numbers of `IsGrown` only the first
-- counts whole; of the other two, which the products of two moments lose, a third of the square, e.
pub record IsSpread (across : ℤ) (side : List ℤ) (interval : SweepInterval) (widest : ℤ) (far : List ℤ) : Type 0 where
  pub r : ℕ
  pub m : ℕ
  pub n : ℕ
  pub e : ℕ
  pub t : ℕ
  pub q : ℕ
  pub s : ℕ
  pub across_is : across ≡ pos (t + (q + s))
  pub wide : (((pos interval.scale *ℤ widest) *ℤ (pos interval.scale *ℤ widest)) *ℤ interval.longest) ≤ℤ pos (r * r)
  pub change : (v : List ℤ) → IsNearer v far
      → dot (moment_change v interval.axis interval.offset_change interval.axis_change)
      (moment_change v interval.axis interval.offset_change interval.axis_change) ≤ℤ pos (m * m)
  pub bend : dot (cross interval.offset_change interval.axis_change) (cross interval.offset_change interval.axis_change) ≤ℤ pos (n * n)
  pub spare : (m + 2 * n) * (m + 2 * n) ≤ 3 * e
  pub root : (dot side side *ℤ pos (r * r + e)) ≤ℤ pos (t * t)
  pub side_change : (v : List ℤ) → IsNearer v far
      → unsigned_abs (dot side (moment_change v interval.axis interval.offset_change interval.axis_change)) ≤ q
  pub side_bend : unsigned_abs (dot side (cross interval.offset_change interval.axis_change)) ≤ s
