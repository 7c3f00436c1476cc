-- A slab of a cutter, and when it holds a point.
use Rattle.std.specs.Prelude.{ℕ, ℤ, pos, ◌*ℤ◌, ◌≤ℤ◌, int_le, Bool, ◌&&◌, List}
use Rattle.space.specs.Vectors.{dot, spread}
use Rattle.space.specs.Sweeps.{SweepOf, offset_at, axis_at}

-- the heights above the tip from lo to hi, as far as half of dia from the axis
pub record SlabSize : Type 0 where
  pub lo : ℤ
  pub hi : ℤ
  pub dia : ℤ

-- what every slab keeps: 0 <= lo <= hi <= 300,000 and 0 <= dia <= 200,000 micrometres
pub record IsSlab (s : SlabSize) : Type 0 where
  pub above_tip : pos 0 ≤ℤ s.lo
  pub ordered : s.lo ≤ℤ s.hi
  pub height : s.hi ≤ℤ pos 300000
  pub thick : pos 0 ≤ℤ s.dia
  pub width : s.dia ≤ℤ pos 200000

-- The slab, its lengths taken times b, holds a place that is given by u, the height above the tip times |a|, by n = |a|^2 and
-- by w, the squared distance from the axis times n: u >= 0, lo^2 n <= u^2 <= hi^2 n and 4 w <= dia^2 n.
abbrev pub covers : SlabSize → ℤ → ℤ → ℤ → ℤ → Bool
covers s b u n w =
    int_le (pos 0) u
    && (int_le (((b *ℤ s.lo) *ℤ (b *ℤ s.lo)) *ℤ n) (u *ℤ u)
    && (int_le (u *ℤ u) (((b *ℤ s.hi) *ℤ (b *ℤ s.hi)) *ℤ n) && int_le (pos 4 *ℤ w) (((b *ℤ s.dia) *ℤ (b *ℤ s.dia)) *ℤ n)))

-- the slab, its lengths taken times b, holds the offset p from the tip under the axis a
abbrev pub holds : SlabSize → ℤ → List ℤ → List ℤ → Bool
holds s b p a = covers s b (dot p a) (dot a a) (spread p a)

-- the slab holds the point p at the time a / b of the move
abbrev pub holds_at : SlabSize → SweepOf → List ℤ → ℕ → ℕ → Bool
holds_at s m p a b = holds s (pos b) (offset_at m p (pos a) (pos b)) (axis_at m (pos a) (pos b))
