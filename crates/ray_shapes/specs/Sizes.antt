-- How large the numbers of a plane on a ray may be: far below 64 bits.
use Rattle.std.specs.Prelude.{ℕ, ◌<◌, ◌≤◌, ℤ, pos, negsuc, ◌*ℤ◌, unsigned_abs, List}
use Rattle.space.specs.Vectors.{at}
use Rattle.space.specs.Ranges.{IsBetween, metre}

-- a coefficient of 32 bits times a length of 2,000 mm is below 2 ^ 52, and a sum of three such below 2 ^ 54
abbrev pub IsTerm : ℤ → Type 0
IsTerm z = IsBetween (negsuc 18014398509481983) (pos 18014398509481984) z

-- a line has a point, its first point is within 1,000 mm, and its last at most 2,000 mm from it
pub record IsLine (first : List ℤ) (step : ℤ) (points : ℕ) : Type 0 where
  pub some : 1 ≤ points
  pub x : unsigned_abs (at first 0) ≤ metre
  pub y : unsigned_abs (at first 1) ≤ metre
  pub z : unsigned_abs (at first 2) ≤ metre
  pub span : (l : ℕ) → l < points → IsBetween (pos 0) (pos 2000000) (step *ℤ pos l)
