-- How large the numbers of a stretch can be.
use Rattle.std.specs.Prelude.{ℕ, ◌*◌, ◌≤◌, List, ℤ, unsigned_abs}
use Rattle.space.specs.Vectors.{at}
use Rattle.bern_form.specs.Sizes.{axis_limit, offset_limit}

-- the first coefficient of u, which is the sum of three products of components
abbrev pub height_limit : ℕ
height_limit = 3 * (offset_limit * axis_limit)

-- the first coefficient of the width 4 (d n - u^2)
abbrev pub width_limit : ℕ
width_limit = 8 * (height_limit * height_limit)

-- a form of degree 4 whose coefficients are at most m in absolute value, each as often as it is in (x + y)^4
pub record IsWeighted4 (m : ℕ) (c : List ℤ) : Type 0 where
  pub c0 : unsigned_abs (at c 0) ≤ m
  pub c1 : unsigned_abs (at c 1) ≤ 4 * m
  pub c2 : unsigned_abs (at c 2) ≤ 6 * m
  pub c3 : unsigned_abs (at c 3) ≤ 4 * m
  pub c4 : unsigned_abs (at c 4) ≤ m
