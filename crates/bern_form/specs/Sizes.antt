-- Sizes: how large the numbers of one point's tests can be, at a scale S of at most 1024 = 2^10.
use Rattle.std.specs.Prelude.{ℕ, ◌*◌, ◌≤◌, List, ℤ, unsigned_abs}
use Rattle.space.specs.Vectors.{at}

-- 2^depth is at most this
abbrev pub scale_limit : ℕ
scale_limit = 1024

-- a component of a scaled offset: S * (1,000,000 + 1,000,000)
abbrev pub offset_limit : ℕ
offset_limit = 2048000000

-- a component of a scaled axis: S * 100,000
abbrev pub axis_limit : ℕ
axis_limit = 102400000

-- a scaled length of a slab: S * 300,000
abbrev pub length_limit : ℕ
length_limit = 307200000

-- a form of degree 2 whose outer coefficients are at most m in absolute value and whose middle one is at most 2 m
pub record IsBounded2 (m : ℕ) (c : List ℤ) : Type 0 where
  pub first : unsigned_abs (at c 0) ≤ m
  pub middle : unsigned_abs (at c 1) ≤ 2 * m
  pub last : unsigned_abs (at c 2) ≤ m

-- a form of degree 4 whose coefficients are at most m in absolute value
pub record IsBounded4 (m : ℕ) (c : List ℤ) : Type 0 where
  pub c0 : unsigned_abs (at c 0) ≤ m
  pub c1 : unsigned_abs (at c 1) ≤ m
  pub c2 : unsigned_abs (at c 2) ≤ m
  pub c3 : unsigned_abs (at c 3) ≤ m
  pub c4 : unsigned_abs (at c 4) ≤ m
