-- Ranges of numbers. Lengths are micrometres, components of an axis 1/100,000.
use Rattle.std.specs.Prelude.{ℕ, ◌≤◌, List, ℤ, ◌≤ℤ◌, nat_le, unsigned_abs, Bool}
use Rattle.space.specs.Vectors.{at}

-- how far a coordinate may be from the origin: 1,000 mm
abbrev pub metre : ℕ
metre = 1000000

-- how far a component of a tool axis may be from zero: 1
abbrev pub axis_unit : ℕ
axis_unit = 100000

-- at least the one bound and at most the other
pub record IsBetween (least most z : ℤ) : Type 0 where
  pub from_least : least ≤ℤ z
  pub to_most : z ≤ℤ most

-- a coordinate: within a metre of the origin
abbrev pub is_coordinate : ℤ → Bool
is_coordinate z = nat_le (unsigned_abs z) metre

-- no component is further from zero than the limit
abbrev pub IsWithin : ℕ → List ℤ → Type 0
IsWithin limit v = (unsigned_abs (at v 0) ≤ limit) × (unsigned_abs (at v 1) ≤ limit) × (unsigned_abs (at v 2) ≤ limit)

-- a point of a query, or a tip: coordinates within a metre of the origin
abbrev pub IsPoint : List ℤ → Type 0
IsPoint p = IsWithin metre p

-- how far a component may be from zero in the products of vectors: 256 times a way of 1,000 mm, and more
abbrev pub vector_limit : ℕ
vector_limit = 300000000
