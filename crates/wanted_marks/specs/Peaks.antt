-- How high a point is at most throughout a move, against the heights at which slabs begin.
use Rattle.std.specs.Prelude.{ℕ, Bool, List, ℤ, pos, ◌*ℤ◌, ◌≤ℤ◌, int_lt}
use Rattle.space.specs.Vectors.{at}
use Rattle.bern_form.specs.Cells.{scaled_square}
use Rattle.bern_form.specs.Slab.{SlabSize}

-- no square of the middle coefficient of u, or of twice an outer one, is greater: so no coefficient of u^2 is above its binomial's
-- fourth
pub record IsPeak (square : ℤ) (u : List ℤ) : Type 0 where
  pub first : ((pos 2 *ℤ at u 0) *ℤ (pos 2 *ℤ at u 0)) ≤ℤ square
  pub middle : (at u 1 *ℤ at u 1) ≤ℤ square
  pub last : ((pos 2 *ℤ at u 2) *ℤ (pos 2 *ℤ at u 2)) ≤ℤ square

-- twice the middle coefficient of n and four times the outer ones are no less
pub record IsLeast (least : ℤ) (n : List ℤ) : Type 0 where
  pub first : least ≤ℤ (pos 4 *ℤ at n 0)
  pub middle : least ≤ℤ (pos 2 *ℤ at n 1)
  pub last : least ≤ℤ (pos 4 *ℤ at n 2)

-- by both the slab, its lengths taken times S, begins higher than the point ever is
abbrev pub is_under : ℕ → ℤ → ℤ → SlabSize → Bool
is_under S square least s = int_lt square (scaled_square S s.lo *ℤ least)
