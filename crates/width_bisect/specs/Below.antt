-- Where a point is below the slabs of a rising stack from some number on.
use Rattle.std.specs.Prelude.{◌≡◌, ℕ, ◌≤◌, ◌<◌, List, length, get_or, ℤ, true}
use Rattle.space.specs.Sweeps.{SweepOf}
use Rattle.bern_form.specs.Between.{n_between, u_between}
use Rattle.bern_form.specs.Forms.{lifted, product22}
use Rattle.bern_form.specs.Slab.{SlabSize}
use Rattle.box_bisect.specs.SlabTests.{is_below_by, no_slab}

-- by the coefficients of u and n on the whole move of S cells, the point p is below the slab with the number `high` throughout, where there
-- is one
pub record IsBelowFrom (slabs : List SlabSize) (m : SweepOf) (p : List ℤ) (S high : ℕ) : Type 0 where
  pub within : high ≤ length slabs
  pub below : high < length slabs
      → is_below_by S (lifted (n_between m 0 S S)) (product22 (u_between m p 0 S S) (u_between m p 0 S S))
      (get_or slabs high no_slab) ≡ true
