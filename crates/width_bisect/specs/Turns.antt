-- Where walks along a stack of slabs stop.
use Rattle.std.specs.Prelude.{◌≡◌, Bool, true, false, List, length, get_or, ℕ, ◌+◌, ◌≤◌, ◌<◌}
use Rattle.bern_form.specs.Slab.{SlabSize}
use Rattle.box_bisect.specs.SlabTests.{no_slab}

-- the slab before the number j passes the test
pub record IsReachedBefore (test : SlabSize → Bool) (slabs : List SlabSize) (j : ℕ) : Type 0 where
  pub within : j ≤ length slabs
  pub before : (i : ℕ) → j ≡ i + 1 → test (get_or slabs i no_slab) ≡ true

-- a walk from the number `high` downwards stops at j: the slab before j passes the test, and the one at j, where it was tested, doesn't
pub record StopsAt (test : SlabSize → Bool) (slabs : List SlabSize) (high j : ℕ) : Type 0 where
  pub at_most : j ≤ high
  pub before : (i : ℕ) → j ≡ i + 1 → test (get_or slabs i no_slab) ≡ true
  pub after : j < high → test (get_or slabs j no_slab) ≡ false
