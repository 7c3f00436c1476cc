-- What a slab requires of the points at a sample, as numbers.
use Rattle.std.specs.Prelude.{◌≡◌, ℕ, ◌&&◌, Bool, true, List, ℤ, pos, ◌*ℤ◌, ◌≤ℤ◌, int_le}
use Rattle.bern_form.specs.Cells.{scaled_square}
use Rattle.bern_form.specs.Slab.{SlabSize}
use Rattle.box_bisect.specs.SlabTests.{some_covers}
use Rattle.width_bisect.specs.declared.bounds.Bounds.{Bounds}

-- the bounds of a slab, its lengths taken times S, where the axis has the squared length n
abbrev pub bounds_of : ℕ → ℤ → SlabSize → Bounds
bounds_of S n s = record { low = scaled_square S s.lo *ℤ n; high = scaled_square S s.hi *ℤ n; width = scaled_square S s.dia *ℤ n }

-- those that no point meets
abbrev pub no_bounds : Bounds
no_bounds = record { low = pos 1; high = pos 0; width = pos 0 }

-- a point is at the height that they require, and it meets them
abbrev pub is_between : Bounds → ℤ → Bool
is_between b u = int_le b.low (u *ℤ u) && int_le (u *ℤ u) b.high

abbrev pub meets : Bounds → ℤ → ℤ → Bool
meets b u width = is_between b u && int_le width b.width

-- whichever point ahead of the tip meets them some of the slabs holds
pub record HoldsBy (b : Bounds) (S : ℕ) (n : ℤ) (slabs : List SlabSize) : Type 0 where
  pub held : (u w : ℤ) → pos 0 ≤ℤ u → meets b u (pos 4 *ℤ w) ≡ true → some_covers (pos S) u n w slabs ≡ true
