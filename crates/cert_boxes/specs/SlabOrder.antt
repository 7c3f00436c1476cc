-- The tests of a box for a slab apart: below it, and past it, and where the first of them turns in a stack.
use Rattle.std.specs.Prelude.{◌≡◌, Bool, true, false, List, length, get_or, ℕ, ℤ, ◌+◌, ◌≤◌, ◌<◌, pos}
use Rattle.bern_form.specs.Cells.{scaled_square}
use Rattle.bern_form.specs.Grids.{rows_negative, rows_positive}
use Rattle.bern_form.specs.Slab.{SlabSize}
use Rattle.ray_boxes.specs.Boxes.{grid_less}

-- the box is below the slab: u^2 is below lo^2 n, by the columns h0, h1 and h2 of u^2
abbrev pub is_below_by_grid : ℕ → List ℤ → List ℤ → List ℤ → List ℤ → SlabSize → Bool
is_below_by_grid S raised h0 h1 h2 s = rows_negative (grid_less raised (scaled_square S s.lo) h0 h1 h2)

-- it is above the slab, or beside it
abbrev pub is_above_by_grid : ℕ → List ℤ → List ℤ → List ℤ → List ℤ → SlabSize → Bool
is_above_by_grid S raised h0 h1 h2 s = rows_positive (grid_less raised (scaled_square S s.hi) h0 h1 h2)

abbrev pub is_beside_by_grid : ℕ → List ℤ → List ℤ → List ℤ → List ℤ → SlabSize → Bool
is_beside_by_grid S raised w0 w1 w2 s = rows_positive (grid_less raised (scaled_square S s.dia) w0 w1 w2)

-- what stands for a slab that isn't in a list
abbrev pub absent_slab : SlabSize
absent_slab = record { lo = pos 0; hi = pos 0; dia = pos 0 }

-- a test of slabs turns between the numbers low and high: the slab before low doesn't pass it, and the slab at high does
pub record SwitchesBetween (test : SlabSize → Bool) (slabs : List SlabSize) (low high : ℕ) : Type 0 where
  pub within : high ≤ length slabs
  pub before : (i : ℕ) → low ≡ i + 1 → test (get_or slabs i absent_slab) ≡ false
  pub after : high < length slabs → test (get_or slabs high absent_slab) ≡ true

-- it turns at j
abbrev pub SwitchesAt : (SlabSize → Bool) → List SlabSize → ℕ → Type 0
SwitchesAt test slabs j = SwitchesBetween test slabs j j
