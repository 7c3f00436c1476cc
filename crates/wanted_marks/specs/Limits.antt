-- Limits beyond which a point is beside every slab of a stack throughout a move.
use Rattle.std.specs.Prelude.{ℕ, ◌^◌, ◌<◌, ◌≤ℤ◌, List, [], ◌∷◌, ℤ, pos, int_lt, if◌then◌else◌, All}
use Rattle.space.specs.Vectors.{at}
use Rattle.bern_form.specs.Between.{n_between}
use Rattle.bern_form.specs.Slab.{SlabSize}
use Rattle.axis_cells.specs.Exclusion.{squared}
use Rattle.cutter_slabs.specs.Stacks.{outer_stack}
use Rattle.wanted_marks.specs.Rays.{MoveOf}

-- the slab is no wider
pub record IsNoWider (most : ℤ) (s : SlabSize) : Type 0 where
  pub not_negative : pos 0 ≤ℤ s.dia
  pub no_wider : s.dia ≤ℤ most

-- a number, or 0 where it is below
abbrev pub not_below_zero : ℤ → ℤ
not_below_zero z = if int_lt z (pos 0) then pos 0 else z

abbrev pub all_not_below_zero : List ℤ → List ℤ
all_not_below_zero c =
    not_below_zero (at c 0)
    ∷ not_below_zero (at c 1)
    ∷ not_below_zero (at c 2)
    ∷ not_below_zero (at c 3)
    ∷ not_below_zero (at c 4)
    ∷ []

-- no coefficient of dia^2 n raised to degree 4 is above its limit
pub record IsWithinLimits (limits n : List ℤ) (S : ℕ) (s : SlabSize) : Type 0 where
  pub at_most : (k : ℕ) → k < 5 → at (squared (pos S) s.dia n) k ≤ℤ at limits k

-- for each outer slab of the cutter, on the whole move
abbrev pub AreLimits : List ℤ → MoveOf → Type 0
AreLimits limits v =
    let S = 2 ^ v.depth in
    All (IsWithinLimits limits (n_between v.sweep 0 S S) S) (outer_stack v.cutter v.slabs)
