-- The only part of a move on which a point is marked.
use Rattle.std.specs.Prelude.{ℕ, ◌+◌, ◌^◌, ◌≤◌, List, ℤ}
use Rattle.space.specs.Sweeps.{SweepOf}
use Rattle.bern_form.specs.Slab.{SlabSize}
use Rattle.box_bisect.specs.Between.{IsOutWithin}
use Rattle.width_bisect.specs.Forms.{AreWidthForms}

-- These are the coefficients of u, of n and of the width of the point p on 2^levels cells of S, and on no other cell of the move some
-- of the slabs is left.
pub record IsOpenPart (slabs : List SlabSize) (u n width : List ℤ) (m : SweepOf) (p : List ℤ) (S levels : ℕ) : Type 0 where
  pub first : ℕ
  pub within : first + 2 ^ levels ≤ S
  pub forms : AreWidthForms u n width m p first (first + 2 ^ levels) S
  pub early : IsOutWithin slabs m p 0 first S
  pub late : IsOutWithin slabs m p (first + 2 ^ levels) S S
