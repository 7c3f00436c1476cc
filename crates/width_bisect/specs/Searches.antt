-- What a search by the width starts from.
use Rattle.std.specs.Prelude.{◌≡◌, ℕ, ◌+◌, ◌^◌, List, ℤ, Bool, not, true}
use Rattle.space.specs.Sweeps.{SweepOf}
use Rattle.bern_form.specs.Between.{d_between}
use Rattle.bern_form.specs.Forms.{all_positive, lifted, product22}
use Rattle.bern_form.specs.Slab.{SlabSize}
use Rattle.box_bisect.specs.Between.{IsSearched}
use Rattle.box_bisect.specs.SlabTests.{TurnsBetween, is_below_by}
use Rattle.width_bisect.specs.Forms.{width_between}

-- by the coefficients of u and n, the point isn't below the slab throughout
abbrev pub is_not_below : ℕ → List ℤ → List ℤ → SlabSize → Bool
is_not_below S u n s = not (is_below_by S (lifted n) (product22 u u) s)

-- The stretch of 2^levels cells from the sample j: its forms are these, and no inner slab holds the point at either end. n raised to
-- degree 4 is above 0, and the point is below the outer slab with the number `high` throughout, where there is one.
pub record IsWidthSearch (inner outer : List SlabSize) (u n width : List ℤ) (m : SweepOf) (p : List ℤ) (S high levels j : ℕ) : Type 0 where
  pub searched : IsSearched inner outer u n (d_between m p j (j + 2 ^ levels) S) m p S levels j
  pub width_is : width ≡ width_between m p j (j + 2 ^ levels) S
  pub is_open : all_positive (lifted n) ≡ true
  pub turns : TurnsBetween (is_not_below S u n) outer 0 high
