-- A stack of slabs that rises: each slab lies on the one before it.
use Rattle.std.specs.Prelude.{◌≡◌, List, [], ◌∷◌, ◌<ℤ◌, ◌≤ℤ◌}
use Rattle.bern_form.specs.Slab.{IsSlab, SlabSize}

-- a slab lies on another: it begins where that one ends, higher than that one begins, and is no narrower
pub record LiesOn (upper lower : SlabSize) : Type 0 where
  pub touches : upper.lo ≡ lower.hi
  pub higher : lower.lo <ℤ upper.lo
  pub wider : lower.dia ≤ℤ upper.dia

-- the first of these slabs, where there is any, lies on that one
abbrev pub BeginsOn : SlabSize → List SlabSize → Type 0
BeginsOn s [] = Unit
BeginsOn s (t ∷ rest) = LiesOn t s

-- valid slabs from the lowest upwards, each except the lowest on the one before it
abbrev pub IsRising : List SlabSize → Type 0
IsRising [] = Unit
IsRising (s ∷ rest) = IsSlab s × (BeginsOn s rest × IsRising rest)
