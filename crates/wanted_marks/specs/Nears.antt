-- What is kept of the inner slab at a point's height.
use Rattle.std.specs.Prelude.{◌≡◌, ℕ, ◌^◌, ◌<◌, ◌⊎◌, List, length, get_or, ℤ}
use Rattle.bern_form.specs.Slab.{SlabSize}
use Rattle.box_bisect.specs.SlabTests.{no_slab}
use Rattle.cutter_slabs.specs.Stacks.{inner_stack}
use Rattle.width_bisect.specs.Bounds.{bounds_of, no_bounds}
use Rattle.width_bisect.specs.declared.bounds.Bounds.{Bounds}
use Rattle.wanted_marks.specs.declared.near.Near.{Near}
use Rattle.wanted_marks.specs.Rays.{MoveOf}
use Rattle.wanted_marks.specs.Samples.{sample_n}

-- the bounds are those of one of the slabs, or those that no point meets
pub record AreBoundsIn (b : Bounds) (S : ℕ) (n : ℤ) (slabs : List SlabSize) : Type 0 where
  pub either : (b ≡ no_bounds) ⊎ ((i : ℕ) × (i < length slabs) × (b ≡ bounds_of S n (get_or slabs i no_slab)))

-- of one of the inner slabs, at the sample k of the move
abbrev pub AreInnerBounds : Bounds → MoveOf → ℕ → Type 0
AreInnerBounds b v k = AreBoundsIn b (2 ^ v.depth) (sample_n v k) (inner_stack v.cutter v.slabs)

-- at the last sample
abbrev pub IsNear : Near → MoveOf → Type 0
IsNear near v = AreInnerBounds near.bounds v (2 ^ v.depth)
