-- The inner and the outer stack of slabs of a cutter.
use Rattle.std.specs.Prelude.{◌≡◌, ◌<◌, ℕ, ◌+◌, ◌*◌, ◌-◌, ◌/◌, ◌==◌, pos, List, [], ◌∷◌, ◌++◌, if◌then◌else◌, int_lt, Bool, map}
use Rattle.std.specs.List.{filter, range_with_len}
use Rattle.space.specs.Flanks.{least_widening, most_widening}
use Rattle.bern_form.specs.Roots.{ceil_root, floor_root}
use Rattle.bern_form.specs.Slab.{SlabSize}
use Rattle.cutter_slabs.specs.Cutter.{CutterSize, IsCutter, flat_of, top_diameter}

-- the j-th of the n + 1 bounds of the slabs of a rounded corner: r (j / n)^2, rounded down
abbrev pub bound_of : ℕ → ℕ → ℕ → ℕ
bound_of r n j = r * (j * j) / (n * n)

-- the j-th of the n + 1 bounds of the slabs of a cone: h j / n, rounded down
abbrev pub level_of : ℕ → ℕ → ℕ → ℕ
level_of h n j = h * j / n

-- a slab of these heights and this diameter
abbrev pub slab_of : ℕ → ℕ → ℕ → SlabSize
slab_of lo hi dia = record { lo = pos lo; hi = pos hi; dia = pos dia }

-- the inner slab of the corner between two heights: the profile at the lower height, rounded down
abbrev pub inner_slab : CutterSize → ℕ → ℕ → SlabSize
inner_slab c lo hi = slab_of lo hi (flat_of c + 2 * floor_root (2 * c.r * lo - lo * lo))

-- the outer slab of the corner between two heights: the profile at the upper height, rounded up
abbrev pub outer_slab : CutterSize → ℕ → ℕ → SlabSize
outer_slab c lo hi = slab_of lo hi (flat_of c + 2 * ceil_root (2 * c.r * hi - hi * hi))

-- the inner slab of a cone between two heights: its diameter at the lower height, by the lower tangent, rounded down
abbrev pub inner_cone_slab : CutterSize → ℕ → ℕ → SlabSize
inner_cone_slab c lo hi = slab_of lo hi (c.d + 2 * least_widening c.flank lo)

-- the outer slab of a cone between two heights: its diameter at the upper height, by the upper tangent, rounded up
abbrev pub outer_cone_slab : CutterSize → ℕ → ℕ → SlabSize
outer_cone_slab c lo hi = slab_of lo hi (c.d + 2 * most_widening c.flank hi)

-- a slab has a height
abbrev pub has_height : SlabSize → Bool
has_height s = int_lt s.lo s.hi

-- the slabs between neighbours of the n + 1 bounds z, without those of no height
abbrev pub slabs_between : (ℕ → ℕ → SlabSize) → (ℕ → ℕ) → ℕ → List SlabSize
slabs_between slab z n = filter has_height (map (λ j. slab (z j) (z (j + 1))) (range_with_len 0 n))

-- the slab above the corner, up to h with the full diameter: it begins at r, or at the base, since one of them is 0
abbrev pub top_slab : CutterSize → SlabSize
top_slab c = slab_of (c.r + c.base) c.h c.d

-- the stacks of a cutter for n: under an upright flank the slabs of the corner and the top slab, else the slabs of the cone
abbrev pub inner_stack : CutterSize → ℕ → List SlabSize
inner_stack c n =
    if c.flank == 0 then slabs_between (inner_slab c) (bound_of c.r n) n ++ top_slab c ∷ []
    else slabs_between (inner_cone_slab c) (level_of c.h n) n

abbrev pub outer_stack : CutterSize → ℕ → List SlabSize
outer_stack c n =
    if c.flank == 0 then slabs_between (outer_slab c) (bound_of c.r n) n ++ top_slab c ∷ []
    else slabs_between (outer_cone_slab c) (level_of c.h n) n

-- how far from the tip's path a point that the cutter holds can be along any axis: its height and its diameter at the top
abbrev pub reach_of : CutterSize → ℕ
reach_of c = c.h + top_diameter c

-- what a pair of stacks is: a cutter, and the number n of its slabs
pub record StacksOf : Type 0 where
  pub cutter : CutterSize
  pub slabs : ℕ

-- two lists of slabs are the stacks of a valid cutter for a number above 0
pub record AreStacks (c : CutterSize) (n : ℕ) (inner outer : List SlabSize) : Type 0 where
  pub valid : IsCutter c
  pub some : 0 < n
  pub inner_is : inner ≡ inner_stack c n
  pub outer_is : outer ≡ outer_stack c n
