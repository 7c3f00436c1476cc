-- What the tests of slabs, cells and marks say, part by part.
use Rattle.std.proofs.Common.{ℕ, ◌≤◌, ◌<◌, List, ℤ, pos, ◌*ℤ◌, ◌≤ℤ◌, ◌<ℤ◌, ◌⊎◌}
use Rattle.std.specs.List.{All, Contains}
use Rattle.space.specs.Vectors.{dot, spread}
use Rattle.space.specs.Sweeps.{SweepOf, axis_at, offset_at}
use Rattle.space.proofs.ReachLemmas.{InReach}
use Rattle.bern_form.specs.Slab.{SlabSize}
use Rattle.bern_form.specs.Cells.{across_list, along_list, u_list}

-- every coefficient is above, or below, 0
abbrev pub AllPositive : List ℤ → Type 0
AllPositive c = All (λ z. pos 0 <ℤ z) c

abbrev pub AllNegative : List ℤ → Type 0
AllNegative c = All (λ z. z <ℤ pos 0) c

-- the slab, its lengths taken times b, holds a place that is given by u, n and w
pub record Covers (s : SlabSize) (b u n w : ℤ) : Type 0 where
  pub forward : pos 0 ≤ℤ u
  pub above : (((b *ℤ s.lo) *ℤ (b *ℤ s.lo)) *ℤ n) ≤ℤ (u *ℤ u)
  pub below : (u *ℤ u) ≤ℤ (((b *ℤ s.hi) *ℤ (b *ℤ s.hi)) *ℤ n)
  pub near : (pos 4 *ℤ w) ≤ℤ (((b *ℤ s.dia) *ℤ (b *ℤ s.dia)) *ℤ n)

-- the slab, its lengths taken times b, holds the offset p from the tip under the axis a
abbrev pub Holds : SlabSize → ℤ → List ℤ → List ℤ → Type 0
Holds s b p a = Covers s b (dot p a) (dot a a) (spread p a)

-- the slab holds the point p at the time a / b of the move
abbrev pub HoldsAt : SlabSize → SweepOf → List ℤ → ℕ → ℕ → Type 0
HoldsAt s m p a b = Holds s (pos b) (offset_at m p (pos a) (pos b)) (axis_at m (pos a) (pos b))

-- the slab is excluded on cell k of S
abbrev pub Excluded : SlabSize → SweepOf → List ℤ → ℕ → ℕ → Type 0
Excluded s m p k S =
    AllNegative (u_list m p k S)
    ⊎ (AllNegative (along_list m p k S s.lo) ⊎ (AllPositive (along_list m p k S s.hi) ⊎ AllPositive (across_list m p k S s.dia)))

-- some of the slabs holds the point at the time a / b
pub record SomeHolds (slabs : List SlabSize) (m : SweepOf) (p : List ℤ) (a b : ℕ) : Type 0 where
  pub slab : SlabSize
  pub among : Contains slabs slab
  pub holds : HoldsAt slab m p a b

-- some of the slabs holds the point at a sample
pub record HeldAtSample (slabs : List SlabSize) (m : SweepOf) (p : List ℤ) (S : ℕ) : Type 0 where
  pub sample : ℕ
  pub within : sample ≤ S
  pub held : SomeHolds slabs m p sample S

-- some of the slabs is not excluded on cell k of S
pub record LeftOn (slabs : List SlabSize) (m : SweepOf) (p : List ℤ) (k S : ℕ) : Type 0 where
  pub slab : SlabSize
  pub among : Contains slabs slab
  pub left : ¬ Excluded slab m p k S

-- some of the slabs is not excluded on some cell of S
pub record LeftOnCell (slabs : List SlabSize) (m : SweepOf) (p : List ℤ) (S : ℕ) : Type 0 where
  pub cell : ℕ
  pub within : cell < S
  pub left : LeftOn slabs m p cell S

-- each of the slabs is excluded on each cell of S
abbrev pub AllExcluded : List SlabSize → SweepOf → List ℤ → ℕ → Type 0
AllExcluded slabs m p S = (slab : SlabSize) (k : ℕ) → Contains slabs slab → k < S → Excluded slab m p k S

-- in reach, and some of the outer slabs left on some cell of S
pub record IsPossible (outer : List SlabSize) (reach : ℤ) (m : SweepOf) (p : List ℤ) (S : ℕ) : Type 0 where
  pub in_reach : InReach reach m.from m.to p
  pub left : LeftOnCell outer m p S
