-- When a stretch of a move leaves the points between two others out, by the offsets of both and the axis at both ends of the stretch.
use Rattle.std.specs.Prelude.{◌≡◌, ℕ, ◌≤◌, ◌<◌, ◌⊎◌, List, ℤ, pos, ◌+ℤ◌, ◌*ℤ◌, ◌≤ℤ◌, ◌<ℤ◌, All}
use Rattle.space.specs.Sweeps.{SweepOf, axis_at, offset_at}
use Rattle.space.specs.Vectors.{at, dot}
use Rattle.bern_form.specs.Cells.{dot_on_cell, scaled_square}
use Rattle.bern_form.specs.Forms.{lifted}
use Rattle.bern_form.specs.Slab.{SlabSize}
use Rattle.box_bisect.specs.Between.{IsOutWithin}
use Rattle.moment_forms.specs.Moments.{moment_product}

-- a point is behind the tip throughout: the coefficients of u are below 0
abbrev pub IsBehind : List ℤ → List ℤ → List ℤ → List ℤ → Type 0
IsBehind p p' a c = (dot p a <ℤ pos 0) × ((dot p c +ℤ dot p' a) <ℤ pos 0) × (dot p' c <ℤ pos 0)

-- four times each of three numbers is above f r, which isn't below 0 where f isn't
pub record AreAbove (f r x y z : ℤ) : Type 0 where
  pub not_below : pos 0 ≤ℤ r
  pub first : (f *ℤ r) <ℤ (pos 4 *ℤ x)
  pub between : (f *ℤ r) <ℤ (pos 4 *ℤ y)
  pub last : (f *ℤ r) <ℤ (pos 4 *ℤ z)

-- the points are farther from the axis throughout than half of a diameter whose scaled square is f
abbrev pub AreBeside : ℤ → List ℤ → List ℤ → List ℤ → List ℤ → List ℤ → List ℤ → Type 0
AreBeside f p p' q q' a c =
    (i : ℕ) → i < 5 → AreAbove f (at (lifted (dot_on_cell a c a c)) i)
    (at (moment_product p p' p p' a c) i) (at (moment_product p p' q q' a c) i) (at (moment_product q q' q q' a c) i)

abbrev pub AreMissed : ℤ → List ℤ → List ℤ → List ℤ → List ℤ → List ℤ → List ℤ → Type 0
AreMissed f p p' q q' a c = (IsBehind p p' a c × IsBehind q q' a c) ⊎ AreBeside f p p' q q' a c

-- at one sample both points are behind the tip, by their offsets and the axis
abbrev pub AreBehindAt : List ℤ → List ℤ → List ℤ → Type 0
AreBehindAt p q a = (dot p a <ℤ pos 0) × (dot q a <ℤ pos 0)

-- and they, and all points between them, are farther from the axis there than half of a diameter whose scaled square is f, by their moments
abbrev pub AreBesideAt : ℤ → List ℤ → List ℤ → List ℤ → Type 0
AreBesideAt f x y a = AreAbove f (dot a a) (dot x x) (dot x y) (dot y y)

-- a slab is no wider than a diameter
pub record IsNoWider (most : ℤ) (s : SlabSize) : Type 0 where
  pub thick : pos 0 ≤ℤ s.dia
  pub narrow : s.dia ≤ℤ most

-- none of the slabs is left on a cell from j up to k for a point of a line from one index to another, both included
abbrev pub AreOut : List SlabSize → SweepOf → (ℕ → List ℤ) → ℕ → ℕ → ℕ → ℕ → ℕ → Type 0
AreOut slabs m point S from to j k = (l : ℕ) → from ≤ l → l ≤ to → IsOutWithin slabs m (point l) j k S

-- nor of any slabs that are no wider than a diameter whose scaled square is f
abbrev pub AreOutBeside : ℤ → SweepOf → (ℕ → List ℤ) → ℕ → ℕ → ℕ → ℕ → ℕ → Type 0
AreOutBeside f m point S from to j k =
    (slabs : List SlabSize) (most : ℤ) → f ≡ scaled_square S most → All (IsNoWider most) slabs → AreOut slabs m point S from to j k

-- these are the offsets of two points of a line at a sample, and the axis
pub record IsPairAt (m : SweepOf) (point : ℕ → List ℤ) (from to k S : ℕ) (p q a : List ℤ) : Type 0 where
  pub first : p ≡ offset_at m (point from) (pos k) (pos S)
  pub last : q ≡ offset_at m (point to) (pos k) (pos S)
  pub axis : a ≡ axis_at m (pos k) (pos S)
