-- The tests of a slab by what is kept of a point at a sample and between two samples.
use Rattle.std.specs.Prelude.{◌≡◌, Bool, true, false, not, ◌||◌, List, length, get_or, ℕ, ℤ, ◌+◌, ◌≤◌, ◌<◌, pos, ◌*ℤ◌, ◌-ℤ◌, int_le}
use Rattle.std.specs.List.{list_any}
use Rattle.space.specs.Vectors.{at}
use Rattle.bern_form.specs.Forms.{all_negative, all_positive, difference4, product22, scaled4}
use Rattle.bern_form.specs.Between.{is_excluded_with}
use Rattle.bern_form.specs.Cells.{scaled_square}
use Rattle.bern_form.specs.Slab.{SlabSize, covers}

-- some of the slabs, their lengths taken times the scale, covers the place that is given by u, n and w
abbrev pub some_covers : ℤ → ℤ → ℤ → ℤ → List SlabSize → Bool
some_covers scale u n w slabs = list_any (λ s. covers s scale u n w) slabs

-- the place is as high as the slab begins, where it is ahead of the tip
abbrev pub is_reached : ℤ → ℤ → ℤ → SlabSize → Bool
is_reached scale u n s = int_le (((scale *ℤ s.lo) *ℤ (scale *ℤ s.lo)) *ℤ n) (u *ℤ u)

-- the coefficients of 4 (d n - u^2), which is four times the squared distance from the axis times n
abbrev pub width_of : List ℤ → List ℤ → List ℤ → List ℤ
width_of u n d = scaled4 (pos 4) (difference4 (product22 d n) (product22 u u))

-- by these coefficients of degree 4 the point is below the slab throughout: u^2 is below lo^2 n; `raised` is n raised to degree 4
abbrev pub is_below_by : ℕ → List ℤ → List ℤ → SlabSize → Bool
is_below_by S raised height s = all_negative (difference4 height (scaled4 (scaled_square S s.lo) raised))

-- it is above the slab throughout, or beside it: u^2 is above hi^2 n, or 4 w above dia^2 n
abbrev pub is_past_by : ℕ → List ℤ → List ℤ → List ℤ → SlabSize → Bool
is_past_by S raised height width s =
    all_positive (difference4 height (scaled4 (scaled_square S s.hi) raised))
    || all_positive (difference4 width (scaled4 (scaled_square S s.dia) raised))

-- the slab is excluded: u is below 0 throughout, or the point is below the slab, above it or beside it
abbrev pub is_excluded_by : ℕ → Bool → List ℤ → List ℤ → List ℤ → SlabSize → Bool
is_excluded_by S behind raised height width s = behind || (is_below_by S raised height s || is_past_by S raised height width s)

-- some of the slabs is not
abbrev pub is_unexcluded_by : ℕ → Bool → List ℤ → List ℤ → List ℤ → List SlabSize → Bool
is_unexcluded_by S behind raised height width slabs = list_any (λ s. not (is_excluded_by S behind raised height width s)) slabs

-- some of the slabs is not excluded between two samples, by the coefficients of u, n and d there
abbrev pub is_unexcluded_with : List SlabSize → ℕ → List ℤ → List ℤ → List ℤ → Bool
is_unexcluded_with slabs S u n d = list_any (λ s. not (is_excluded_with s S u n d)) slabs

-- some of the slabs holds the point at an end of a form's interval, by the coefficients of u, n and d with the number i
abbrev pub is_held_with : ℕ → List SlabSize → ℕ → List ℤ → List ℤ → List ℤ → Bool
is_held_with i slabs S u n d = some_covers (pos S) (at u i) (at n i) (at d i *ℤ at n i -ℤ at u i *ℤ at u i) slabs

-- what stands for a slab that isn't in a list
abbrev pub no_slab : SlabSize
no_slab = record { lo = pos 0; hi = pos 0; dia = pos 0 }

-- a test of slabs turns between the numbers low and high: the slab before low passes it, and the slab at high doesn't
pub record TurnsBetween (test : SlabSize → Bool) (slabs : List SlabSize) (low high : ℕ) : Type 0 where
  pub within : high ≤ length slabs
  pub before : (i : ℕ) → low ≡ i + 1 → test (get_or slabs i no_slab) ≡ true
  pub after : high < length slabs → test (get_or slabs high no_slab) ≡ false

-- it turns at j
abbrev pub TurnsAt : (SlabSize → Bool) → List SlabSize → ℕ → Type 0
TurnsAt test slabs j = TurnsBetween test slabs j j
