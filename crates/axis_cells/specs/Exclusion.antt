-- The tests of a slab by what a sample and a cell of a point keep.
use Rattle.std.specs.Prelude.{◌≡◌, Bool, not, ◌||◌, List, ℕ, ℤ, pos, ◌+ℤ◌, ◌*ℤ◌, int_le, All}
use Rattle.std.specs.List.{list_any}
use Rattle.space.specs.Sweeps.{SweepOf}
use Rattle.bern_form.specs.Forms.{IsSmall, all_negative, all_positive, difference4, lifted, product22, scaled2}
use Rattle.bern_form.specs.Slab.{SlabSize, covers}
use Rattle.bern_form.specs.Cells.{across_list, along_list, n_list, u_list, w_list}

-- some of the slabs, their lengths taken times the scale, covers the place that is given by u, n and w
abbrev pub covered_by_some : ℤ → ℤ → ℤ → ℤ → List SlabSize → Bool
covered_by_some scale u n w slabs = list_any (λ s. covers s scale u n w) slabs

-- n times the square of a scaled length, raised to degree 4
abbrev pub squared : ℤ → ℤ → List ℤ → List ℤ
squared scale length n = lifted (scaled2 ((scale *ℤ length) *ℤ (scale *ℤ length)) n)

-- The slab is excluded on a cell with these forms: u is below 0 throughout, or u^2 below lo^2 n, or u^2 above hi^2 n, or 4 w
-- above dia^2 n.
abbrev pub excluded_by : ℤ → Bool → List ℤ → List ℤ → List ℤ → SlabSize → Bool
excluded_by scale behind n height width s =
    behind
    || (all_negative (difference4 height (squared scale s.lo n))
    || (all_positive (difference4 height (squared scale s.hi n)) || all_positive (difference4 width (squared scale s.dia n))))

-- some of the slabs is not excluded on a cell with these forms
abbrev pub leaves_some : ℤ → Bool → List ℤ → List ℤ → List ℤ → List SlabSize → Bool
leaves_some scale behind n height width slabs = list_any (λ s. not (excluded_by scale behind n height width s)) slabs

-- these are the forms of cell k of S for the point p
pub record IsCellOf (scale : ℤ) (behind : Bool) (n height width : List ℤ) (m : SweepOf) (p : List ℤ) (k S : ℕ) : Type 0 where
  pub scale_is : scale ≡ pos S
  pub behind_is : behind ≡ all_negative (u_list m p k S)
  pub n_is : n ≡ n_list m k S
  pub height_is : height ≡ product22 (u_list m p k S) (u_list m p k S)
  pub width_is : width ≡ w_list m p k S

-- every coefficient of the four lists of a slab on cell k of S is below 4 * 10^37 in absolute value
pub record CoefficientsAreSmall (s : SlabSize) (m : SweepOf) (p : List ℤ) (k S : ℕ) : Type 0 where
  pub ahead : All IsSmall (u_list m p k S)
  pub low : All IsSmall (along_list m p k S s.lo)
  pub high : All IsSmall (along_list m p k S s.hi)
  pub side : All IsSmall (across_list m p k S s.dia)

-- the slab is no higher and wider together than the reach
abbrev pub fits_in_reach : ℤ → SlabSize → Bool
fits_in_reach reach s = int_le (s.hi +ℤ s.dia) reach
