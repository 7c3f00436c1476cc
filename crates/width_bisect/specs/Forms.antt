-- The forms of a point by which it is marked: u and n, and the width 4 (d n - u^2), which is four times the squared distance from
-- the axis times n.
use Rattle.std.specs.Prelude.{◌≡◌, ℕ, List, ℤ}
use Rattle.space.specs.Sweeps.{SweepOf}
use Rattle.bern_form.specs.Between.{d_between, n_between, u_between}
use Rattle.box_bisect.specs.SlabTests.{width_of}

-- the coefficients of the width between the samples j and k of S
abbrev pub width_between : SweepOf → List ℤ → ℕ → ℕ → ℕ → List ℤ
width_between m p j k S = width_of (u_between m p j k S) (n_between m j k S) (d_between m p j k S)

-- these are the coefficients of u, of n and of the width of the point p there
pub record AreWidthForms (u n width : List ℤ) (m : SweepOf) (p : List ℤ) (j k S : ℕ) : Type 0 where
  pub u_is : u ≡ u_between m p j k S
  pub n_is : n ≡ n_between m j k S
  pub width_is : width ≡ width_between m p j k S
