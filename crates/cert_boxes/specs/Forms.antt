-- The forms of a point of a box between the two samples of its cell, and how large a coefficient of a box can be.
use Rattle.std.specs.Prelude.{◌≡◌, ℕ, ◌*◌, List, ℤ}
use Rattle.space.specs.Sweeps.{SweepOf}
use Rattle.bern_form.specs.Between.{d_between, n_between, u_between}
use Rattle.bern_form.specs.Sizes.{axis_limit, offset_limit}

-- these are the coefficients of u, n and d of the point p between the samples j and k of S
pub record AreEndForms (u n d : List ℤ) (m : SweepOf) (p : List ℤ) (j k S : ℕ) : Type 0 where
  pub u_is : u ≡ u_between m p j k S
  pub n_is : n ≡ n_between m j k S
  pub d_is : d ≡ d_between m p j k S

-- a coefficient of a column of degree 4: 8 (d n - u^2)
abbrev pub column_bound : ℕ
column_bound = 864 * (offset_limit * axis_limit) * (offset_limit * axis_limit)
