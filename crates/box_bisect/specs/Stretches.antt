-- A stretch of a move: the part between two samples, by the forms of a point there.
use Rattle.std.specs.Prelude.{◌≡◌, ℕ, List, ℤ}
use Rattle.space.specs.Sweeps.{SweepOf}
use Rattle.bern_form.specs.Between.{d_between, n_between, u_between}

-- these are the coefficients of u, n and d of the point p between the samples j and k of S
pub record AreFormsBetween (u n d : List ℤ) (m : SweepOf) (p : List ℤ) (j k S : ℕ) : Type 0 where
  pub u_is : u ≡ u_between m p j k S
  pub n_is : n ≡ n_between m j k S
  pub d_is : d ≡ d_between m p j k S
