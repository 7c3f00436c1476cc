-- How far from the axis a point is on a whole move: the form 4 (d n - u^2), which is four times the squared distance from the
-- axis times n. Along a line it is a quadratic in the number of steps, coefficient by coefficient.
use Rattle.std.specs.Prelude.{◌≡◌, ℕ, List, [], ◌∷◌, ℤ, pos, ◌+ℤ◌, ◌*ℤ◌}
use Rattle.space.specs.Sweeps.{SweepOf, axis_at}
use Rattle.space.specs.Vectors.{at}
use Rattle.bern_form.specs.Between.{d_between, n_between, u_between}
use Rattle.bern_form.specs.Forms.{difference4, product22, scaled4}

-- the coefficients of a multiple of d n - u v
abbrev pub spread_form : ℤ → List ℤ → List ℤ → List ℤ → List ℤ → List ℤ
spread_form by d n u v = scaled4 by (difference4 (product22 d n) (product22 u v))

-- the width form of the point p on a move of S cells
abbrev pub whole_width : SweepOf → List ℤ → ℕ → List ℤ
whole_width m p S = spread_form (pos 4) (d_between m p 0 S S) (n_between m 0 S S) (u_between m p 0 S S) (u_between m p 0 S S)

-- a + b l, for three numbers
abbrev pub moved3 : List ℤ → List ℤ → ℤ → List ℤ
moved3 a b l = (at a 0 +ℤ l *ℤ at b 0) ∷ (at a 1 +ℤ l *ℤ at b 1) ∷ (at a 2 +ℤ l *ℤ at b 2) ∷ []

-- for five numbers
abbrev pub moved5 : List ℤ → List ℤ → ℤ → List ℤ
moved5 a b l =
    (at a 0 +ℤ l *ℤ at b 0)
    ∷ (at a 1 +ℤ l *ℤ at b 1)
    ∷ (at a 2 +ℤ l *ℤ at b 2)
    ∷ (at a 3 +ℤ l *ℤ at b 3)
    ∷ (at a 4 +ℤ l *ℤ at b 4)
    ∷ []

-- a + b l + c l^2
abbrev pub quadratic : ℤ → ℤ → ℤ → ℤ → ℤ
quadratic a b c l = a +ℤ l *ℤ (b +ℤ l *ℤ c)

-- of degree 4, coefficient by coefficient
abbrev pub quadratics : List ℤ → List ℤ → List ℤ → ℤ → List ℤ
quadratics a b c l =
    quadratic (at a 0) (at b 0) (at c 0) l
    ∷ quadratic (at a 1) (at b 1) (at c 1) l
    ∷ quadratic (at a 2) (at b 2) (at c 2) l
    ∷ quadratic (at a 3) (at b 3) (at c 3) l
    ∷ quadratic (at a 4) (at b 4) (at c 4) l
    ∷ []

-- the axis times S at both ends of a move of S cells, and n
pub record IsAxisForms (first last n : List ℤ) (m : SweepOf) (S : ℕ) : Type 0 where
  pub first_is : first ≡ axis_at m (pos 0) (pos S)
  pub last_is : last ≡ axis_at m (pos S) (pos S)
  pub n_is : n ≡ n_between m 0 S S
