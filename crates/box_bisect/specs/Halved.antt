-- De Casteljau's halving of a form of degree 2: its coefficients on either half of the interval, each rounded towards zero where it
-- is no whole number.
use Rattle.std.specs.Prelude.{List, [], ◌∷◌, ℤ, pos, ◌+ℤ◌, ◌*ℤ◌, int_div}
use Rattle.space.specs.Vectors.{at}

-- the value in the middle: a quarter of the coefficients' sum
abbrev pub middle_of : List ℤ → ℤ
middle_of c = int_div ((at c 0 +ℤ at c 1) +ℤ at c 2) (pos 4)

abbrev pub first_half : List ℤ → List ℤ
first_half c = at c 0 ∷ int_div (pos 2 *ℤ at c 0 +ℤ at c 1) (pos 2) ∷ middle_of c ∷ []

abbrev pub last_half : List ℤ → List ℤ
last_half c = middle_of c ∷ int_div (pos 2 *ℤ at c 2 +ℤ at c 1) (pos 2) ∷ at c 2 ∷ []
