-- De Casteljau's halving of forms of degree 2 and 4: their coefficients on either half of the interval, each rounded down where it is
-- no whole number.
use Rattle.std.specs.Prelude.{List, [], ◌∷◌, ℤ, pos, ◌+ℤ◌, ◌*ℤ◌}
use Rattle.std.specs.Int.{int_shr}
use Rattle.space.specs.Vectors.{at}

-- of degree 2: the second coefficient of the first half, and the value in the middle
abbrev pub second2 : ℤ → ℤ → ℤ
second2 a b = int_shr (pos 2 *ℤ a +ℤ b) 1

abbrev pub middle2 : ℤ → ℤ → ℤ → ℤ
middle2 a b c = int_shr ((a +ℤ b) +ℤ c) 2

-- The last half is the first one read backwards.
abbrev pub first2 : List ℤ → List ℤ
first2 c = at c 0 ∷ second2 (at c 0) (at c 1) ∷ middle2 (at c 0) (at c 1) (at c 2) ∷ []

abbrev pub last2 : List ℤ → List ℤ
last2 c = middle2 (at c 0) (at c 1) (at c 2) ∷ second2 (at c 2) (at c 1) ∷ at c 2 ∷ []

-- of degree 4: the second, third and fourth coefficient of the first half, and the value in the middle
abbrev pub second4 : ℤ → ℤ → ℤ
second4 a b = int_shr (pos 4 *ℤ a +ℤ b) 1

abbrev pub third4 : ℤ → ℤ → ℤ → ℤ
third4 a b c = int_shr ((pos 6 *ℤ a +ℤ pos 3 *ℤ b) +ℤ c) 2

abbrev pub fourth4 : ℤ → ℤ → ℤ → ℤ → ℤ
fourth4 a b c d = int_shr (((pos 4 *ℤ a +ℤ pos 3 *ℤ b) +ℤ pos 2 *ℤ c) +ℤ d) 3

abbrev pub middle4 : ℤ → ℤ → ℤ → ℤ → ℤ → ℤ
middle4 a b c d e = int_shr ((((a +ℤ b) +ℤ c) +ℤ d) +ℤ e) 4

abbrev pub first4 : List ℤ → List ℤ
first4 c =
    at c 0
    ∷ second4 (at c 0) (at c 1)
    ∷ third4 (at c 0) (at c 1) (at c 2)
    ∷ fourth4 (at c 0) (at c 1) (at c 2) (at c 3)
    ∷ middle4 (at c 0) (at c 1) (at c 2) (at c 3) (at c 4)
    ∷ []

abbrev pub last4 : List ℤ → List ℤ
last4 c =
    middle4 (at c 0) (at c 1) (at c 2) (at c 3) (at c 4)
    ∷ fourth4 (at c 4) (at c 3) (at c 2) (at c 1)
    ∷ third4 (at c 4) (at c 3) (at c 2)
    ∷ second4 (at c 4) (at c 3)
    ∷ at c 4
    ∷ []
