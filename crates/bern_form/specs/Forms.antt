-- Coefficient forms: the list c of n + 1 coefficients stands for the sum of c[k] * x^k * y^(n-k), with x for the time t of
-- an interval and y for 1 - t.
use Rattle.std.specs.Prelude.{ℕ, ◌+◌, ◌*◌, ◌^◌, ◌<◌, List, [], ◌∷◌, ℤ, pos, ◌+ℤ◌, ◌*ℤ◌, ◌-ℤ◌, int_lt, unsigned_abs, Bool}
use Rattle.std.specs.List.{list_all}
use Rattle.space.specs.Vectors.{at}

-- what a form of degree 1 stands for
abbrev pub value1 : List ℤ → ℤ → ℤ → ℤ
value1 c x y = at c 0 *ℤ y +ℤ at c 1 *ℤ x

-- what a form of degree 2 stands for
abbrev pub value2 : List ℤ → ℤ → ℤ → ℤ
value2 c x y = at c 0 *ℤ (y *ℤ y) +ℤ at c 1 *ℤ (x *ℤ y) +ℤ at c 2 *ℤ (x *ℤ x)

-- what a form of degree 4 stands for
abbrev pub value4 : List ℤ → ℤ → ℤ → ℤ
value4 c x y =
    at c 0 *ℤ ((y *ℤ y) *ℤ (y *ℤ y)) +ℤ at c 1 *ℤ ((x *ℤ y) *ℤ (y *ℤ y)) +ℤ at c 2 *ℤ ((x *ℤ x) *ℤ (y *ℤ y))
    +ℤ at c 3 *ℤ ((x *ℤ x) *ℤ (x *ℤ y)) +ℤ at c 4 *ℤ ((x *ℤ x) *ℤ (x *ℤ x))

-- x and y stand for the rational place x / (x + y) of the interval from 0 to 1, ends included
abbrev pub IsPlace : ℕ → ℕ → Type 0
IsPlace x y = 0 < x + y

-- the bound that every exact coefficient keeps, so that it fits 128 bits
abbrev pub IsSmall : ℤ → Type 0
IsSmall z = unsigned_abs z < 4 * 10 ^ 37

-- the coefficients of the product of two forms of degree 1
abbrev pub product11 : List ℤ → List ℤ → List ℤ
product11 a b = (at a 0 *ℤ at b 0) ∷ (at a 0 *ℤ at b 1 +ℤ at a 1 *ℤ at b 0) ∷ (at a 1 *ℤ at b 1) ∷ []

-- the coefficients of the product of two forms of degree 2
abbrev pub product22 : List ℤ → List ℤ → List ℤ
product22 a b =
    (at a 0 *ℤ at b 0)
    ∷ (at a 0 *ℤ at b 1 +ℤ at a 1 *ℤ at b 0)
    ∷ ((at a 0 *ℤ at b 2 +ℤ at a 1 *ℤ at b 1) +ℤ at a 2 *ℤ at b 0)
    ∷ (at a 1 *ℤ at b 2 +ℤ at a 2 *ℤ at b 1)
    ∷ (at a 2 *ℤ at b 2)
    ∷ []

-- the coefficients of a form of degree 2 times (x + y)^2, whose own are 1, 2 and 1
abbrev pub lifted : List ℤ → List ℤ
lifted a = product22 a (pos 1 ∷ pos 2 ∷ pos 1 ∷ [])

-- the coefficients of a difference of degree 4
abbrev pub difference4 : List ℤ → List ℤ → List ℤ
difference4 a b = (at a 0 -ℤ at b 0) ∷ (at a 1 -ℤ at b 1) ∷ (at a 2 -ℤ at b 2) ∷ (at a 3 -ℤ at b 3) ∷ (at a 4 -ℤ at b 4) ∷ []

-- the coefficients of a sum of degree 2
abbrev pub sum2 : List ℤ → List ℤ → List ℤ
sum2 a b = (at a 0 +ℤ at b 0) ∷ (at a 1 +ℤ at b 1) ∷ (at a 2 +ℤ at b 2) ∷ []

-- the coefficients of a number times a form
abbrev pub scaled2 : ℤ → List ℤ → List ℤ
scaled2 s a = (s *ℤ at a 0) ∷ (s *ℤ at a 1) ∷ (s *ℤ at a 2) ∷ []

abbrev pub scaled4 : ℤ → List ℤ → List ℤ
scaled4 s a = (s *ℤ at a 0) ∷ (s *ℤ at a 1) ∷ (s *ℤ at a 2) ∷ (s *ℤ at a 3) ∷ (s *ℤ at a 4) ∷ []

-- every coefficient is above, or below, 0
abbrev pub all_positive : List ℤ → Bool
all_positive c = list_all (λ z. int_lt (pos 0) z) c

abbrev pub all_negative : List ℤ → Bool
all_negative c = list_all (λ z. int_lt z (pos 0)) c
