-- Coefficient grids: forms in time whose coefficients are forms along a line. Row k of the grid c has the coefficients c[k][m], and
-- c stands for the sum of c[k][m] * x^k * y^(n-k) * v^m * w^(q-m), with x for the time t and y for 1 - t, v for the place s between
-- two points of the line and w for 1 - s.
use Rattle.std.specs.Prelude.{ℕ, List, [], ◌∷◌, ℤ, Bool}
use Rattle.std.specs.List.{list_all, slice_index_or}
use Rattle.space.specs.Vectors.{at}
use Rattle.bern_form.specs.Forms.{all_negative, all_positive, value1, value2, value4}

-- a row of a grid
abbrev pub row : List (List ℤ) → ℕ → List ℤ
row c k = slice_index_or c k []

-- what a grid of degree 2 in time and 1 along the line stands for
abbrev pub value21 : List (List ℤ) → ℤ → ℤ → ℤ → ℤ → ℤ
value21 c x y v w = value2 (value1 (row c 0) v w ∷ value1 (row c 1) v w ∷ value1 (row c 2) v w ∷ []) x y

-- what a grid of degree 4 in time and 2 along the line stands for
abbrev pub value42 : List (List ℤ) → ℤ → ℤ → ℤ → ℤ → ℤ
value42 c x y v w =
    value4 (value2 (row c 0) v w ∷ value2 (row c 1) v w ∷ value2 (row c 2) v w ∷ value2 (row c 3) v w ∷ value2 (row c 4) v w ∷ []) x y

-- every coefficient is above, or below, 0
abbrev pub rows_positive : List (List ℤ) → Bool
rows_positive c = list_all all_positive c

abbrev pub rows_negative : List (List ℤ) → Bool
rows_negative c = list_all all_negative c

-- the grid of these columns: coefficients of degree 2 in time at the places 0 and 1 of the line
abbrev pub columns21 : List ℤ → List ℤ → List (List ℤ)
columns21 a b = (at a 0 ∷ at b 0 ∷ []) ∷ (at a 1 ∷ at b 1 ∷ []) ∷ (at a 2 ∷ at b 2 ∷ []) ∷ []

-- and coefficients of degree 4 in time, with a column between those two
abbrev pub columns42 : List ℤ → List ℤ → List ℤ → List (List ℤ)
columns42 a b c =
    (at a 0 ∷ at b 0 ∷ at c 0 ∷ [])
    ∷ (at a 1 ∷ at b 1 ∷ at c 1 ∷ [])
    ∷ (at a 2 ∷ at b 2 ∷ at c 2 ∷ [])
    ∷ (at a 3 ∷ at b 3 ∷ at c 3 ∷ [])
    ∷ (at a 4 ∷ at b 4 ∷ at c 4 ∷ [])
    ∷ []
