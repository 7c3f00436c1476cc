-- Moments: the cross product of a point's offset and the axis. Its squared length is the squared distance from the axis times |a|^2, and
-- between two samples, where both are linear, it is a form of degree 2.
use Rattle.std.specs.Prelude.{List, [], ◌∷◌, ℤ, ◌+ℤ◌, ◌*ℤ◌, ◌-ℤ◌}
use Rattle.space.specs.Vectors.{at, dot}

-- of an offset p and an axis a
abbrev pub moment : List ℤ → List ℤ → List ℤ
moment p a =
    (at p 1 *ℤ at a 2 -ℤ at p 2 *ℤ at a 1)
    ∷ (at p 2 *ℤ at a 0 -ℤ at p 0 *ℤ at a 2)
    ∷ (at p 0 *ℤ at a 1 -ℤ at p 1 *ℤ at a 0)
    ∷ []

-- the sum of two vectors
abbrev pub vector_sum : List ℤ → List ℤ → List ℤ
vector_sum x y = (at x 0 +ℤ at y 0) ∷ (at x 1 +ℤ at y 1) ∷ (at x 2 +ℤ at y 2) ∷ []

-- the middle coefficient of the moment, by the offsets p and q and the axes a and c at both ends; the outer ones are those at the ends
abbrev pub middle_moment : List ℤ → List ℤ → List ℤ → List ℤ → List ℤ
middle_moment p q a c = vector_sum (moment p c) (moment q a)

-- the coefficients of the scalar product of two forms of degree 2 whose coefficients are vectors
abbrev pub vector_product : List ℤ → List ℤ → List ℤ → List ℤ → List ℤ → List ℤ → List ℤ
vector_product x0 x1 x2 y0 y1 y2 =
    dot x0 y0
    ∷ (dot x0 y1 +ℤ dot x1 y0)
    ∷ ((dot x0 y2 +ℤ dot x1 y1) +ℤ dot x2 y0)
    ∷ (dot x1 y2 +ℤ dot x2 y1)
    ∷ dot x2 y2
    ∷ []

-- of the moments of two points, with the offsets p and p' and the offsets q and q' at both ends
abbrev pub moment_product : List ℤ → List ℤ → List ℤ → List ℤ → List ℤ → List ℤ → List ℤ
moment_product p p' q q' a c =
    vector_product (moment p a) (middle_moment p p' a c) (moment p' c) (moment q a) (middle_moment q q' a c) (moment q' c)
