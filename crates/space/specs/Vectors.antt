-- Vectors as lists of three components, along x, y and z.
use Rattle.std.specs.Prelude.{ℕ, List, ℤ, pos, ◌+ℤ◌, ◌*ℤ◌, ◌-ℤ◌, int_lt, Bool, ◌&&◌, [], ◌∷◌}
use Rattle.std.specs.List.{slice_index_or}
use Rattle.std.specs.Ordering.{int_eq}

-- the number at a place of a list: the component of a vector along an axis, or a coefficient
abbrev pub at : List ℤ → ℕ → ℤ
at c k = slice_index_or c k (pos 0)

-- the scalar product of two vectors
abbrev pub dot : List ℤ → List ℤ → ℤ
dot p a = (at p 0 *ℤ at a 0 +ℤ at p 1 *ℤ at a 1) +ℤ at p 2 *ℤ at a 2

-- the squared distance of the offset p from the line of the axis a, times the squared length of a
abbrev pub spread : List ℤ → List ℤ → ℤ
spread p a = dot p p *ℤ dot a a -ℤ dot p a *ℤ dot p a

-- all components are zero
abbrev pub is_zero : List ℤ → Bool
is_zero v = int_eq (at v 0) (pos 0) && (int_eq (at v 1) (pos 0) && int_eq (at v 2) (pos 0))

-- two vectors of opposite directions: their cross product is zero and their scalar product is negative
abbrev pub are_opposite : List ℤ → List ℤ → Bool
are_opposite f t =
    int_eq (at f 1 *ℤ at t 2) (at f 2 *ℤ at t 1)
    && (int_eq (at f 2 *ℤ at t 0) (at f 0 *ℤ at t 2)
    && (int_eq (at f 0 *ℤ at t 1) (at f 1 *ℤ at t 0)
    && int_lt (dot f t) (pos 0)))

-- the sum of two vectors
abbrev pub sum : List ℤ → List ℤ → List ℤ
sum p q = (at p 0 +ℤ at q 0) ∷ (at p 1 +ℤ at q 1) ∷ (at p 2 +ℤ at q 2) ∷ []

-- the first less the second
abbrev pub difference : List ℤ → List ℤ → List ℤ
difference p q = (at p 0 -ℤ at q 0) ∷ (at p 1 -ℤ at q 1) ∷ (at p 2 -ℤ at q 2) ∷ []

-- the cross product of two vectors
abbrev pub cross : List ℤ → List ℤ → List ℤ
cross p a =
    (at p 1 *ℤ at a 2 -ℤ at p 2 *ℤ at a 1)
    ∷ (at p 2 *ℤ at a 0 -ℤ at p 0 *ℤ at a 2)
    ∷ (at p 0 *ℤ at a 1 -ℤ at p 1 *ℤ at a 0)
    ∷ []
