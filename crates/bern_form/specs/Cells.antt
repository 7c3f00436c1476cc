-- Time cells: cell k of S is the part of a move from the time k / S to the time (k + 1) / S, where the point's offset and
-- the axis are linear between their values at its ends. So u = p.a, N = |a|^2 and D = |p|^2 are forms of degree 2 there.
use Rattle.std.specs.Prelude.{ℕ, ◌+◌, ◌*◌, ◌≤◌, ◌<◌, List, [], ◌∷◌, ℤ, pos, ◌+ℤ◌, ◌*ℤ◌, Bool, ◌||◌}
use Rattle.bern_form.specs.Forms.{all_negative, all_positive, product11, product22, lifted, sum2, scaled2, scaled4, difference4}
use Rattle.space.specs.Vectors.{at}
use Rattle.space.specs.Sweeps.{SweepOf, offset_at, axis_at}
use Rattle.bern_form.specs.Slab.{SlabSize}

-- the time a / b lies in cell k of S, ends included
pub record IsInCell (k S a b : ℕ) : Type 0 where
  pub denominator : 0 < b
  pub after : k * b ≤ a * S
  pub before : a * S ≤ (k + 1) * b

-- one component of a vector as a form of degree 1, from the vector's values at both ends of the cell
abbrev pub ends : List ℤ → List ℤ → ℕ → List ℤ
ends first last i = at first i ∷ at last i ∷ []

-- the scalar product of two vectors that are linear on the cell, from their values p, a at its first end and q, c at its last
abbrev pub dot_on_cell : List ℤ → List ℤ → List ℤ → List ℤ → List ℤ
dot_on_cell p q a c =
    let x = product11 (ends p q 0) (ends a c 0) in
    let y = product11 (ends p q 1) (ends a c 1) in
    sum2 (sum2 x y) (product11 (ends p q 2) (ends a c 2))

-- the point's offset and the axis, times S, at both ends of cell k
abbrev pub start_offset : SweepOf → List ℤ → ℕ → ℕ → List ℤ
start_offset m p k S = offset_at m p (pos k) (pos S)

abbrev pub end_offset : SweepOf → List ℤ → ℕ → ℕ → List ℤ
end_offset m p k S = offset_at m p (pos k +ℤ pos 1) (pos S)

abbrev pub start_axis : SweepOf → ℕ → ℕ → List ℤ
start_axis m k S = axis_at m (pos k) (pos S)

abbrev pub end_axis : SweepOf → ℕ → ℕ → List ℤ
end_axis m k S = axis_at m (pos k +ℤ pos 1) (pos S)

-- the coefficients of u, of N and of D on cell k
abbrev pub u_list : SweepOf → List ℤ → ℕ → ℕ → List ℤ
u_list m p k S = dot_on_cell (start_offset m p k S) (end_offset m p k S) (start_axis m k S) (end_axis m k S)

abbrev pub n_list : SweepOf → ℕ → ℕ → List ℤ
n_list m k S = dot_on_cell (start_axis m k S) (end_axis m k S) (start_axis m k S) (end_axis m k S)

abbrev pub d_list : SweepOf → List ℤ → ℕ → ℕ → List ℤ
d_list m p k S = dot_on_cell (start_offset m p k S) (end_offset m p k S) (start_offset m p k S) (end_offset m p k S)

-- the square of a length times S
abbrev pub scaled_square : ℕ → ℤ → ℤ
scaled_square S z = (pos S *ℤ z) *ℤ (pos S *ℤ z)

-- the coefficients of u^2 - z^2 N on cell k, the length z taken times S
abbrev pub along_list : SweepOf → List ℤ → ℕ → ℕ → ℤ → List ℤ
along_list m p k S z = difference4 (product22 (u_list m p k S) (u_list m p k S)) (lifted (scaled2 (scaled_square S z) (n_list m k S)))

-- the coefficients of 4 W on cell k
abbrev pub w_list : SweepOf → List ℤ → ℕ → ℕ → List ℤ
w_list m p k S = scaled4 (pos 4) (difference4 (product22 (d_list m p k S) (n_list m k S)) (product22 (u_list m p k S) (u_list m p k S)))

-- the coefficients of 4 W - dia^2 N on cell k, the length dia taken times S
abbrev pub across_list : SweepOf → List ℤ → ℕ → ℕ → ℤ → List ℤ
across_list m p k S dia = difference4 (w_list m p k S) (lifted (scaled2 (scaled_square S dia) (n_list m k S)))

-- The cell rule: the slab is excluded on cell k of S. There the point is behind the tip throughout, or below lo throughout,
-- or above hi throughout, or beside the slab throughout, each by a strict common sign of the coefficients.
abbrev pub is_excluded : SlabSize → SweepOf → List ℤ → ℕ → ℕ → Bool
is_excluded s m p k S =
    all_negative (u_list m p k S)
    || (all_negative (along_list m p k S s.lo) || (all_positive (along_list m p k S s.hi) || all_positive (across_list m p k S s.dia)))
