-- The part of a move between two samples of a scale S, the times j / S and k / S. The point's offset and the axis are linear
-- there, so u = p.a, n = |a|^2 and d = |p|^2 are forms of degree 2, and the cell rule applies to it. Between the samples k
-- and k + 1 it is cell k.
use Rattle.std.specs.Prelude.{ℕ, List, ℤ, pos, Bool, not, ◌||◌}
use Rattle.std.specs.List.{list_any}
use Rattle.space.specs.Sweeps.{SweepOf, axis_at, offset_at}
use Rattle.bern_form.specs.Forms.{all_negative, all_positive, difference4, lifted, product22, scaled2, scaled4}
use Rattle.bern_form.specs.Slab.{SlabSize}
use Rattle.bern_form.specs.Cells.{dot_on_cell, scaled_square}

-- the coefficients of u, of n and of d between the samples j and k
abbrev pub u_between : SweepOf → List ℤ → ℕ → ℕ → ℕ → List ℤ
u_between m p j k S =
    dot_on_cell (offset_at m p (pos j) (pos S)) (offset_at m p (pos k) (pos S)) (axis_at m (pos j) (pos S)) (axis_at m (pos k) (pos S))

abbrev pub n_between : SweepOf → ℕ → ℕ → ℕ → List ℤ
n_between m j k S =
    dot_on_cell (axis_at m (pos j) (pos S)) (axis_at m (pos k) (pos S)) (axis_at m (pos j) (pos S)) (axis_at m (pos k) (pos S))

abbrev pub d_between : SweepOf → List ℤ → ℕ → ℕ → ℕ → List ℤ
d_between m p j k S =
    let first = offset_at m p (pos j) (pos S) in
    let last = offset_at m p (pos k) (pos S) in
    dot_on_cell first last first last

-- the coefficients of u^2 - f n and of 4 (d n - u^2) - f n
abbrev pub height_less : ℤ → List ℤ → List ℤ → List ℤ
height_less f u n = difference4 (product22 u u) (lifted (scaled2 f n))

abbrev pub width_less : ℤ → List ℤ → List ℤ → List ℤ → List ℤ
width_less f u n d = difference4 (scaled4 (pos 4) (difference4 (product22 d n) (product22 u u))) (lifted (scaled2 f n))

-- the cell rule by the coefficients of u, n and d
abbrev pub is_excluded_with : SlabSize → ℕ → List ℤ → List ℤ → List ℤ → Bool
is_excluded_with s S u n d =
    all_negative u
    || (all_negative (height_less (scaled_square S s.lo) u n)
    || (all_positive (height_less (scaled_square S s.hi) u n) || all_positive (width_less (scaled_square S s.dia) u n d)))

-- the slab is excluded between the samples j and k
abbrev pub is_excluded_between : SlabSize → SweepOf → List ℤ → ℕ → ℕ → ℕ → Bool
is_excluded_between s m p j k S = is_excluded_with s S (u_between m p j k S) (n_between m j k S) (d_between m p j k S)

-- some of the slabs is not excluded between the samples j and k
abbrev pub is_unexcluded_between : List SlabSize → SweepOf → List ℤ → ℕ → ℕ → ℕ → Bool
is_unexcluded_between slabs m p j k S = list_any (λ s. not (is_excluded_between s m p j k S)) slabs
