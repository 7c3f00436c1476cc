-- The rule of a box: in time the part of a move from the sample j to the sample k of a scale S, along a ray its points from p to q. The
-- offset from the tip is linear in both. So u is a grid of degree 2 in time and 1 along the ray, and the quantities that the cell rule
-- compares are grids of degree 4 and 2.
use Rattle.std.specs.Prelude.{ℕ, zero, suc, ◌+◌, ◌-◌, ◌/◌, ◌^◌, ◌≤◌, ◌<◌, List, ℤ, pos, Bool, not, ◌||◌}
use Rattle.std.specs.Prelude.{if◌then◌else◌}
use Rattle.std.specs.List.{list_any}
use Rattle.space.specs.Sweeps.{SweepOf, offset_at}
use Rattle.bern_form.specs.Forms.{difference4, lifted, product22, scaled4}
use Rattle.bern_form.specs.Grids.{columns21, columns42, rows_negative, rows_positive}
use Rattle.bern_form.specs.Slab.{SlabSize}
use Rattle.bern_form.specs.Cells.{dot_on_cell, scaled_square}
use Rattle.bern_form.specs.Between.{d_between, n_between, u_between}

-- the coefficients of the scalar product of the offsets of two points
abbrev pub product_between : SweepOf → List ℤ → List ℤ → ℕ → ℕ → ℕ → List ℤ
product_between m p q j k S =
    let first = offset_at m p (pos j) (pos S) in
    let last = offset_at m p (pos k) (pos S) in
    dot_on_cell first last (offset_at m q (pos j) (pos S)) (offset_at m q (pos k) (pos S))

-- The grid with the columns a, b and c less f times what has the coefficients r in time and is the same all along the ray. The
-- columns of that are r, 2 r and r.
abbrev pub grid_less : List ℤ → ℤ → List ℤ → List ℤ → List ℤ → List (List ℤ)
grid_less r f a b c =
    columns42 (difference4 a (scaled4 f r)) (difference4 b (scaled4 (pos 2) (scaled4 f r))) (difference4 c (scaled4 f r))

-- the columns of u^2, by the coefficients u and v of u at both points
abbrev pub height_column : ℤ → List ℤ → List ℤ → List ℤ
height_column times u v = scaled4 times (product22 u v)

-- the columns of 4 (d n - u^2), by those of d and u
abbrev pub width_column : ℤ → List ℤ → List ℤ → List ℤ → List ℤ → List ℤ
width_column times d n u v = scaled4 times (difference4 (product22 d n) (product22 u v))

-- The slab is excluded by these grids: u is below 0 throughout, or u^2 below lo^2 n, or u^2 above hi^2 n, or 4 w above dia^2 n.
-- `raised` is n raised to degree 4.
abbrev pub is_excluded_by_grids : ℕ → Bool → List ℤ → List ℤ → List ℤ → List ℤ → List ℤ → List ℤ → List ℤ → SlabSize → Bool
is_excluded_by_grids S behind raised h0 h1 h2 w0 w1 w2 s =
    behind
    || (rows_negative (grid_less raised (scaled_square S s.lo) h0 h1 h2)
    || (rows_positive (grid_less raised (scaled_square S s.hi) h0 h1 h2)
    || rows_positive (grid_less raised (scaled_square S s.dia) w0 w1 w2)))

-- some of the slabs is not
abbrev pub is_unexcluded_by_grids : ℕ → Bool → List ℤ → List ℤ → List ℤ → List ℤ → List ℤ → List ℤ → List ℤ → List SlabSize → Bool
is_unexcluded_by_grids S behind raised h0 h1 h2 w0 w1 w2 slabs =
    list_any (λ s. not (is_excluded_by_grids S behind raised h0 h1 h2 w0 w1 w2 s)) slabs

-- the same by the coefficients of u and d at both points, of n, and of the product e of both offsets
abbrev pub is_excluded_across : ℕ → List ℤ → List ℤ → List ℤ → List ℤ → List ℤ → List ℤ → SlabSize → Bool
is_excluded_across S u v n d e g s =
    is_excluded_by_grids S (rows_negative (columns21 u v)) (lifted n)
    (product22 u u) (height_column (pos 2) u v) (product22 v v)
    (width_column (pos 4) d n u u) (width_column (pos 8) e n u v) (width_column (pos 4) g n v v) s

-- the slab is excluded between the samples j and k for the points from p to q
abbrev pub is_excluded_in_box : SweepOf → List ℤ → List ℤ → ℕ → ℕ → ℕ → SlabSize → Bool
is_excluded_in_box m p q j k S s =
    is_excluded_across S (u_between m p j k S) (u_between m q j k S) (n_between m j k S)
    (d_between m p j k S) (product_between m p q j k S) (d_between m q j k S) s
