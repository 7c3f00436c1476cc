-- Every coefficient of the four lists of a slab on a cell stays below 4 * 10^37.
use Rattle.std.proofs.Common.{negsuc, ℕ, ◌+◌, ◌*◌, ◌≤◌, ◌<◌, List, ℤ, pos, ◌≤ℤ◌, unsigned_abs, arith}
use Rattle.std.proofs.lemmas.Int.{ints}
use Rattle.bern_form.specs.Forms.{lifted, product22, scaled2}
use Rattle.space.specs.Ranges.{IsPoint}
use Rattle.space.specs.Sweeps.{IsSweep, SweepOf}
use Rattle.bern_form.specs.Slab.{IsSlab, SlabSize}
use Rattle.bern_form.specs.Cells.{d_list, start_axis, start_offset, end_axis, end_offset, n_list, scaled_square, u_list, w_list}
use Rattle.bern_form.specs.Sizes.{axis_limit, offset_limit, scale_limit}
use Rattle.bern_form.proofs.Sizes.{axis_within, offset_within}
use Rattle.axis_cells.specs.Exclusion.{CoefficientsAreSmall}
use Rattle.axis_cells.proofs.Bounds.{cell_fits, cross_bounded, difference_fits, list2, more4, squared_fits}
use Rattle.axis_cells.proofs.Fits.{scaled_square_small}

-- a length of a slab is at most 300,000
length_small : (z : ℤ) (n : ℕ) → pos 0 ≤ℤ z → z ≤ℤ pos n → n ≤ 300000 → unsigned_abs z ≤ 300000
length_small (pos k) n h l b = omega (arith, ints, l)
length_small (negsuc k) n h l b = absurd (omega (arith, ints, h))

pub coefficients_small : (s : SlabSize) (m : SweepOf) (p : List ℤ) (k S : ℕ) → IsSlab s → IsSweep m → IsPoint p → k < S → S ≤ scale_limit → CoefficientsAreSmall s m p k S
coefficients_small s m p k S slab sweep point within few =
    let P = start_offset m p k S in let Q = end_offset m p k S in let A = start_axis m k S in let C = end_axis m k S in
    let hP = offset_within m p k S sweep point (omega arith) few in let hQ = offset_within m p (k + 1) S sweep point (omega arith) few in
    let hA = axis_within m k S sweep (omega arith) few in let hC = axis_within m (k + 1) S sweep (omega arith) few in
    let u = u_list m p k S in let n = n_list m k S in let d = d_list m p k S in
    let hu = cross_bounded P Q A C offset_limit axis_limit hP hQ hA hC in
    let hn = cross_bounded A C A C axis_limit axis_limit hA hC hA hC in
    let fits = cell_fits u n d hu hn (cross_bounded P Q P Q offset_limit offset_limit hP hQ hP hQ) in
    let height = more4 (54 * (offset_limit * axis_limit) * (offset_limit * axis_limit)) (432 * (offset_limit * axis_limit) * (offset_limit * axis_limit)) (product22 u u) (omega arith) fits.height_small in
    let above_tip = slab.above_tip in let ordered = slab.ordered in let top = slab.height in
    let square = λ (z : ℤ) (small : unsigned_abs z ≤ 300000). squared_fits (scaled_square S z) n (scaled_square_small (pos S) z (omega arith) small) hn in
    let lo = length_small s.lo 300000 slab.above_tip (omega (arith, ints)) (omega arith) in
    let hi = length_small s.hi 300000 (omega (arith, ints)) slab.height (omega arith) in
    let dia = length_small s.dia 200000 slab.thick slab.width (omega arith) in
    record {
      ahead = list2 u (3 * (offset_limit * axis_limit)) (omega arith) hu;
      low = difference_fits (product22 u u) (lifted (scaled2 (scaled_square S s.lo) n)) height (square s.lo lo).small;
      high = difference_fits (product22 u u) (lifted (scaled2 (scaled_square S s.hi) n)) height (square s.hi hi).small;
      side = difference_fits (w_list m p k S) (lifted (scaled2 (scaled_square S s.dia) n)) fits.width_small (square s.dia dia).small;
    }
