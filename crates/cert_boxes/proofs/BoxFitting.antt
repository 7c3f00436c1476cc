-- Numbers of a box's tests that fit 128 bits.
use Rattle.std.proofs.Common.{◌≡◌, ℕ, zero, suc, ◌+◌, ◌*◌, ◌<◌, ◌≤◌, List, ℤ, pos, unsigned_abs, arith, subst}
use Rattle.std.specs.List.{All}
use Rattle.space.specs.Vectors.{at}
use Rattle.bern_form.specs.Forms.{IsSmall, difference4, lifted, product22}
use Rattle.bern_form.specs.Sizes.{IsBounded2, IsBounded4, axis_limit, offset_limit}
use Rattle.bern_form.proofs.Sizes.{difference4_bounded, lifted_bounded, product22_bounded, scaled4_bounded}
use Rattle.axis_cells.proofs.Bounds.{list4, more4}
use Rattle.ray_boxes.specs.Boxes.{height_column, width_column}
use Rattle.cert_boxes.specs.Forms.{column_bound}

-- a coefficient of a product of two forms
abbrev pub product_limit : ℕ
product_limit = 54 * (offset_limit * axis_limit) * (offset_limit * axis_limit)

pub squares_bounded : (u v : List ℤ) → IsBounded2 (3 * (offset_limit * axis_limit)) u → IsBounded2 (3 * (offset_limit * axis_limit)) v → IsBounded4 product_limit (product22 u v)
squares_bounded u v hu hv =
    let e : 6 * (3 * (offset_limit * axis_limit) * (3 * (offset_limit * axis_limit))) ≡ product_limit = omega arith in
    subst (λ k. IsBounded4 k (product22 u v)) e (product22_bounded u v (3 * (offset_limit * axis_limit)) (3 * (offset_limit * axis_limit)) hu hv)

pub both_bounded : (d n : List ℤ) → IsBounded2 (3 * (offset_limit * offset_limit)) d → IsBounded2 (3 * (axis_limit * axis_limit)) n → IsBounded4 product_limit (product22 d n)
both_bounded d n hd hn =
    let e : 6 * (3 * (offset_limit * offset_limit) * (3 * (axis_limit * axis_limit))) ≡ product_limit = omega arith in
    subst (λ k. IsBounded4 k (product22 d n)) e (product22_bounded d n (3 * (offset_limit * offset_limit)) (3 * (axis_limit * axis_limit)) hd hn)

-- n raised to degree 4
pub raised_small : (n : List ℤ) → IsBounded2 (3 * (axis_limit * axis_limit)) n → IsBounded4 (18 * (axis_limit * axis_limit)) (lifted n)
raised_small n h =
    let e : 6 * (3 * (axis_limit * axis_limit)) ≡ 18 * (axis_limit * axis_limit) = omega arith in
    subst (λ k. IsBounded4 k (lifted n)) e (lifted_bounded n (3 * (axis_limit * axis_limit)) h)

-- the columns of u^2
pub record HeightFits (u v : List ℤ) : Type 0 where
  pub once : All IsSmall (product22 u v)
  pub twice : All IsSmall (height_column (pos 2) u v)
  pub once_small : IsBounded4 column_bound (product22 u v)
  pub twice_small : IsBounded4 column_bound (height_column (pos 2) u v)

pub height_fits : (u v : List ℤ) → IsBounded2 (3 * (offset_limit * axis_limit)) u → IsBounded2 (3 * (offset_limit * axis_limit)) v → HeightFits u v
height_fits u v hu hv =
    let once = squares_bounded u v hu hv in
    let twice = scaled4_bounded (pos 2) (product22 u v) 2 product_limit (omega arith) once in record {
      once = list4 (product22 u v) product_limit (omega arith) once;
      twice = list4 (height_column (pos 2) u v) (2 * product_limit) (omega arith) twice;
      once_small = more4 product_limit column_bound (product22 u v) (omega arith) once;
      twice_small = more4 (2 * product_limit) column_bound (height_column (pos 2) u v) (omega arith) twice;
    }

-- and those of d n - u v times a number
pub record WidthFits (times : ℤ) (d n u v : List ℤ) : Type 0 where
  pub both : All IsSmall (product22 d n)
  pub squares : All IsSmall (product22 u v)
  pub spread : All IsSmall (difference4 (product22 d n) (product22 u v))
  pub width : All IsSmall (width_column times d n u v)
  pub width_small : IsBounded4 column_bound (width_column times d n u v)

pub width_fits : (times : ℤ) (d n u v : List ℤ) → unsigned_abs times ≤ 8 → IsBounded2 (3 * (offset_limit * offset_limit)) d → IsBounded2 (3 * (axis_limit * axis_limit)) n
    → IsBounded2 (3 * (offset_limit * axis_limit)) u → IsBounded2 (3 * (offset_limit * axis_limit)) v → WidthFits times d n u v
width_fits times d n u v few hd hn hu hv =
    let both = both_bounded d n hd hn in let squares = squares_bounded u v hu hv in
    let spread = difference4_bounded (product22 d n) (product22 u v) product_limit product_limit both squares in
    let width = scaled4_bounded times (difference4 (product22 d n) (product22 u v)) 8 (product_limit + product_limit) few spread in record {
      both = list4 (product22 d n) product_limit (omega arith) both;
      squares = list4 (product22 u v) product_limit (omega arith) squares;
      spread = list4 (difference4 (product22 d n) (product22 u v)) (product_limit + product_limit) (omega arith) spread;
      width = list4 (width_column times d n u v) (8 * (product_limit + product_limit)) (omega arith) width;
      width_small = more4 (8 * (product_limit + product_limit)) column_bound (width_column times d n u v) (omega arith) width;
    }

-- a coefficient
pub coefficient_small : (m : ℕ) (c : List ℤ) (i : ℕ) → i < 5 → IsBounded4 m c → unsigned_abs (at c i) ≤ m
coefficient_small m c zero l h = h.c0
coefficient_small m c (suc zero) l h = h.c1
coefficient_small m c (suc (suc zero)) l h = h.c2
coefficient_small m c (suc (suc (suc zero))) l h = h.c3
coefficient_small m c (suc (suc (suc (suc zero)))) l h = h.c4
coefficient_small m c (suc (suc (suc (suc (suc k))))) l h = absurd (omega arith)
