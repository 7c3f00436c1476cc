-- The coefficients of a cell's tests stay below 4 * 10^37.
use Rattle.std.proofs.Common.{◌≡◌, ℕ, ◌+◌, ◌*◌, ◌^◌, ◌≤◌, ◌<◌, [], ◌∷◌, List, ℤ, pos, ◌*ℤ◌, unsigned_abs, arith, subst}
use Rattle.std.specs.List.{All}
use Rattle.bern_form.specs.Forms.{IsSmall, difference4, lifted, product11, product22, scaled2, scaled4, sum2}
use Rattle.space.specs.Vectors.{at}
use Rattle.space.specs.Ranges.{IsWithin}
use Rattle.bern_form.specs.Cells.{dot_on_cell, ends}
use Rattle.bern_form.specs.Sizes.{IsBounded2, IsBounded4, axis_limit, length_limit, offset_limit}
use Rattle.bern_form.proofs.Sizes.{bounded2_small, bounded4_small, difference4_bounded, lifted_bounded, product11_bounded, product22_bounded, scaled2_bounded, scaled4_bounded, sum2_bounded}

-- the product of two components
pub component_bounded : (p q a c : List ℤ) (i m n : ℕ) → unsigned_abs (at p i) ≤ m → unsigned_abs (at q i) ≤ m → unsigned_abs (at a i) ≤ n → unsigned_abs (at c i) ≤ n
    → IsBounded2 (m * n) (product11 (ends p q i) (ends a c i))
component_bounded p q a c i m n hp hq ha hc = product11_bounded (ends p q i) (ends a c i) m n hp hq ha hc

two_bounded : (p q a c : List ℤ) (m n : ℕ) → IsWithin m p → IsWithin m q → IsWithin n a → IsWithin n c
    → IsBounded2 (m * n + m * n) (sum2 (product11 (ends p q 0) (ends a c 0)) (product11 (ends p q 1) (ends a c 1)))
two_bounded p q a c m n hp hq ha hc =
    sum2_bounded (product11 (ends p q 0) (ends a c 0)) (product11 (ends p q 1) (ends a c 1)) (m * n) (m * n)
    (component_bounded p q a c 0 m n hp.0 hq.0 ha.0 hc.0) (component_bounded p q a c 1 m n hp.1 hq.1 ha.1 hc.1)

-- a scalar product on a cell
pub cross_bounded : (p q a c : List ℤ) (m n : ℕ) → IsWithin m p → IsWithin m q → IsWithin n a → IsWithin n c → IsBounded2 (3 * (m * n)) (dot_on_cell p q a c)
cross_bounded p q a c m n hp hq ha hc =
    let e : m * n + m * n + m * n ≡ 3 * (m * n) = omega arith in
    subst (λ k. IsBounded2 k (dot_on_cell p q a c)) e
    (sum2_bounded (sum2 (product11 (ends p q 0) (ends a c 0)) (product11 (ends p q 1) (ends a c 1))) (product11 (ends p q 2) (ends a c 2)) (m * n + m * n) (m * n)
    (two_bounded p q a c m n hp hq ha hc) (component_bounded p q a c 2 m n hp.2 hq.2 ha.2 hc.2))

-- the lists that a scalar product on a cell goes through
pub record CrossFits (p q a c : List ℤ) : Type 0 where
  pub x : All IsSmall (product11 (ends p q 0) (ends a c 0))
  pub y : All IsSmall (product11 (ends p q 1) (ends a c 1))
  pub z : All IsSmall (product11 (ends p q 2) (ends a c 2))
  pub two : All IsSmall (sum2 (product11 (ends p q 0) (ends a c 0)) (product11 (ends p q 1) (ends a c 1)))
  pub whole : All IsSmall (dot_on_cell p q a c)

small2 : (a b c : ℤ) (m : ℕ) → m ≤ 3 * (offset_limit * offset_limit) → IsBounded2 m (a ∷ b ∷ c ∷ []) → All IsSmall (a ∷ b ∷ c ∷ [])
small2 a b c m l h = bounded2_small a b c m (omega arith) h

pub list2 : (l : List ℤ) (m : ℕ) → m ≤ 3 * (offset_limit * offset_limit) → IsBounded2 m l → All IsSmall (at l 0 ∷ at l 1 ∷ at l 2 ∷ [])
list2 l m h b = small2 (at l 0) (at l 1) (at l 2) m h record { first = b.first; middle = b.middle; last = b.last }

pub cross_fits : (p q a c : List ℤ) → IsWithin offset_limit p → IsWithin offset_limit q → IsWithin offset_limit a → IsWithin offset_limit c → CrossFits p q a c
cross_fits p q a c hp hq ha hc =
    let m = offset_limit in
    let part = offset_limit * offset_limit in record {
      x = list2 (product11 (ends p q 0) (ends a c 0)) part (omega arith) (component_bounded p q a c 0 m m hp.0 hq.0 ha.0 hc.0);
      y = list2 (product11 (ends p q 1) (ends a c 1)) part (omega arith) (component_bounded p q a c 1 m m hp.1 hq.1 ha.1 hc.1);
      z = list2 (product11 (ends p q 2) (ends a c 2)) part (omega arith) (component_bounded p q a c 2 m m hp.2 hq.2 ha.2 hc.2);
      two = list2 (sum2 (product11 (ends p q 0) (ends a c 0)) (product11 (ends p q 1) (ends a c 1))) (part + part) (omega arith) (two_bounded p q a c m m hp hq ha hc);
      whole = list2 (dot_on_cell p q a c) (3 * part) (omega arith) (cross_bounded p q a c m m hp hq ha hc);
    }

-- a list of degree 4 that is bounded below the limit
pub list4 : (l : List ℤ) (m : ℕ) → m < 4 * 10 ^ 37 → IsBounded4 m l → All IsSmall (at l 0 ∷ at l 1 ∷ at l 2 ∷ at l 3 ∷ at l 4 ∷ [])
list4 l m h b = bounded4_small (at l 0) (at l 1) (at l 2) (at l 3) (at l 4) m h record { c0 = b.c0; c1 = b.c1; c2 = b.c2; c3 = b.c3; c4 = b.c4 }

-- the forms that a cell keeps, from those of u, n and d
pub record CellFits (u n d : List ℤ) : Type 0 where
  pub ahead : IsBounded2 (3 * (offset_limit * axis_limit)) u
  pub squares : IsBounded2 (3 * (axis_limit * axis_limit)) n
  pub height : All IsSmall (product22 u u)
  pub both : All IsSmall (product22 d n)
  pub spread : All IsSmall (difference4 (product22 d n) (product22 u u))
  pub width : All IsSmall (scaled4 (pos 4) (difference4 (product22 d n) (product22 u u)))
  pub height_small : IsBounded4 (54 * (offset_limit * axis_limit) * (offset_limit * axis_limit)) (product22 u u)
  pub width_small : IsBounded4 (432 * (offset_limit * axis_limit) * (offset_limit * axis_limit)) (scaled4 (pos 4) (difference4 (product22 d n) (product22 u u)))

pub cell_fits : (u n d : List ℤ) → IsBounded2 (3 * (offset_limit * axis_limit)) u → IsBounded2 (3 * (axis_limit * axis_limit)) n → IsBounded2 (3 * (offset_limit * offset_limit)) d
    → CellFits u n d
cell_fits u n d hu hn hd =
    let m = 54 * (offset_limit * axis_limit) * (offset_limit * axis_limit) in
    let e1 : 6 * (3 * (offset_limit * axis_limit) * (3 * (offset_limit * axis_limit))) ≡ m = omega arith in
    let e2 : 6 * (3 * (offset_limit * offset_limit) * (3 * (axis_limit * axis_limit))) ≡ m = omega arith in
    let e3 : 4 * (m + m) ≡ 432 * (offset_limit * axis_limit) * (offset_limit * axis_limit) = omega arith in
    let height = subst (λ k. IsBounded4 k (product22 u u)) e1 (product22_bounded u u (3 * (offset_limit * axis_limit)) (3 * (offset_limit * axis_limit)) hu hu) in
    let both = subst (λ k. IsBounded4 k (product22 d n)) e2 (product22_bounded d n (3 * (offset_limit * offset_limit)) (3 * (axis_limit * axis_limit)) hd hn) in
    let spread = difference4_bounded (product22 d n) (product22 u u) m m both height in
    let width = subst (λ k. IsBounded4 k (scaled4 (pos 4) (difference4 (product22 d n) (product22 u u)))) e3 (scaled4_bounded (pos 4) (difference4 (product22 d n) (product22 u u)) 4 (m + m) (omega arith) spread) in record {
      ahead = hu;
      squares = hn;
      height = list4 (product22 u u) m (omega arith) height;
      both = list4 (product22 d n) m (omega arith) both;
      spread = list4 (difference4 (product22 d n) (product22 u u)) (m + m) (omega arith) spread;
      width = list4 (scaled4 (pos 4) (difference4 (product22 d n) (product22 u u))) (432 * (offset_limit * axis_limit) * (offset_limit * axis_limit)) (omega arith) width;
      height_small = height;
      width_small = width;
    }

-- the forms of the cell between two poses
pub between_fits : (P Q A C : List ℤ) → IsWithin offset_limit P → IsWithin offset_limit Q → IsWithin axis_limit A → IsWithin axis_limit C
    → CellFits (dot_on_cell P Q A C) (dot_on_cell A C A C) (dot_on_cell P Q P Q)
between_fits P Q A C hP hQ hA hC =
    cell_fits (dot_on_cell P Q A C) (dot_on_cell A C A C) (dot_on_cell P Q P Q) (cross_bounded P Q A C offset_limit axis_limit hP hQ hA hC)
    (cross_bounded A C A C axis_limit axis_limit hA hC hA hC) (cross_bounded P Q P Q offset_limit offset_limit hP hQ hP hQ)

-- n times a squared length, raised to degree 4
pub record SquaredFits (s : ℤ) (n : List ℤ) : Type 0 where
  pub scaled : All IsSmall (scaled2 s n)
  pub whole : All IsSmall (lifted (scaled2 s n))
  pub small : IsBounded4 (18 * (length_limit * axis_limit) * (length_limit * axis_limit)) (lifted (scaled2 s n))

pub squared_fits : (s : ℤ) (n : List ℤ) → unsigned_abs s ≤ length_limit * length_limit → IsBounded2 (3 * (axis_limit * axis_limit)) n → SquaredFits s n
squared_fits s n hs hn =
    let w = length_limit * length_limit * (3 * (axis_limit * axis_limit)) in
    let scaled = scaled2_bounded s n (length_limit * length_limit) (3 * (axis_limit * axis_limit)) hs hn in
    let e : 6 * w ≡ 18 * (length_limit * axis_limit) * (length_limit * axis_limit) = omega arith in
    let whole = subst (λ k. IsBounded4 k (lifted (scaled2 s n))) e (lifted_bounded (scaled2 s n) w scaled) in record {
      scaled = bounded2_small (s *ℤ at n 0) (s *ℤ at n 1) (s *ℤ at n 2) w (omega arith) scaled;
      whole = list4 (lifted (scaled2 s n)) (18 * (length_limit * axis_limit) * (length_limit * axis_limit)) (omega arith) whole;
      small = whole;
    }

-- the differences that the tests look at
pub difference_fits : (a b : List ℤ) → IsBounded4 (432 * (offset_limit * axis_limit) * (offset_limit * axis_limit)) a
    → IsBounded4 (18 * (length_limit * axis_limit) * (length_limit * axis_limit)) b → All IsSmall (difference4 a b)
difference_fits a b h k =
    list4 (difference4 a b) (432 * (offset_limit * axis_limit) * (offset_limit * axis_limit) + 18 * (length_limit * axis_limit) * (length_limit * axis_limit)) (omega arith)
    (difference4_bounded a b (432 * (offset_limit * axis_limit) * (offset_limit * axis_limit)) (18 * (length_limit * axis_limit) * (length_limit * axis_limit)) h k)

pub more4 : (m n : ℕ) (a : List ℤ) → m ≤ n → IsBounded4 m a → IsBounded4 n a
more4 m n a l h =
    let c0 = h.c0 in let c1 = h.c1 in let c2 = h.c2 in let c3 = h.c3 in let c4 = h.c4 in
    record { c0 = omega arith; c1 = omega arith; c2 = omega arith; c3 = omega arith; c4 = omega arith }
