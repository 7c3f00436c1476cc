-- Numbers that fit their types.
use Rattle.std.proofs.Common.{◌≡◌, to_z, of_z, ℕ, ◌+◌, ◌-◌, ◌*◌, ◌<◌, ◌≤◌, ◌^◌, List, ℤ, pos, ◌+ℤ◌, ◌*ℤ◌, ◌-ℤ◌, ◌≤ℤ◌, unsigned_abs, FitsSigned, ap, arith, subst, sym, ◌∙◌}
use Rattle.std.proofs.lemmas.Int.{fits_signed_from_abs, ints, to_z-of_z}
use mir.Syntax.{Width, w32, w64, w128}
use mir.Val.{hbits}
use Rattle.space.specs.Vectors.{dot}
use Rattle.space.specs.Ranges.{IsWithin}
use Rattle.bern_form.specs.Sizes.{axis_limit, length_limit, offset_limit, scale_limit}
use Rattle.bern_form.proofs.Sizes.{dot_small}
use Rattle.space.proofs.Facts.{fits128}
use Rattle.space.proofs.Naturals.{abs_add, abs_mul, abs_sub}

-- the square of a scaled length
pub scaled_small : (scale length : ℤ) → unsigned_abs scale ≤ scale_limit → unsigned_abs length ≤ 300000 → unsigned_abs (scale *ℤ length) ≤ length_limit
scaled_small scale length h k = let x = abs_mul scale length 1024 300000 h k in omega arith

pub scaled_square_small : (scale length : ℤ) → unsigned_abs scale ≤ scale_limit → unsigned_abs length ≤ 300000
    → unsigned_abs ((scale *ℤ length) *ℤ (scale *ℤ length)) ≤ length_limit * length_limit
scaled_square_small scale length h k = let x = scaled_small scale length h k in abs_mul (scale *ℤ length) (scale *ℤ length) length_limit length_limit x x

-- the scalar products of a sample, whose bits give them back
pub record ProductsFit (p a : List ℤ) : Type 0 where
  pub u_small : unsigned_abs (dot p a) ≤ 3 * (offset_limit * axis_limit)
  pub n_small : unsigned_abs (dot a a) ≤ 3 * (axis_limit * axis_limit)
  pub d_small : unsigned_abs (dot p p) ≤ 3 * (offset_limit * offset_limit)
  pub u_back : to_z w128 (of_z w128 (dot p a)) ≡ dot p a
  pub n_back : to_z w128 (of_z w128 (dot a a)) ≡ dot a a
  pub d_back : to_z w128 (of_z w128 (dot p p)) ≡ dot p p

pub products_fit : (p a : List ℤ) → IsWithin offset_limit p → IsWithin axis_limit a → ProductsFit p a
products_fit p a h k =
    let d = dot_small p p offset_limit offset_limit h h in
    let n = dot_small a a axis_limit axis_limit k k in
    let u = dot_small p a offset_limit axis_limit h k in record {
      u_small = u;
      n_small = n;
      d_small = d;
      u_back = to_z-of_z w128 (dot p a) (fits128 (dot p a) (3 * (offset_limit * axis_limit)) u (omega arith));
      n_back = to_z-of_z w128 (dot a a) (fits128 (dot a a) (3 * (axis_limit * axis_limit)) n (omega arith));
      d_back = to_z-of_z w128 (dot p p) (fits128 (dot p p) (3 * (offset_limit * offset_limit)) d (omega arith));
    }

-- w by u, n and d
pub record SampleFits (u n d : ℤ) : Type 0 where
  pub both : FitsSigned w128 (d *ℤ n)
  pub height : FitsSigned w128 (u *ℤ u)
  pub whole : FitsSigned w128 (d *ℤ n -ℤ u *ℤ u)
  pub w_small : unsigned_abs (d *ℤ n -ℤ u *ℤ u) ≤ 18 * (offset_limit * axis_limit) * (offset_limit * axis_limit)

pub sample_fits : (u n d : ℤ) → unsigned_abs u ≤ 3 * (offset_limit * axis_limit) → unsigned_abs n ≤ 3 * (axis_limit * axis_limit) → unsigned_abs d ≤ 3 * (offset_limit * offset_limit) → SampleFits u n d
sample_fits u n d hu hn hd =
    let product = abs_mul d n (3 * (offset_limit * offset_limit)) (3 * (axis_limit * axis_limit)) hd hn in
    let square = abs_mul u u (3 * (offset_limit * axis_limit)) (3 * (offset_limit * axis_limit)) hu hu in
    let difference = abs_sub (d *ℤ n) (u *ℤ u) in
    let w : unsigned_abs (d *ℤ n -ℤ u *ℤ u) ≤ 18 * (offset_limit * axis_limit) * (offset_limit * axis_limit) = omega arith in record {
      both = fits128 (d *ℤ n) (3 * (offset_limit * offset_limit) * (3 * (axis_limit * axis_limit))) product (omega arith);
      height = fits128 (u *ℤ u) (3 * (offset_limit * axis_limit) * (3 * (offset_limit * axis_limit))) square (omega arith);
      whole = fits128 (d *ℤ n -ℤ u *ℤ u) (18 * (offset_limit * axis_limit) * (offset_limit * axis_limit)) w (omega arith);
      w_small = w;
    }

-- the steps of the four tests at a sample
pub square_by_axis_fits : (s n : ℤ) → unsigned_abs s ≤ length_limit * length_limit → unsigned_abs n ≤ 3 * (axis_limit * axis_limit) → FitsSigned w128 (s *ℤ n)
square_by_axis_fits s n h k =
    fits128 (s *ℤ n) (length_limit * length_limit * (3 * (axis_limit * axis_limit))) (abs_mul s n (length_limit * length_limit) (3 * (axis_limit * axis_limit)) h k) (omega arith)

pub height_fits : (u : ℤ) → unsigned_abs u ≤ 3 * (offset_limit * axis_limit) → FitsSigned w128 (u *ℤ u)
height_fits u h =
    fits128 (u *ℤ u) (3 * (offset_limit * axis_limit) * (3 * (offset_limit * axis_limit))) (abs_mul u u (3 * (offset_limit * axis_limit)) (3 * (offset_limit * axis_limit)) h h) (omega arith)

pub width_fits : (w : ℤ) → unsigned_abs w ≤ 18 * (offset_limit * axis_limit) * (offset_limit * axis_limit) → FitsSigned w128 (pos 4 *ℤ w)
width_fits w h =
    fits128 (pos 4 *ℤ w) (4 * (18 * (offset_limit * axis_limit) * (offset_limit * axis_limit))) (abs_mul (pos 4) w 4 (18 * (offset_limit * axis_limit) * (offset_limit * axis_limit)) (omega arith) h) (omega arith)

-- the same of numbers that are read back from their bits, and a slab's length that is
back_128 : (z : ℤ) (n : ℕ) → unsigned_abs z ≤ n → n < 2 ^ 127 → to_z w128 (of_z w128 z) ≡ z
back_128 z n small fits = to_z-of_z w128 z (fits128 z n small fits)

pub read_height_fits : (u : ℤ) → unsigned_abs u ≤ 3 * (offset_limit * axis_limit) → FitsSigned w128 (to_z w128 (of_z w128 u) *ℤ to_z w128 (of_z w128 u))
read_height_fits u h =
    subst (λ (z : ℤ). FitsSigned w128 (z *ℤ z)) (sym (back_128 u (3 * (offset_limit * axis_limit)) h (omega arith))) (height_fits u h)

pub read_width_fits : (w : ℤ) → unsigned_abs w ≤ 18 * (offset_limit * axis_limit) * (offset_limit * axis_limit) → FitsSigned w128 (pos 4 *ℤ to_z w128 (of_z w128 w))
read_width_fits w h =
    subst (λ (z : ℤ). FitsSigned w128 (pos 4 *ℤ z)) (sym (back_128 w (18 * (offset_limit * axis_limit) * (offset_limit * axis_limit)) h (omega arith))) (width_fits w h)

pub read_length_small : (length : ℤ) → pos 0 ≤ℤ length → length ≤ℤ pos 300000 → unsigned_abs (to_z w32 (of_z w32 length)) ≤ 300000
read_length_small length low high =
    let small : unsigned_abs length ≤ 300000 = omega (arith, ints) in
    subst (λ (z : ℤ). unsigned_abs z ≤ 300000) (sym (to_z-of_z w32 length (fits_signed_from_abs w32 length (omega arith)))) small

-- a product of two numbers that are read back from their bits
pub record ReadProductFits (w : Width) (a b x y : ℤ) (most : ℕ) : Type 0 where
  pub fits : FitsSigned w (to_z w (of_z w a) *ℤ to_z w (of_z w b))
  pub value : to_z w (of_z w (to_z w (of_z w a) *ℤ to_z w (of_z w b))) ≡ x *ℤ y
  pub small : unsigned_abs (to_z w (of_z w (to_z w (of_z w a) *ℤ to_z w (of_z w b)))) ≤ most

read_product_fits : (w : Width) (a b x y : ℤ) (m n : ℕ) → a ≡ x → b ≡ y → unsigned_abs x ≤ m → unsigned_abs y ≤ n → m < 2 ^ hbits w → n < 2 ^ hbits w → m * n < 2 ^ hbits w
    → ReadProductFits w a b x y (m * n)
read_product_fits w a b x y m n same_a same_b hx hy fits_x fits_y fits_both =
    let small = abs_mul x y m n hx hy in
    let fits : FitsSigned w (x *ℤ y) = fits_signed_from_abs w (x *ℤ y) (omega (arith, small, fits_both)) in
    let read_a : to_z w (of_z w a) ≡ x = ap (λ (z : ℤ). to_z w (of_z w z)) same_a ∙ to_z-of_z w x (fits_signed_from_abs w x (omega (arith, hx, fits_x))) in
    let read_b : to_z w (of_z w b) ≡ y = ap (λ (z : ℤ). to_z w (of_z w z)) same_b ∙ to_z-of_z w y (fits_signed_from_abs w y (omega (arith, hy, fits_y))) in
    let both : to_z w (of_z w a) *ℤ to_z w (of_z w b) ≡ x *ℤ y = ap (λ (z : ℤ). z *ℤ to_z w (of_z w b)) read_a ∙ ap (λ (z : ℤ). x *ℤ z) read_b in
    let value : to_z w (of_z w (to_z w (of_z w a) *ℤ to_z w (of_z w b))) ≡ x *ℤ y = ap (λ (z : ℤ). to_z w (of_z w z)) both ∙ to_z-of_z w (x *ℤ y) fits in record {
      fits = subst (λ (z : ℤ). FitsSigned w z) (sym both) fits;
      value = value;
      small = subst (λ (z : ℤ). unsigned_abs z ≤ m * n) (sym value) small;
    }

pub weighted_fits : (weight : ℕ) (place a b : ℤ) → weight ≤ scale_limit → unsigned_abs place ≤ 1000000 → a ≡ pos weight → b ≡ to_z w32 (of_z w32 place)
    → ReadProductFits w64 a b (pos weight) place (weight * 1000000)
weighted_fits weight place a b h k same_a same_b =
    read_product_fits w64 a b (pos weight) place weight 1000000 same_a (same_b ∙ to_z-of_z w32 place (fits_signed_from_abs w32 place (omega arith))) (omega arith) k (omega arith) (omega arith) (omega arith)

pub scaled_fits : (scale : ℕ) (length a b : ℤ) → scale ≤ scale_limit → unsigned_abs length ≤ 300000 → a ≡ pos scale → b ≡ to_z w32 (of_z w32 length)
    → ReadProductFits w128 a b (pos scale) length length_limit
scaled_fits scale length a b h k same_a same_b =
    read_product_fits w128 a b (pos scale) length scale_limit 300000 same_a (same_b ∙ to_z-of_z w32 length (fits_signed_from_abs w32 length (omega arith))) h k (omega arith) (omega arith) (omega arith)

pub scaled_square_fits : (scale : ℕ) (length a : ℤ) → unsigned_abs a ≤ length_limit → unsigned_abs length ≤ 300000 → a ≡ pos scale *ℤ to_z w32 (of_z w32 length)
    → ReadProductFits w128 a a (pos scale *ℤ length) (pos scale *ℤ length) (length_limit * length_limit)
scaled_square_fits scale length a small k same =
    let is : a ≡ pos scale *ℤ length = same ∙ ap (λ (z : ℤ). pos scale *ℤ z) (to_z-of_z w32 length (fits_signed_from_abs w32 length (omega arith))) in
    let less = subst (λ (z : ℤ). unsigned_abs z ≤ length_limit) is small in
    read_product_fits w128 a a (pos scale *ℤ length) (pos scale *ℤ length) length_limit length_limit is is less less (omega arith) (omega arith) (omega arith)

pub component_fits : (p a x y : ℤ) → unsigned_abs p ≤ offset_limit → unsigned_abs a ≤ offset_limit → x ≡ to_z w64 (of_z w64 p) → y ≡ to_z w64 (of_z w64 a)
    → ReadProductFits w128 x y p a (offset_limit * offset_limit)
component_fits p a x y h k same_x same_y =
    read_product_fits w128 x y p a offset_limit offset_limit (same_x ∙ to_z-of_z w64 p (fits_signed_from_abs w64 p (omega arith))) (same_y ∙ to_z-of_z w64 a (fits_signed_from_abs w64 a (omega arith)))
    h k (omega arith) (omega arith) (omega arith)

-- the sum of three such products
pub record ReadSumFits (a b c : ℤ) : Type 0 where
  pub two : FitsSigned w128 (to_z w128 (of_z w128 a) +ℤ to_z w128 (of_z w128 b))
  pub three : FitsSigned w128 (to_z w128 (of_z w128 (to_z w128 (of_z w128 a) +ℤ to_z w128 (of_z w128 b))) +ℤ to_z w128 (of_z w128 c))
  pub value : to_z w128 (of_z w128 (to_z w128 (of_z w128 (to_z w128 (of_z w128 a) +ℤ to_z w128 (of_z w128 b))) +ℤ to_z w128 (of_z w128 c))) ≡ (a +ℤ b) +ℤ c

pub read_sum_fits : (a b c : ℤ) → unsigned_abs a ≤ offset_limit * offset_limit → unsigned_abs b ≤ offset_limit * offset_limit → unsigned_abs c ≤ offset_limit * offset_limit
    → ReadSumFits a b c
read_sum_fits a b c ha hb hc =
    let n = offset_limit * offset_limit in let sum = abs_add a b in let total = abs_add (a +ℤ b) c in
    let fits_two : FitsSigned w128 (a +ℤ b) = fits128 (a +ℤ b) (n + n) (omega (arith, sum, ha, hb)) (omega arith) in
    let fits_three : FitsSigned w128 ((a +ℤ b) +ℤ c) = fits128 ((a +ℤ b) +ℤ c) (n + n + n) (omega (arith, sum, total, ha, hb, hc)) (omega arith) in
    let two : to_z w128 (of_z w128 a) +ℤ to_z w128 (of_z w128 b) ≡ a +ℤ b =
    ap (λ (z : ℤ). z +ℤ to_z w128 (of_z w128 b)) (back_128 a n ha (omega arith)) ∙ ap (λ (z : ℤ). a +ℤ z) (back_128 b n hb (omega arith)) in
    let three : to_z w128 (of_z w128 (to_z w128 (of_z w128 a) +ℤ to_z w128 (of_z w128 b))) +ℤ to_z w128 (of_z w128 c) ≡ (a +ℤ b) +ℤ c =
    ap (λ (z : ℤ). to_z w128 (of_z w128 z) +ℤ to_z w128 (of_z w128 c)) two ∙ ap (λ (z : ℤ). z +ℤ to_z w128 (of_z w128 c)) (to_z-of_z w128 (a +ℤ b) fits_two)
    ∙ ap (λ (z : ℤ). (a +ℤ b) +ℤ z) (back_128 c n hc (omega arith)) in record {
      two = subst (λ (z : ℤ). FitsSigned w128 z) (sym two) fits_two;
      three = subst (λ (z : ℤ). FitsSigned w128 z) (sym three) fits_three;
      value = ap (λ (z : ℤ). to_z w128 (of_z w128 z)) three ∙ to_z-of_z w128 ((a +ℤ b) +ℤ c) fits_three;
    }

-- a place between two ends, and an offset from it, by weighted coordinates that are read back from their bits
pub record PlaceFits (scale : ℕ) (early late : ℤ) : Type 0 where
  pub fits : FitsSigned w64 (to_z w64 (of_z w64 early) +ℤ to_z w64 (of_z w64 late))
  pub value : to_z w64 (of_z w64 (to_z w64 (of_z w64 early) +ℤ to_z w64 (of_z w64 late))) ≡ early +ℤ late
  pub small : unsigned_abs (to_z w64 (of_z w64 (to_z w64 (of_z w64 early) +ℤ to_z w64 (of_z w64 late)))) ≤ scale * 1000000

pub place_fits : (k scale : ℕ) (early late : ℤ) → k ≤ scale → scale ≤ scale_limit → unsigned_abs early ≤ (scale - k) * 1000000 → unsigned_abs late ≤ k * 1000000 → PlaceFits scale early late
place_fits k scale early late within most h l =
    let sum = abs_add early late in
    let small : unsigned_abs (early +ℤ late) ≤ scale * 1000000 = omega (arith, sum, h, l, within) in
    let fits : FitsSigned w64 (early +ℤ late) = fits_signed_from_abs w64 (early +ℤ late) (omega (arith, small, most)) in
    let both : to_z w64 (of_z w64 early) +ℤ to_z w64 (of_z w64 late) ≡ early +ℤ late =
    ap (λ (z : ℤ). z +ℤ to_z w64 (of_z w64 late)) (to_z-of_z w64 early (fits_signed_from_abs w64 early (omega (arith, h, most, within))))
    ∙ ap (λ (z : ℤ). early +ℤ z) (to_z-of_z w64 late (fits_signed_from_abs w64 late (omega (arith, l, most, within)))) in
    let value = ap (λ (z : ℤ). to_z w64 (of_z w64 z)) both ∙ to_z-of_z w64 (early +ℤ late) fits in record {
      fits = subst (λ (z : ℤ). FitsSigned w64 z) (sym both) fits;
      value = value;
      small = subst (λ (z : ℤ). unsigned_abs z ≤ scale * 1000000) (sym value) small;
    }

pub record OffsetFits (whole place : ℤ) : Type 0 where
  pub fits : FitsSigned w64 (to_z w64 (of_z w64 whole) -ℤ to_z w64 (of_z w64 place))
  pub value : to_z w64 (of_z w64 (to_z w64 (of_z w64 whole) -ℤ to_z w64 (of_z w64 place))) ≡ whole -ℤ place

pub offset_fits : (scale : ℕ) (whole place : ℤ) → scale ≤ scale_limit → unsigned_abs whole ≤ scale * 1000000 → unsigned_abs place ≤ scale * 1000000 → OffsetFits whole place
offset_fits scale whole place most h l =
    let difference = abs_sub whole place in
    let fits : FitsSigned w64 (whole -ℤ place) = fits_signed_from_abs w64 (whole -ℤ place) (omega (arith, difference, h, l, most)) in
    let both : to_z w64 (of_z w64 whole) -ℤ to_z w64 (of_z w64 place) ≡ whole -ℤ place =
    ap (λ (z : ℤ). z -ℤ to_z w64 (of_z w64 place)) (to_z-of_z w64 whole (fits_signed_from_abs w64 whole (omega (arith, h, most))))
    ∙ ap (λ (z : ℤ). whole -ℤ z) (to_z-of_z w64 place (fits_signed_from_abs w64 place (omega (arith, l, most)))) in record {
      fits = subst (λ (z : ℤ). FitsSigned w64 z) (sym both) fits;
      value = ap (λ (z : ℤ). to_z w64 (of_z w64 z)) both ∙ to_z-of_z w64 (whole -ℤ place) fits;
    }
