-- Numbers of moments that fit.
use Rattle.std.proofs.Common.{◌≡◌, ◌∙◌, ap, ap₂, subst, sym, pos, negsuc, ◌<ℤ◌, int_lt, true, FitsSigned, to_z, of_z, ℕ, ◌+◌, ◌*◌, ◌^◌, ◌<◌, ◌≤◌, List, ℤ, ◌+ℤ◌, ◌*ℤ◌, ◌-ℤ◌, unsigned_abs, arith}
use Rattle.std.proofs.lemmas.Int.{fits_signed_from_abs, to_z-of_z}
use mir.Syntax.{Width, w64, w128}
use mir.Val.{hbits}
use Rattle.space.specs.Ranges.{IsWithin}
use Rattle.bern_form.specs.Sizes.{axis_limit, offset_limit}
use Rattle.space.proofs.Reread.{back_of, product_fits, product_is, small_as, small_back}
use Rattle.moment_forms.specs.Sizes.{moments_limit, part_limit}
use Rattle.space.specs.Vectors.{at, dot}
use Rattle.space.proofs.Naturals.{abs_add, abs_mul, abs_sub}
use Rattle.space.proofs.Tests.{decides_lt}

pub three_small : (a b c : ℤ) (n : ℕ) → unsigned_abs a ≤ n → unsigned_abs b ≤ n → unsigned_abs c ≤ n → unsigned_abs ((a +ℤ b) +ℤ c) ≤ n + n + n
three_small a b c n h k l = let x = abs_add (a +ℤ b) c in let y = abs_add a b in omega (arith, x, y, h, k, l)

pub two_small : (a b : ℤ) (n : ℕ) → unsigned_abs a ≤ n → unsigned_abs b ≤ n → unsigned_abs (a +ℤ b) ≤ n + n
two_small a b n h k = let y = abs_add a b in omega (arith, y, h, k)

pub minor_small : (p q a b : ℤ) (m n : ℕ) → unsigned_abs p ≤ m → unsigned_abs q ≤ m → unsigned_abs a ≤ n → unsigned_abs b ≤ n → unsigned_abs (p *ℤ b -ℤ q *ℤ a) ≤ m * n + m * n
minor_small p q a b m n hp hq ha hb =
    let x = abs_sub (p *ℤ b) (q *ℤ a) in let y = abs_mul p b m n hp hb in let z = abs_mul q a m n hq ha in omega (arith, x, y, z)

pub dot_small : (p a : List ℤ) (m n : ℕ) → IsWithin m p → IsWithin n a → unsigned_abs (dot p a) ≤ m * n + m * n + m * n
dot_small p a m n hp ha =
    three_small (at p 0 *ℤ at a 0) (at p 1 *ℤ at a 1) (at p 2 *ℤ at a 2) (m * n) (abs_mul (at p 0) (at a 0) m n hp.0 ha.0) (abs_mul (at p 1) (at a 1) m n hp.1 ha.1)
    (abs_mul (at p 2) (at a 2) m n hp.2 ha.2)

-- sums and differences of numbers that are the same
pub three_same : (a b c x y z : ℤ) → a ≡ x → b ≡ y → c ≡ z → (a +ℤ b) +ℤ c ≡ (x +ℤ y) +ℤ z
three_same a b c x y z e f g = λ i. (e i +ℤ f i) +ℤ g i

pub less_same : (a b x y : ℤ) → a ≡ x → b ≡ y → a -ℤ b ≡ x -ℤ y
less_same a b x y e f = λ i. e i -ℤ f i

-- a comparison of numbers that fit
pub above_fits : (x y : ℤ) → FitsSigned w128 x → FitsSigned w128 y → to_z w128 (of_z w128 x) <ℤ (pos 4 *ℤ to_z w128 (of_z w128 y)) → x <ℤ (pos 4 *ℤ y)
above_fits x y h k l = subst (λ z. z <ℤ (pos 4 *ℤ y)) (to_z-of_z w128 x h) (subst (λ z. to_z w128 (of_z w128 x) <ℤ (pos 4 *ℤ z)) (to_z-of_z w128 y k) l)

-- a number of 64 bits in 128 bits
pub wider : (x : ℤ) → FitsSigned w64 x → FitsSigned w128 x
wider x h = record { sfits = omega (arith, h.sfits) }

-- a product of numbers of 64 bits, in 128 bits
both_wider : (a b x y : ℤ) → a ≡ to_z w64 (of_z w64 x) → b ≡ to_z w64 (of_z w64 y) → FitsSigned w64 x → FitsSigned w64 y → (a ≡ x) × (b ≡ y)
both_wider a b x y e f h k = (e ∙ to_z-of_z w64 x h, f ∙ to_z-of_z w64 y k)

pub wide_product_fits : (a b x y : ℤ) (m n : ℕ) → a ≡ to_z w64 (of_z w64 x) → b ≡ to_z w64 (of_z w64 y) → FitsSigned w64 x → FitsSigned w64 y
    → unsigned_abs x ≤ m → unsigned_abs y ≤ n → m * n < 2 ^ hbits w128 → FitsSigned w128 (to_z w128 (of_z w128 a) *ℤ to_z w128 (of_z w128 b))
wide_product_fits a b x y m n e f h k p q r =
    let z = both_wider a b x y e f h k in
    subst (λ (s : ℤ). FitsSigned w128 (to_z w128 (of_z w128 s) *ℤ to_z w128 (of_z w128 b))) (sym z.0)
    (subst (λ (t : ℤ). FitsSigned w128 (to_z w128 (of_z w128 x) *ℤ to_z w128 (of_z w128 t))) (sym z.1) (product_fits w128 x y m n (wider x h) (wider y k) p q r))

pub wide_product_is : (a b x y : ℤ) (m n : ℕ) → a ≡ to_z w64 (of_z w64 x) → b ≡ to_z w64 (of_z w64 y) → FitsSigned w64 x → FitsSigned w64 y
    → unsigned_abs x ≤ m → unsigned_abs y ≤ n → m * n < 2 ^ hbits w128 → to_z w128 (of_z w128 (to_z w128 (of_z w128 a) *ℤ to_z w128 (of_z w128 b))) ≡ x *ℤ y
wide_product_is a b x y m n e f h k p q r =
    let z = both_wider a b x y e f h k in
    ap₂ (λ s t. to_z w128 (of_z w128 (to_z w128 (of_z w128 s) *ℤ to_z w128 (of_z w128 t)))) z.0 z.1 ∙ product_is w128 x y m n (wider x h) (wider y k) p q r

-- a number is no further from 0 than its type allows
pub within_type : (w : Width) (x : ℤ) → FitsSigned w x → unsigned_abs x ≤ 2 ^ hbits w
within_type w (pos n) h = omega (arith, h.sfits)
within_type w (negsuc n) h = omega (arith, h.sfits)

-- limits in 64 bits and in 128 bits
pub offset_fits : offset_limit < 2 ^ hbits w64
offset_fits = omega arith

pub axis_fits : axis_limit < 2 ^ hbits w64
axis_fits = omega arith

pub part_fits : part_limit < 2 ^ hbits w64
part_fits = omega arith

pub parts_fit : 2 * part_limit < 2 ^ hbits w64
parts_fit = omega arith

pub height_fits : 3 * part_limit < 2 ^ hbits w64
height_fits = omega arith

pub turn_fits : moments_limit < 2 ^ hbits w64
turn_fits = omega arith

pub square_fits : moments_limit * moments_limit < 2 ^ hbits w128
square_fits = omega arith

pub two_fit : 2 * (moments_limit * moments_limit) < 2 ^ hbits w128
two_fit = omega arith

pub squares_fit : 3 * (moments_limit * moments_limit) < 2 ^ hbits w128
squares_fit = omega arith

pub both_fit : 6 * (moments_limit * moments_limit) < 2 ^ hbits w128
both_fit = omega arith

pub all_fit : 9 * (moments_limit * moments_limit) < 2 ^ hbits w128
all_fit = omega arith

-- a product of components, a component of a moment, a sum of two of them, and a product of two sums
pub part_by : (r x y : ℤ) → unsigned_abs r ≤ part_limit → unsigned_abs x ≤ offset_limit → unsigned_abs y ≤ axis_limit
    → r ≡ to_z w64 (of_z w64 x) *ℤ to_z w64 (of_z w64 y) → to_z w64 (of_z w64 r) ≡ x *ℤ y
part_by r x y h j k e = back_of w64 r part_limit part_fits h ∙ e ∙ ap₂ (λ a b. a *ℤ b) (back_of w64 x offset_limit offset_fits j) (back_of w64 y axis_limit axis_fits k)

pub minor_by : (r p q a b : ℤ) → unsigned_abs r ≤ 2 * part_limit → unsigned_abs p ≤ offset_limit → unsigned_abs q ≤ offset_limit → unsigned_abs a ≤ axis_limit → unsigned_abs b ≤ axis_limit
    → r ≡ to_z w64 (of_z w64 p) *ℤ to_z w64 (of_z w64 b) -ℤ to_z w64 (of_z w64 q) *ℤ to_z w64 (of_z w64 a) → to_z w64 (of_z w64 r) ≡ p *ℤ b -ℤ q *ℤ a
minor_by r p q a b h hp hq ha hb e =
    let p' = back_of w64 p offset_limit offset_fits hp in let q' = back_of w64 q offset_limit offset_fits hq in
    let a' = back_of w64 a axis_limit axis_fits ha in let b' = back_of w64 b axis_limit axis_fits hb in
    back_of w64 r (2 * part_limit) parts_fit h ∙ e ∙ (λ i. p' i *ℤ b' i -ℤ q' i *ℤ a' i)

pub plus_by : (r x y : ℤ) → unsigned_abs r ≤ moments_limit → unsigned_abs x ≤ 2 * part_limit → unsigned_abs y ≤ 2 * part_limit
    → r ≡ to_z w64 (of_z w64 x) +ℤ to_z w64 (of_z w64 y) → to_z w64 (of_z w64 r) ≡ x +ℤ y
plus_by r x y h j k e = back_of w64 r moments_limit turn_fits h ∙ e ∙ ap₂ (λ a b. a +ℤ b) (back_of w64 x (2 * part_limit) parts_fit j) (back_of w64 y (2 * part_limit) parts_fit k)

pub square_by : (r x y : ℤ) → unsigned_abs r ≤ moments_limit * moments_limit → unsigned_abs x ≤ moments_limit → unsigned_abs y ≤ moments_limit
    → r ≡ to_z w64 (of_z w64 x) *ℤ to_z w64 (of_z w64 y) → to_z w128 (of_z w128 r) ≡ x *ℤ y
square_by r x y h j k e = back_of w128 r (moments_limit * moments_limit) square_fits h ∙ e ∙ ap₂ (λ a b. a *ℤ b) (back_of w64 x moments_limit turn_fits j) (back_of w64 y moments_limit turn_fits k)

pub small_within : (w : Width) (z : ℤ) (m n : ℕ) → n < 2 ^ hbits w → m ≤ n → unsigned_abs z ≤ m → unsigned_abs (to_z w (of_z w z)) ≤ n
small_within w z m n r s h = small_back w z n r (omega (arith, s, h))

-- what is at a place of a list, which a number is equal to
pub at_place : (w : Width) (r : ℤ) (l : List ℤ) (i k m : ℕ) → i ≡ k → m < 2 ^ hbits w → unsigned_abs r ≤ m → r ≡ at l k → to_z w (of_z w r) ≡ at l i
at_place w r l i k m same fits h e = back_of w r m fits h ∙ e ∙ ap (λ j. at l j) (sym same)

-- components within a lesser limit
pub turn_within : (l : List ℤ) → IsWithin (2 * part_limit) l → IsWithin moments_limit l
turn_within l h = (omega (arith, h.0), omega (arith, h.1), omega (arith, h.2))

-- a height that is found to be below 0
pub below_told : (r x : ℤ) → unsigned_abs r ≤ 3 * part_limit → r ≡ x → int_lt (to_z w64 (of_z w64 r)) (pos 0) ≡ true → x <ℤ pos 0
below_told r x h e told =
    subst (λ (z : ℤ). z <ℤ pos 0) (back_of w64 r (3 * part_limit) height_fits h ∙ e) ((decides_lt (to_z w64 (of_z w64 r)) (pos 0)).0 told)

pub squares_within : 3 * (moments_limit * moments_limit) ≤ 9 * (moments_limit * moments_limit)
squares_within = omega arith

pub both_within : 6 * (moments_limit * moments_limit) ≤ 9 * (moments_limit * moments_limit)
both_within = omega arith

-- a sum of numbers within a limit
module _ (w : Width) (x y : ℤ) (n : ℕ) (r : n + n < 2 ^ hbits w) (h : unsigned_abs x ≤ n) (k : unsigned_abs y ≤ n) where
  both_summed : to_z w (of_z w x) +ℤ to_z w (of_z w y) ≡ x +ℤ y
  both_summed = ap₂ (λ a b. a +ℤ b) (back_of w x n (omega (arith, r)) h) (back_of w y n (omega (arith, r)) k)

  pub sum_fits : FitsSigned w (to_z w (of_z w x) +ℤ to_z w (of_z w y))
  sum_fits = subst (FitsSigned w) (sym both_summed) (fits_signed_from_abs w (x +ℤ y) (omega (arith, r, two_small x y n h k)))

  pub sum_is : to_z w (of_z w (to_z w (of_z w x) +ℤ to_z w (of_z w y))) ≡ x +ℤ y
  sum_is = to_z-of_z w (to_z w (of_z w x) +ℤ to_z w (of_z w y)) sum_fits ∙ both_summed

  pub sum_within : (l : ℕ) → n + n ≤ l → unsigned_abs (to_z w (of_z w (to_z w (of_z w x) +ℤ to_z w (of_z w y)))) ≤ l
  sum_within l m = small_as _ (x +ℤ y) l sum_is (omega (arith, m, two_small x y n h k))

-- a difference of numbers within a limit
module _ (w : Width) (x y : ℤ) (n : ℕ) (r : n + n < 2 ^ hbits w) (h : unsigned_abs x ≤ n) (k : unsigned_abs y ≤ n) where
  both_lessened : to_z w (of_z w x) -ℤ to_z w (of_z w y) ≡ x -ℤ y
  both_lessened = ap₂ (λ a b. a -ℤ b) (back_of w x n (omega (arith, r)) h) (back_of w y n (omega (arith, r)) k)

  pub less_fits : FitsSigned w (to_z w (of_z w x) -ℤ to_z w (of_z w y))
  less_fits = subst (FitsSigned w) (sym both_lessened) (fits_signed_from_abs w (x -ℤ y) (omega (arith, r, h, k, abs_sub x y)))

  pub less_is : to_z w (of_z w (to_z w (of_z w x) -ℤ to_z w (of_z w y))) ≡ x -ℤ y
  less_is = to_z-of_z w (to_z w (of_z w x) -ℤ to_z w (of_z w y)) less_fits ∙ both_lessened

-- a sum of three
module _ (w : Width) (x y z : ℤ) (n : ℕ) (r : n + n + n < 2 ^ hbits w) (h : unsigned_abs x ≤ n) (k : unsigned_abs y ≤ n) (l : unsigned_abs z ≤ n) where
  all_summed : to_z w (of_z w (to_z w (of_z w x) +ℤ to_z w (of_z w y))) +ℤ to_z w (of_z w z) ≡ (x +ℤ y) +ℤ z
  all_summed = ap₂ (λ a b. a +ℤ b) (sum_is w x y n (omega (arith, r)) h k) (back_of w z n (omega (arith, r)) l)

  pub sums_fit : FitsSigned w (to_z w (of_z w (to_z w (of_z w x) +ℤ to_z w (of_z w y))) +ℤ to_z w (of_z w z))
  sums_fit = subst (FitsSigned w) (sym all_summed) (fits_signed_from_abs w ((x +ℤ y) +ℤ z) (omega (arith, r, three_small x y z n h k l)))

  pub sums_are : to_z w (of_z w (to_z w (of_z w (to_z w (of_z w x) +ℤ to_z w (of_z w y))) +ℤ to_z w (of_z w z))) ≡ (x +ℤ y) +ℤ z
  sums_are = to_z-of_z w (to_z w (of_z w (to_z w (of_z w x) +ℤ to_z w (of_z w y))) +ℤ to_z w (of_z w z)) sums_fit ∙ all_summed

  pub sums_small : unsigned_abs (to_z w (of_z w (to_z w (of_z w (to_z w (of_z w x) +ℤ to_z w (of_z w y))) +ℤ to_z w (of_z w z)))) ≤ n + n + n
  sums_small = small_as _ ((x +ℤ y) +ℤ z) (n + n + n) sums_are (three_small x y z n h k l)
