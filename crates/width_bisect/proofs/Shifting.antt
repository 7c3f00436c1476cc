-- Shifts to the right, and the numbers of a halving.
use Rattle.std.proofs.Common.{◌≡◌, ℕ, ◌*◌, ◌≤◌, ◌<◌, ◌^◌, ℤ, pos, negsuc, ◌+ℤ◌, ◌*ℤ◌, unsigned_abs, FitsSigned, arith, ◌+◌}
use Rattle.std.specs.Int.{int_shr}
use Rattle.std.proofs.lemmas.Int.{fits_signed_from_abs, ints}
use mir.Syntax.{w64, w128}
use mir.Val.{hbits}
use Rattle.space.proofs.Facts.{fits128}
use Rattle.space.proofs.Naturals.{abs_add, abs_mul}
use Rattle.width_bisect.specs.Halved.{fourth4, middle2, middle4, second2, second4, third4}
use Rattle.width_bisect.specs.Sizes.{height_limit, width_limit}

-- of a multiple they leave the number that it is a multiple of
pub shifted1 : (a z : ℤ) → a ≡ pos 2 *ℤ z → int_shr a 1 ≡ z
shifted1 (pos a) (pos z) e = omega (arith, ints)
shifted1 (pos a) (negsuc z) e = absurd (omega (arith, ints))
shifted1 (negsuc a) (pos z) e = absurd (omega (arith, ints))
shifted1 (negsuc a) (negsuc z) e = omega (arith, ints)

pub shifted2 : (a z : ℤ) → a ≡ pos 4 *ℤ z → int_shr a 2 ≡ z
shifted2 (pos a) (pos z) e = omega (arith, ints)
shifted2 (pos a) (negsuc z) e = absurd (omega (arith, ints))
shifted2 (negsuc a) (pos z) e = absurd (omega (arith, ints))
shifted2 (negsuc a) (negsuc z) e = omega (arith, ints)

pub shifted3 : (a z : ℤ) → a ≡ pos 8 *ℤ z → int_shr a 3 ≡ z
shifted3 (pos a) (pos z) e = omega (arith, ints)
shifted3 (pos a) (negsuc z) e = absurd (omega (arith, ints))
shifted3 (negsuc a) (pos z) e = absurd (omega (arith, ints))
shifted3 (negsuc a) (negsuc z) e = omega (arith, ints)

pub shifted4 : (a z : ℤ) → a ≡ pos 16 *ℤ z → int_shr a 4 ≡ z
shifted4 (pos a) (pos z) e = omega (arith, ints)
shifted4 (pos a) (negsuc z) e = absurd (omega (arith, ints))
shifted4 (negsuc a) (pos z) e = absurd (omega (arith, ints))
shifted4 (negsuc a) (negsuc z) e = omega (arith, ints)

-- what is left is smaller by the same factor
small1 : (a : ℤ) (m : ℕ) → unsigned_abs a ≤ 2 * m → unsigned_abs (int_shr a 1) ≤ m
small1 (pos a) m h = omega arith
small1 (negsuc a) m h = omega arith

small2 : (a : ℤ) (m : ℕ) → unsigned_abs a ≤ 4 * m → unsigned_abs (int_shr a 2) ≤ m
small2 (pos a) m h = omega arith
small2 (negsuc a) m h = omega arith

small3 : (a : ℤ) (m : ℕ) → unsigned_abs a ≤ 8 * m → unsigned_abs (int_shr a 3) ≤ m
small3 (pos a) m h = omega arith
small3 (negsuc a) m h = omega arith

small4 : (a : ℤ) (m : ℕ) → unsigned_abs a ≤ 16 * m → unsigned_abs (int_shr a 4) ≤ m
small4 (pos a) m h = omega arith
small4 (negsuc a) m h = omega arith

-- sums of numbers that are bounded, each as often as its place says
sum_small : (a b : ℤ) (m n : ℕ) → unsigned_abs a ≤ m → unsigned_abs b ≤ n → unsigned_abs (a +ℤ b) ≤ m + n
sum_small a b m n h k = let s = abs_add a b in omega arith

pub fits64 : (z : ℤ) (n : ℕ) → unsigned_abs z ≤ n → n < 2 ^ 63 → FitsSigned w64 z
fits64 z n h l = fits_signed_from_abs w64 z (omega arith)

two_terms : (a b : ℤ) (k m : ℕ) → unsigned_abs a ≤ m → unsigned_abs b ≤ k * m → unsigned_abs (pos k *ℤ a +ℤ b) ≤ k * m + k * m
two_terms a b k m h l = sum_small (pos k *ℤ a) b (k * m) (k * m) (abs_mul (pos k) a k m (omega arith) h) l

pub record Middle2Fits (a b c : ℤ) : Type 0 where
  pub two : FitsSigned w64 (a +ℤ b)
  pub whole : FitsSigned w64 ((a +ℤ b) +ℤ c)
  pub middle : FitsSigned w64 (middle2 a b c)

middle2_sum : (a b c : ℤ) (m : ℕ) → unsigned_abs a ≤ m → unsigned_abs b ≤ 2 * m → unsigned_abs c ≤ m → unsigned_abs ((a +ℤ b) +ℤ c) ≤ 4 * m
middle2_sum a b c m h k l = let x = sum_small a b m (2 * m) h k in let y = sum_small (a +ℤ b) c (m + 2 * m) m x l in omega (arith, y)

pub middle2_small : (a b c : ℤ) (m : ℕ) → unsigned_abs a ≤ m → unsigned_abs b ≤ 2 * m → unsigned_abs c ≤ m → unsigned_abs (middle2 a b c) ≤ m
middle2_small a b c m h k l = small2 ((a +ℤ b) +ℤ c) m (middle2_sum a b c m h k l)

pub middle2_fits : (a b c : ℤ) → unsigned_abs a ≤ height_limit → unsigned_abs b ≤ 2 * height_limit → unsigned_abs c ≤ height_limit → Middle2Fits a b c
middle2_fits a b c h k l = record {
  two = fits64 (a +ℤ b) (height_limit + 2 * height_limit) (sum_small a b height_limit (2 * height_limit) h k) (omega arith);
  whole = fits64 ((a +ℤ b) +ℤ c) (4 * height_limit) (middle2_sum a b c height_limit h k l) (omega arith);
  middle = fits64 (middle2 a b c) height_limit (middle2_small a b c height_limit h k l) (omega arith);
}

pub second2_small : (a b : ℤ) (m : ℕ) → unsigned_abs a ≤ m → unsigned_abs b ≤ 2 * m → unsigned_abs (second2 a b) ≤ 2 * m
second2_small a b m h k = let x = two_terms a b 2 m h k in small1 (pos 2 *ℤ a +ℤ b) (2 * m) (omega (arith, x))

pub second4_small : (a b : ℤ) (m : ℕ) → unsigned_abs a ≤ m → unsigned_abs b ≤ 4 * m → unsigned_abs (second4 a b) ≤ 4 * m
second4_small a b m h k = let x = two_terms a b 4 m h k in small1 (pos 4 *ℤ a +ℤ b) (4 * m) (omega (arith, x))

pub record Second2Fits (a b : ℤ) : Type 0 where
  pub first : FitsSigned w64 (pos 2 *ℤ a)
  pub whole : FitsSigned w64 (pos 2 *ℤ a +ℤ b)
  pub second : FitsSigned w64 (second2 a b)

pub second2_fits : (a b : ℤ) → unsigned_abs a ≤ height_limit → unsigned_abs b ≤ 2 * height_limit → Second2Fits a b
second2_fits a b h k = record {
  first = fits64 (pos 2 *ℤ a) (2 * height_limit) (abs_mul (pos 2) a 2 height_limit (omega arith) h) (omega arith);
  whole = fits64 (pos 2 *ℤ a +ℤ b) (2 * height_limit + 2 * height_limit) (two_terms a b 2 height_limit h k) (omega arith);
  second = fits64 (second2 a b) (2 * height_limit) (second2_small a b height_limit h k) (omega arith);
}

pub record Second4Fits (a b : ℤ) : Type 0 where
  pub first : FitsSigned w128 (pos 4 *ℤ a)
  pub whole : FitsSigned w128 (pos 4 *ℤ a +ℤ b)
  pub second : FitsSigned w128 (second4 a b)

pub second4_fits : (a b : ℤ) → unsigned_abs a ≤ width_limit → unsigned_abs b ≤ 4 * width_limit → Second4Fits a b
second4_fits a b h k = record {
  first = fits128 (pos 4 *ℤ a) (4 * width_limit) (abs_mul (pos 4) a 4 width_limit (omega arith) h) (omega arith);
  whole = fits128 (pos 4 *ℤ a +ℤ b) (4 * width_limit + 4 * width_limit) (two_terms a b 4 width_limit h k) (omega arith);
  second = fits128 (second4 a b) (4 * width_limit) (second4_small a b width_limit h k) (omega arith);
}

multiple_small : (k : ℕ) (a : ℤ) (m : ℕ) → unsigned_abs a ≤ m → unsigned_abs (pos k *ℤ a) ≤ k * m
multiple_small k a m h = abs_mul (pos k) a k m (omega arith) h

pub record Third4Fits (a b c : ℤ) : Type 0 where
  pub first : FitsSigned w128 (pos 6 *ℤ a)
  pub second : FitsSigned w128 (pos 3 *ℤ b)
  pub two : FitsSigned w128 (pos 6 *ℤ a +ℤ pos 3 *ℤ b)
  pub whole : FitsSigned w128 ((pos 6 *ℤ a +ℤ pos 3 *ℤ b) +ℤ c)
  pub third : FitsSigned w128 (third4 a b c)

third4_two : (a b : ℤ) (m : ℕ) → unsigned_abs a ≤ m → unsigned_abs b ≤ 4 * m → unsigned_abs (pos 6 *ℤ a +ℤ pos 3 *ℤ b) ≤ 18 * m
third4_two a b m h k =
    let x = sum_small (pos 6 *ℤ a) (pos 3 *ℤ b) (6 * m) (3 * (4 * m)) (multiple_small 6 a m h) (multiple_small 3 b (4 * m) k) in omega (arith, x)

third4_sum : (a b c : ℤ) (m : ℕ) → unsigned_abs a ≤ m → unsigned_abs b ≤ 4 * m → unsigned_abs c ≤ 6 * m → unsigned_abs ((pos 6 *ℤ a +ℤ pos 3 *ℤ b) +ℤ c) ≤ 24 * m
third4_sum a b c m h k l = let x = sum_small (pos 6 *ℤ a +ℤ pos 3 *ℤ b) c (18 * m) (6 * m) (third4_two a b m h k) l in omega (arith, x)

pub third4_small : (a b c : ℤ) (m : ℕ) → unsigned_abs a ≤ m → unsigned_abs b ≤ 4 * m → unsigned_abs c ≤ 6 * m → unsigned_abs (third4 a b c) ≤ 6 * m
third4_small a b c m h k l = let x = third4_sum a b c m h k l in small2 ((pos 6 *ℤ a +ℤ pos 3 *ℤ b) +ℤ c) (6 * m) (omega (arith, x))

pub third4_fits : (a b c : ℤ) → unsigned_abs a ≤ width_limit → unsigned_abs b ≤ 4 * width_limit → unsigned_abs c ≤ 6 * width_limit → Third4Fits a b c
third4_fits a b c h k l = record {
  first = fits128 (pos 6 *ℤ a) (6 * width_limit) (multiple_small 6 a width_limit h) (omega arith);
  second = fits128 (pos 3 *ℤ b) (3 * (4 * width_limit)) (multiple_small 3 b (4 * width_limit) k) (omega arith);
  two = fits128 (pos 6 *ℤ a +ℤ pos 3 *ℤ b) (18 * width_limit) (third4_two a b width_limit h k) (omega arith);
  whole = fits128 ((pos 6 *ℤ a +ℤ pos 3 *ℤ b) +ℤ c) (24 * width_limit) (third4_sum a b c width_limit h k l) (omega arith);
  third = fits128 (third4 a b c) (6 * width_limit) (third4_small a b c width_limit h k l) (omega arith);
}

pub record Fourth4Fits (a b c d : ℤ) : Type 0 where
  pub first : FitsSigned w128 (pos 4 *ℤ a)
  pub second : FitsSigned w128 (pos 3 *ℤ b)
  pub third : FitsSigned w128 (pos 2 *ℤ c)
  pub two : FitsSigned w128 (pos 4 *ℤ a +ℤ pos 3 *ℤ b)
  pub three : FitsSigned w128 ((pos 4 *ℤ a +ℤ pos 3 *ℤ b) +ℤ pos 2 *ℤ c)
  pub whole : FitsSigned w128 (((pos 4 *ℤ a +ℤ pos 3 *ℤ b) +ℤ pos 2 *ℤ c) +ℤ d)
  pub fourth : FitsSigned w128 (fourth4 a b c d)

fourth4_two : (a b : ℤ) (m : ℕ) → unsigned_abs a ≤ m → unsigned_abs b ≤ 4 * m → unsigned_abs (pos 4 *ℤ a +ℤ pos 3 *ℤ b) ≤ 16 * m
fourth4_two a b m h k =
    let x = sum_small (pos 4 *ℤ a) (pos 3 *ℤ b) (4 * m) (3 * (4 * m)) (multiple_small 4 a m h) (multiple_small 3 b (4 * m) k) in omega (arith, x)

fourth4_three : (a b c : ℤ) (m : ℕ) → unsigned_abs a ≤ m → unsigned_abs b ≤ 4 * m → unsigned_abs c ≤ 6 * m
    → unsigned_abs ((pos 4 *ℤ a +ℤ pos 3 *ℤ b) +ℤ pos 2 *ℤ c) ≤ 28 * m
fourth4_three a b c m h k l =
    let x = sum_small (pos 4 *ℤ a +ℤ pos 3 *ℤ b) (pos 2 *ℤ c) (16 * m) (2 * (6 * m)) (fourth4_two a b m h k) (multiple_small 2 c (6 * m) l) in omega (arith, x)

fourth4_sum : (a b c d : ℤ) (m : ℕ) → unsigned_abs a ≤ m → unsigned_abs b ≤ 4 * m → unsigned_abs c ≤ 6 * m → unsigned_abs d ≤ 4 * m
    → unsigned_abs (((pos 4 *ℤ a +ℤ pos 3 *ℤ b) +ℤ pos 2 *ℤ c) +ℤ d) ≤ 32 * m
fourth4_sum a b c d m h k l n =
    let x = sum_small ((pos 4 *ℤ a +ℤ pos 3 *ℤ b) +ℤ pos 2 *ℤ c) d (28 * m) (4 * m) (fourth4_three a b c m h k l) n in omega (arith, x)

pub fourth4_small : (a b c d : ℤ) (m : ℕ) → unsigned_abs a ≤ m → unsigned_abs b ≤ 4 * m → unsigned_abs c ≤ 6 * m → unsigned_abs d ≤ 4 * m
    → unsigned_abs (fourth4 a b c d) ≤ 4 * m
fourth4_small a b c d m h k l n =
    let x = fourth4_sum a b c d m h k l n in small3 (((pos 4 *ℤ a +ℤ pos 3 *ℤ b) +ℤ pos 2 *ℤ c) +ℤ d) (4 * m) (omega (arith, x))

pub fourth4_fits : (a b c d : ℤ) → unsigned_abs a ≤ width_limit → unsigned_abs b ≤ 4 * width_limit → unsigned_abs c ≤ 6 * width_limit → unsigned_abs d ≤ 4 * width_limit
    → Fourth4Fits a b c d
fourth4_fits a b c d h k l n = record {
  first = fits128 (pos 4 *ℤ a) (4 * width_limit) (multiple_small 4 a width_limit h) (omega arith);
  second = fits128 (pos 3 *ℤ b) (3 * (4 * width_limit)) (multiple_small 3 b (4 * width_limit) k) (omega arith);
  third = fits128 (pos 2 *ℤ c) (2 * (6 * width_limit)) (multiple_small 2 c (6 * width_limit) l) (omega arith);
  two = fits128 (pos 4 *ℤ a +ℤ pos 3 *ℤ b) (16 * width_limit) (fourth4_two a b width_limit h k) (omega arith);
  three = fits128 ((pos 4 *ℤ a +ℤ pos 3 *ℤ b) +ℤ pos 2 *ℤ c) (28 * width_limit) (fourth4_three a b c width_limit h k l) (omega arith);
  whole = fits128 (((pos 4 *ℤ a +ℤ pos 3 *ℤ b) +ℤ pos 2 *ℤ c) +ℤ d) (32 * width_limit) (fourth4_sum a b c d width_limit h k l n) (omega arith);
  fourth = fits128 (fourth4 a b c d) (4 * width_limit) (fourth4_small a b c d width_limit h k l n) (omega arith);
}

pub record Middle4Fits (a b c d e : ℤ) : Type 0 where
  pub two : FitsSigned w128 (a +ℤ b)
  pub three : FitsSigned w128 ((a +ℤ b) +ℤ c)
  pub four : FitsSigned w128 (((a +ℤ b) +ℤ c) +ℤ d)
  pub whole : FitsSigned w128 ((((a +ℤ b) +ℤ c) +ℤ d) +ℤ e)
  pub middle : FitsSigned w128 (middle4 a b c d e)

middle4_two : (a b : ℤ) (m : ℕ) → unsigned_abs a ≤ m → unsigned_abs b ≤ 4 * m → unsigned_abs (a +ℤ b) ≤ 5 * m
middle4_two a b m h k = let x = sum_small a b m (4 * m) h k in omega (arith, x)

middle4_three : (a b c : ℤ) (m : ℕ) → unsigned_abs a ≤ m → unsigned_abs b ≤ 4 * m → unsigned_abs c ≤ 6 * m → unsigned_abs ((a +ℤ b) +ℤ c) ≤ 11 * m
middle4_three a b c m h k l = let x = sum_small (a +ℤ b) c (5 * m) (6 * m) (middle4_two a b m h k) l in omega (arith, x)

middle4_four : (a b c d : ℤ) (m : ℕ) → unsigned_abs a ≤ m → unsigned_abs b ≤ 4 * m → unsigned_abs c ≤ 6 * m → unsigned_abs d ≤ 4 * m
    → unsigned_abs (((a +ℤ b) +ℤ c) +ℤ d) ≤ 15 * m
middle4_four a b c d m h k l n = let x = sum_small ((a +ℤ b) +ℤ c) d (11 * m) (4 * m) (middle4_three a b c m h k l) n in omega (arith, x)

middle4_sum : (a b c d e : ℤ) (m : ℕ) → unsigned_abs a ≤ m → unsigned_abs b ≤ 4 * m → unsigned_abs c ≤ 6 * m → unsigned_abs d ≤ 4 * m → unsigned_abs e ≤ m
    → unsigned_abs ((((a +ℤ b) +ℤ c) +ℤ d) +ℤ e) ≤ 16 * m
middle4_sum a b c d e m h k l n o = let x = sum_small (((a +ℤ b) +ℤ c) +ℤ d) e (15 * m) m (middle4_four a b c d m h k l n) o in omega (arith, x)

pub middle4_small : (a b c d e : ℤ) (m : ℕ) → unsigned_abs a ≤ m → unsigned_abs b ≤ 4 * m → unsigned_abs c ≤ 6 * m → unsigned_abs d ≤ 4 * m → unsigned_abs e ≤ m
    → unsigned_abs (middle4 a b c d e) ≤ m
middle4_small a b c d e m h k l n o = small4 ((((a +ℤ b) +ℤ c) +ℤ d) +ℤ e) m (middle4_sum a b c d e m h k l n o)

pub middle4_fits : (a b c d e : ℤ) → unsigned_abs a ≤ width_limit → unsigned_abs b ≤ 4 * width_limit → unsigned_abs c ≤ 6 * width_limit → unsigned_abs d ≤ 4 * width_limit
    → unsigned_abs e ≤ width_limit → Middle4Fits a b c d e
middle4_fits a b c d e h k l n o = record {
  two = fits128 (a +ℤ b) (5 * width_limit) (middle4_two a b width_limit h k) (omega arith);
  three = fits128 ((a +ℤ b) +ℤ c) (11 * width_limit) (middle4_three a b c width_limit h k l) (omega arith);
  four = fits128 (((a +ℤ b) +ℤ c) +ℤ d) (15 * width_limit) (middle4_four a b c d width_limit h k l n) (omega arith);
  whole = fits128 ((((a +ℤ b) +ℤ c) +ℤ d) +ℤ e) (16 * width_limit) (middle4_sum a b c d e width_limit h k l n o) (omega arith);
  middle = fits128 (middle4 a b c d e) width_limit (middle4_small a b c d e width_limit h k l n o) (omega arith);
}

-- limits in 128 bits
pub width_fits : width_limit < 2 ^ hbits w128
width_fits = omega arith

pub widths_fit : 4 * width_limit < 2 ^ hbits w128
widths_fit = omega arith

pub most_fit : 6 * width_limit < 2 ^ hbits w128
most_fit = omega arith
