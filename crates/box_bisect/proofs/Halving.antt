-- The forms of a point on a stretch give those of its halves: the divisions leave nothing, since the samples are whole.
use Rattle.std.proofs.Common.{◌≡◌, ℕ, ◌+◌, ◌*◌, ◌≤◌, [], ◌∷◌, List, ℤ, pos, ◌+ℤ◌, ◌*ℤ◌, ◌-ℤ◌, unsigned_abs, int_div, int_rem, FitsSigned, arith, ap, refl, ◌∙◌}
use Rattle.std.proofs.lemmas.Int.{ints, quot-rem, quot_fits, rem_below}
use mir.Syntax.{w128}
use Rattle.space.proofs.Facts.{fits128}
use Rattle.space.proofs.Naturals.{abs_add, abs_mul}
use borrow.Author.Differences.{abs_is}
use Rattle.space.specs.Sweeps.{SweepOf}
use Rattle.space.specs.Vectors.{at}
use Rattle.bern_form.specs.Between.{d_between, n_between, u_between}
use Rattle.bern_form.specs.Sizes.{IsBounded2, offset_limit}
use Rattle.bern_form.proofs.Halves.{d_of_first, d_of_last, n_of_first, n_of_last, u_of_first, u_of_last, whole_of_first, whole_of_last}
use Rattle.bern_form.proofs.HalfSigns.{three}
use Rattle.box_bisect.specs.Halved.{first_half, last_half}
use Rattle.box_bisect.specs.Stretches.{AreFormsBetween}

half_of : (a z : ℤ) → a ≡ pos 2 *ℤ z → int_div a (pos 2) ≡ z
half_of a z e =
    let r = int_rem a (pos 2) in let small = rem_below a (pos 2) (omega arith) in
    omega (arith, ints, quot-rem a (pos 2), small, abs_is r)

quarter_of : (a z : ℤ) → a ≡ pos 4 *ℤ z → int_div a (pos 4) ≡ z
quarter_of a z e =
    let r = int_rem a (pos 4) in let small = rem_below a (pos 4) (omega arith) in
    omega (arith, ints, quot-rem a (pos 4), small, abs_is r)

same3 : (a b c d e f : ℤ) → a ≡ d → b ≡ e → c ≡ f → a ∷ b ∷ c ∷ [] ≡ d ∷ e ∷ f ∷ []
same3 a b c d e f h k l = ap (λ z. z ∷ b ∷ c ∷ []) h ∙ ap (λ z. d ∷ z ∷ c ∷ []) k ∙ ap (λ z. d ∷ e ∷ z ∷ []) l

first_middle : (a b c : ℤ) → (a +ℤ (pos 2 *ℤ b -ℤ pos 2 *ℤ a)) +ℤ ((a -ℤ pos 2 *ℤ b) +ℤ pos 4 *ℤ c) ≡ pos 4 *ℤ c
first_middle a b c = omega (arith, ints)

first_second : (a b : ℤ) → pos 2 *ℤ a +ℤ (pos 2 *ℤ b -ℤ pos 2 *ℤ a) ≡ pos 2 *ℤ b
first_second a b = omega (arith, ints)

last_middle : (a b c : ℤ) → (((pos 4 *ℤ a -ℤ pos 2 *ℤ b) +ℤ c) +ℤ (pos 2 *ℤ b -ℤ pos 2 *ℤ c)) +ℤ c ≡ pos 4 *ℤ a
last_middle a b c = omega (arith, ints)

last_second : (b c : ℤ) → pos 2 *ℤ c +ℤ (pos 2 *ℤ b -ℤ pos 2 *ℤ c) ≡ pos 2 *ℤ b
last_second b c = omega (arith, ints)

halved_first : (h : List ℤ) → first_half (whole_of_first h) ≡ three h
halved_first h =
    let a = at h 0 in let b = at h 1 in let c = at h 2 in
    same3 _ _ _ _ _ _ refl (half_of _ b (first_second a b)) (quarter_of _ c (first_middle a b c))

halved_last : (h : List ℤ) → last_half (whole_of_last h) ≡ three h
halved_last h =
    let a = at h 0 in let b = at h 1 in let c = at h 2 in
    same3 _ _ _ _ _ _ (quarter_of _ a (last_middle a b c)) (half_of _ b (last_second b c)) refl

pub forms_of_first : (u n d : List ℤ) (m : SweepOf) (p : List ℤ) (j i k S : ℕ) → j + k ≡ 2 * i → AreFormsBetween u n d m p j k S
    → AreFormsBetween (first_half u) (first_half n) (first_half d) m p j i S
forms_of_first u n d m p j i k S h f = record {
  u_is = ap first_half (f.u_is ∙ u_of_first m p j i k S h) ∙ halved_first (u_between m p j i S);
  n_is = ap first_half (f.n_is ∙ n_of_first m j i k S h) ∙ halved_first (n_between m j i S);
  d_is = ap first_half (f.d_is ∙ d_of_first m p j i k S h) ∙ halved_first (d_between m p j i S);
}

pub forms_of_last : (u n d : List ℤ) (m : SweepOf) (p : List ℤ) (j i k S : ℕ) → j + k ≡ 2 * i → AreFormsBetween u n d m p j k S
    → AreFormsBetween (last_half u) (last_half n) (last_half d) m p i k S
forms_of_last u n d m p j i k S h f = record {
  u_is = ap last_half (f.u_is ∙ u_of_last m p j i k S h) ∙ halved_last (u_between m p i k S);
  n_is = ap last_half (f.n_is ∙ n_of_last m j i k S h) ∙ halved_last (n_between m i k S);
  d_is = ap last_half (f.d_is ∙ d_of_last m p j i k S h) ∙ halved_last (d_between m p i k S);
}

-- halves are no larger
pub half_small : (a : ℤ) (m : ℕ) → unsigned_abs a ≤ 2 * m → unsigned_abs (int_div a (pos 2)) ≤ m
half_small a m h =
    let q = int_div a (pos 2) in let r = int_rem a (pos 2) in let small = rem_below a (pos 2) (omega arith) in
    omega (arith, ints, quot-rem a (pos 2), small, abs_is r, abs_is q, abs_is a)

pub quarter_small : (a : ℤ) (m : ℕ) → unsigned_abs a ≤ 4 * m → unsigned_abs (int_div a (pos 4)) ≤ m
quarter_small a m h =
    let q = int_div a (pos 4) in let r = int_rem a (pos 4) in let small = rem_below a (pos 4) (omega arith) in
    omega (arith, ints, quot-rem a (pos 4), small, abs_is r, abs_is q, abs_is a)

-- the numbers of a halving fit
pub record HalfFits (a b : ℤ) : Type 0 where
  pub double : FitsSigned w128 (pos 2 *ℤ a)
  pub whole : FitsSigned w128 (pos 2 *ℤ a +ℤ b)
  pub half : FitsSigned w128 (int_div (pos 2 *ℤ a +ℤ b) (pos 2))

double_small : (a b : ℤ) (m : ℕ) → unsigned_abs a ≤ m → unsigned_abs b ≤ 2 * m → unsigned_abs (pos 2 *ℤ a +ℤ b) ≤ 2 * (2 * m)
double_small a b m h k = let x = abs_mul (pos 2) a 2 m (omega arith) h in let y = abs_add (pos 2 *ℤ a) b in omega (arith, x, y, k)

pub half_fits : (a b : ℤ) → unsigned_abs a ≤ 3 * (offset_limit * offset_limit) → unsigned_abs b ≤ 6 * (offset_limit * offset_limit) → HalfFits a b
half_fits a b h k =
    let x = abs_mul (pos 2) a 2 (3 * (offset_limit * offset_limit)) (omega arith) h in
    let whole = fits128 (pos 2 *ℤ a +ℤ b) (2 * (2 * (3 * (offset_limit * offset_limit)))) (double_small a b (3 * (offset_limit * offset_limit)) h (omega (arith, k))) (omega arith) in record {
      double = fits128 (pos 2 *ℤ a) (2 * (3 * (offset_limit * offset_limit))) x (omega arith);
      whole = whole;
      half = quot_fits w128 (pos 2 *ℤ a +ℤ b) (pos 2) whole (omega (arith, ints));
    }

pub half_sum_small : (a b : ℤ) (m : ℕ) → unsigned_abs a ≤ m → unsigned_abs b ≤ 2 * m → unsigned_abs (int_div (pos 2 *ℤ a +ℤ b) (pos 2)) ≤ 2 * m
half_sum_small a b m h k = half_small (pos 2 *ℤ a +ℤ b) (2 * m) (double_small a b m h k)

pub record QuarterFits (a b c : ℤ) : Type 0 where
  pub two : FitsSigned w128 (a +ℤ b)
  pub whole : FitsSigned w128 ((a +ℤ b) +ℤ c)
  pub quarter : FitsSigned w128 (int_div ((a +ℤ b) +ℤ c) (pos 4))

three_parts : (a b c : ℤ) (m : ℕ) → unsigned_abs a ≤ m → unsigned_abs b ≤ 2 * m → unsigned_abs c ≤ m → unsigned_abs ((a +ℤ b) +ℤ c) ≤ 4 * m
three_parts a b c m h k l = let x = abs_add a b in let y = abs_add (a +ℤ b) c in omega (arith, x, y, h, k, l)

pub quarter_fits : (a b c : ℤ) → unsigned_abs a ≤ 3 * (offset_limit * offset_limit) → unsigned_abs b ≤ 6 * (offset_limit * offset_limit) → unsigned_abs c ≤ 3 * (offset_limit * offset_limit) → QuarterFits a b c
quarter_fits a b c h k l =
    let x = abs_add a b in
    let whole = fits128 ((a +ℤ b) +ℤ c) (4 * (3 * (offset_limit * offset_limit))) (three_parts a b c (3 * (offset_limit * offset_limit)) h (omega (arith, k)) l) (omega arith) in record {
      two = fits128 (a +ℤ b) (9 * (offset_limit * offset_limit)) (omega (arith, x, h, k)) (omega arith);
      whole = whole;
      quarter = quot_fits w128 ((a +ℤ b) +ℤ c) (pos 4) whole (omega (arith, ints));
    }

pub quarter_sum_small : (a b c : ℤ) (m : ℕ) → unsigned_abs a ≤ m → unsigned_abs b ≤ 2 * m → unsigned_abs c ≤ m → unsigned_abs (int_div ((a +ℤ b) +ℤ c) (pos 4)) ≤ m
quarter_sum_small a b c m h k l = quarter_small ((a +ℤ b) +ℤ c) m (three_parts a b c m h k l)

pub first_small : (c : List ℤ) (m : ℕ) → IsBounded2 m c → IsBounded2 m (first_half c)
first_small c m h = record {
  first = h.first;
  middle = half_sum_small (at c 0) (at c 1) m h.first h.middle;
  last = quarter_sum_small (at c 0) (at c 1) (at c 2) m h.first h.middle h.last;
}

pub last_small : (c : List ℤ) (m : ℕ) → IsBounded2 m c → IsBounded2 m (last_half c)
last_small c m h = record {
  first = quarter_sum_small (at c 0) (at c 1) (at c 2) m h.first h.middle h.last;
  middle = half_sum_small (at c 2) (at c 1) m h.last h.middle;
  last = h.last;
}
