-- A number and n times another: what a machine word holds of it, where neither the number nor the sum is great.
use Rattle.std.proofs.Common.{◌≡◌, ℕ, ◌*◌, ◌^◌, ◌<◌, ◌≤◌, ℤ, pos, ◌+ℤ◌, ◌*ℤ◌, Fits, FitsSigned, to_z, of_z, unsigned_abs, arith, refl, sym, subst, ap₂, ◌∙◌}
use Rattle.std.proofs.lemmas.Int.{ints, to_z-of_z, fits_signed_from_abs}
use mir.Syntax.{w32, w64}
use borrow.Author.Differences.{abs_is}
use Rattle.near_points.specs.declared.axis_offset.AxisOffset.{AxisOffset}
use Rattle.near_points.specs.declared.ray_step.RayStep.{RayStep}
use Rattle.near_points.specs.Limits.{moment_limit, tilt_limit}
use Rattle.near_points.specs.Lines.{FitsAfter, FitsMoved}
use Rattle.near_points.proofs.Bits.{IsReckoned, as_bits, product_passed, reckoned, small_fits, small_passed, sum_passed}

abbrev pub sum_of : ℤ → ℤ → ℤ → ℤ
sum_of a b n = to_z w64 (of_z w64 a) +ℤ n *ℤ to_z w64 (of_z w64 b)

-- what the caller of such a sum passes is as small as what it stands for, and so is the sum
pub record MovesWithin (m : ℕ) (a b n : ℤ) : Type 0 where
  pub passed : record { from : unsigned_abs (to_z w64 (of_z w64 a)) ≤ m; to : unsigned_abs (sum_of a b n) ≤ m }
  pub value : (r : ℤ) → r ≡ sum_of a b n → to_z w64 (of_z w64 r) ≡ a +ℤ n *ℤ b
  pub small : (r : ℤ) → r ≡ sum_of a b n → unsigned_abs (to_z w64 (of_z w64 r)) ≤ m

moves_within : (m : ℕ) (a b n : ℤ) → m < 2 ^ 63 → unsigned_abs a ≤ m → unsigned_abs b ≤ m → unsigned_abs (a +ℤ n *ℤ b) ≤ m
    → MovesWithin m a b n
moves_within m a b n few ha hb h =
    let passed : sum_of a b n ≡ a +ℤ n *ℤ b =
    ap₂ (λ p q. p +ℤ n *ℤ q) (to_z-of_z w64 a (small_fits m a few ha)) (to_z-of_z w64 b (small_fits m b few hb)) in
    let value = λ (r : ℤ) (e : r ≡ sum_of a b n). as_bits w64 r (a +ℤ n *ℤ b) (e ∙ passed) (small_fits m (a +ℤ n *ℤ b) few h) in
    record {
      passed = record { from = small_passed m a few ha; to = subst (λ (z : ℤ). unsigned_abs z ≤ m) (sym passed) h };
      value = value;
      small = λ r e. subst (λ (z : ℤ). unsigned_abs z ≤ m) (sym (value r e)) h;
    }

pub moment_moves : (a b n : ℤ) → unsigned_abs a ≤ moment_limit → unsigned_abs b ≤ moment_limit → unsigned_abs (a +ℤ n *ℤ b) ≤ moment_limit
    → MovesWithin moment_limit a b n
moment_moves a b n = moves_within moment_limit a b n (omega arith)

pub tilt_moves : (a b n : ℤ) → unsigned_abs a ≤ tilt_limit → unsigned_abs b ≤ tilt_limit → unsigned_abs (a +ℤ n *ℤ b) ≤ tilt_limit
    → MovesWithin tilt_limit a b n
tilt_moves a b n = moves_within tilt_limit a b n (omega arith)

-- the numbers of an axis offset, moved by n times those of another
pub record AxisOffsetMoves (s t : AxisOffset) (n : ℤ) : Type 0 where
  pub along : MovesWithin moment_limit s.along t.along n
  pub second : MovesWithin moment_limit s.second t.second n
  pub third : MovesWithin moment_limit s.third t.third n
  pub side : MovesWithin tilt_limit s.side t.side n
  pub height : MovesWithin moment_limit s.height t.height n

pub axis_offset_moves : (s t : AxisOffset) (n : ℤ) → FitsMoved s t n → AxisOffsetMoves s t n
axis_offset_moves s t n fits = record {
  along = moment_moves s.along t.along n s.along_small t.along_small fits.along;
  second = moment_moves s.second t.second n s.second_small t.second_small fits.second;
  third = moment_moves s.third t.third n s.third_small t.third_small fits.third;
  side = tilt_moves s.side t.side n s.side_small t.side_small fits.side;
  height = moment_moves s.height t.height n s.height_small t.height_small fits.height;
}

-- and by what l steps add
pub record StepMoves (s : AxisOffset) (t : RayStep) (l : ℤ) : Type 0 where
  pub second : MovesWithin moment_limit s.second t.second l
  pub third : MovesWithin moment_limit s.third t.third l
  pub side : MovesWithin tilt_limit s.side t.side l
  pub height : MovesWithin moment_limit s.height t.height l

pub step_moves : (s : AxisOffset) (t : RayStep) (l : ℤ) → FitsAfter s t l → StepMoves s t l
step_moves s t l fits = record {
  second = moment_moves s.second t.second l s.second_small t.second_small fits.second;
  third = moment_moves s.third t.third l s.third_small t.third_small fits.third;
  side = tilt_moves s.side t.side l s.side_small t.side_small fits.side;
  height = moment_moves s.height t.height l s.height_small t.height_small fits.height;
}

-- the sum as code computes it, where f is n as a word: first the product, and then the whole
added_fits : (m : ℕ) (a y : ℤ) → 2 * m < 2 ^ 63 → unsigned_abs a ≤ m → unsigned_abs (a +ℤ y) ≤ m → FitsSigned w64 y
added_fits m a y few ha h = fits_signed_from_abs w64 y (omega (arith, ints, few, ha, h, abs_is a, abs_is y, abs_is (a +ℤ y)))

count_fits : (n : ℕ) → Fits w32 n → FitsSigned w64 (pos n)
count_fits n h = fits_signed_from_abs w64 (pos n) (omega (arith, h.fits))

abbrev product_in : ℤ → ℤ → ℤ
product_in f b = to_z w64 (of_z w64 f) *ℤ to_z w64 (of_z w64 b)

pub record MovesInWord (m : ℕ) (a b f : ℤ) (n : ℕ) : Type 0 where
  pub product : FitsSigned w64 (product_in f b)
  pub whole : IsReckoned w64 m (to_z w64 (of_z w64 a) +ℤ to_z w64 (of_z w64 (product_in f b))) (a +ℤ pos n *ℤ b)

pub moves_in_word : (m : ℕ) (a b f : ℤ) (n : ℕ) → 2 * m < 2 ^ 63 → unsigned_abs a ≤ m → unsigned_abs (a +ℤ pos n *ℤ b) ≤ m
    → f ≡ pos n → Fits w32 n → FitsSigned w64 b → MovesInWord m a b f n
moves_in_word m a b f n few ha h is hn hb =
    let less : m < 2 ^ 63 = omega (arith, few) in let step = added_fits m a (pos n *ℤ b) few ha h in
    let step_is = product_passed w64 f b (pos n) b is refl (count_fits n hn) hb in
    let whole_is = sum_passed w64 a _ a (pos n *ℤ b) refl step_is (small_fits m a less ha) step in
    record {
      product = subst (FitsSigned w64) (sym step_is) step;
      whole = reckoned w64 m _ (a +ℤ pos n *ℤ b) whole_is (small_fits m (a +ℤ pos n *ℤ b) less h) h;
    }
