-- The lengths of a slab, which are small, and what they come to as they are read from their words.
use Rattle.std.proofs.Common.{◌≡◌, ◌≤◌, ℕ, ℤ, pos, negsuc, ◌*ℤ◌, ◌≤ℤ◌, FitsSigned, to_z, of_z, unsigned_abs, arith, ap, ◌∙◌}
use Rattle.std.proofs.lemmas.Int.{ints, to_z-of_z}
use mir.Syntax.{w32, w128}
use Rattle.bern_form.specs.Cells.{scaled_square}
use Rattle.bern_form.specs.Slab.{IsSlab, SlabSize}
use Rattle.space.proofs.Reread.{back_of, small_back}
use Rattle.width_bisect.specs.Bounds.{bounds_of}

within : (x y : ℤ) → pos 0 ≤ℤ x → x ≤ℤ y → y ≤ℤ pos 300000 → unsigned_abs x ≤ 300000
within (pos n) (pos m) low high most = omega (arith, ints)
within (pos n) (negsuc m) low high most = absurd (omega (arith, ints))
within (negsuc n) y low high most = absurd (omega (arith, ints))

-- each is at most 300,000
pub record AreSmall (s : SlabSize) : Type 0 where
  pub lo : unsigned_abs s.lo ≤ 300000
  pub hi : unsigned_abs s.hi ≤ 300000
  pub dia : unsigned_abs s.dia ≤ 300000

pub are_small : (s : SlabSize) → IsSlab s → AreSmall s
are_small s h = record {
  lo = within s.lo s.hi h.above_tip h.ordered h.height;
  hi = within s.hi s.hi (let low = h.above_tip in let high = h.ordered in omega (arith, ints)) (omega (arith, ints)) h.height;
  dia = within s.dia s.dia h.thick (omega (arith, ints)) (let most = h.width in omega (arith, ints));
}

pub passed : (x : ℤ) → unsigned_abs x ≤ 300000 → unsigned_abs (to_z w32 (of_z w32 x)) ≤ 300000
passed x = small_back w32 x 300000 (omega arith)

read : (r n x : ℤ) (scale : ℕ) → unsigned_abs x ≤ 300000 → FitsSigned w128 r → r ≡ scaled_square scale (to_z w32 (of_z w32 x)) *ℤ n
    → to_z w128 (of_z w128 r) ≡ scaled_square scale x *ℤ n
read r n x scale small fits is = to_z-of_z w128 r fits ∙ is ∙ ap (λ z. scaled_square scale z *ℤ n) (back_of w32 x 300000 (omega arith) small)

pub bounds_read : (low high width n : ℤ) (scale : ℕ) (s : SlabSize) → AreSmall s → FitsSigned w128 low → FitsSigned w128 high → FitsSigned w128 width
    → low ≡ scaled_square scale (to_z w32 (of_z w32 s.lo)) *ℤ n → high ≡ scaled_square scale (to_z w32 (of_z w32 s.hi)) *ℤ n
    → width ≡ scaled_square scale (to_z w32 (of_z w32 s.dia)) *ℤ n
    → record { low = to_z w128 (of_z w128 low); high = to_z w128 (of_z w128 high); width = to_z w128 (of_z w128 width) } ≡ bounds_of scale n s
bounds_read low high width n scale s small f g h p q r = λ i. record {
  low = read low n s.lo scale small.lo f p i;
  high = read high n s.hi scale small.hi g q i;
  width = read width n s.dia scale small.dia h r i;
}
