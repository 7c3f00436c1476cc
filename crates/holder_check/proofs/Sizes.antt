-- A holder above a cutter is a valid cutter, and its numbers as they are computed.
use Rattle.std.proofs.Common.{◌≡◌, ◌+◌, ◌≤◌, ℤ, pos, negsuc, ◌+ℤ◌, ◌≤ℤ◌, unsigned_abs, to_z, of_z, w32, arith, refl, inl, inr, ap, ◌∙◌}
use Rattle.cutter_slabs.specs.Cutter.{CutterSize, IsCutter}
use Rattle.cutter_slabs.proofs.Widening.{upright_top}
use Rattle.ray_grid.proofs.TurnSizes.{small_read}
use Rattle.holder_check.specs.Above.{HolderFits, HolderSize, IsHolder, holder_cutter}

pub holder_is_cutter : (holder : HolderSize) (cutter : CutterSize) → IsHolder holder → IsCutter cutter → HolderFits holder cutter → IsCutter (holder_cutter holder cutter)
holder_is_cutter holder cutter valid whole fits =
    let wide = valid.wide in let width = valid.width in let long = valid.long in let high = whole.high in
    let top = upright_top holder.diameter (cutter.h + holder.length) in
    record {
      wide = wide;
      width = width;
      corner = omega arith;
      high = omega (arith, high);
      height = fits;
      rounded = omega arith;
      angle = refl;
      sharp = inl refl;
      top = omega (arith, top, width);
      hollow = omega (arith, long);
      plain = inr (refl, refl);
    }

pub sum_size : (h l : ℤ) → pos 0 ≤ℤ h → pos 0 ≤ℤ l → unsigned_abs (h +ℤ l) ≡ unsigned_abs h + unsigned_abs l
sum_size (pos h) (pos l) p q = refl
sum_size (pos h) (negsuc l) p q = absurd q.le
sum_size (negsuc h) l p q = absurd p.le

-- both together are no higher than a cutter may be, so their sum is what is computed
pub high_back : (h l : ℤ) → pos 0 ≤ℤ h → pos 0 ≤ℤ l → unsigned_abs h + unsigned_abs l ≤ 300000
    → to_z w32 (of_z w32 (to_z w32 (of_z w32 h) +ℤ to_z w32 (of_z w32 l))) ≡ h +ℤ l
high_back h l p q fits =
    let sum = sum_size h l p q in
    ap (λ (z : ℤ). to_z w32 (of_z w32 (z +ℤ to_z w32 (of_z w32 l)))) (small_read h (omega (arith, fits)))
    ∙ ap (λ (z : ℤ). to_z w32 (of_z w32 (h +ℤ z))) (small_read l (omega (arith, fits)))
    ∙ small_read (h +ℤ l) (omega (arith, fits, sum))

pub back : (z : ℤ) → unsigned_abs z ≤ 300000 → to_z w32 (of_z w32 z) ≡ z
back z small = small_read z (omega (arith, small))
