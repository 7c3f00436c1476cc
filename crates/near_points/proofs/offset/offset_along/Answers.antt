-- The offset is small, and computed in a word it is what it should be.
use Rattle.std.proofs.Common.{◌≤◌, ◌<◌, ◌^◌, ◌*◌, ◌-ℤ◌, ◌*ℤ◌, ℤ, pos, to_z, of_z, unsigned_abs, arith, refl, ap, ◌∙◌}
use mir.Syntax.{w64}
use Rattle.space.specs.Vectors.{at}
use Rattle.space.proofs.Naturals.{abs_sub}
use Rattle.sweep_boxes.specs.Limits.{place_limit}
use Rattle.space.specs.Ranges.{vector_limit}
use Rattle.near_points.proofs.Bits.{IsReckoned, difference_passed, place_passed, reckoned, small_fits}
use Rattle.near_points.proofs.offset.offset_along.Goals as goal

offset_reckoned : (x tip : ℤ) → unsigned_abs x ≤ 128 * place_limit → unsigned_abs tip ≤ 128 * place_limit
    → IsReckoned w64 vector_limit (to_z w64 (of_z w64 x) -ℤ to_z w64 (of_z w64 tip)) (x -ℤ tip)
offset_reckoned x tip h k =
    let few : 128 * place_limit < 2 ^ 63 = omega arith in
    let small : unsigned_abs (x -ℤ tip) ≤ vector_limit = let s = abs_sub x tip in omega (arith, s, h, k) in
    reckoned w64 vector_limit _ (x -ℤ tip)
    (difference_passed w64 x tip x tip refl refl (small_fits (128 * place_limit) x few h) (small_fits (128 * place_limit) tip few k))
    (small_fits vector_limit (x -ℤ tip) (omega arith) small) small

pub overflow_sub-result : goal.overflow_sub-result
overflow_sub-result c = (offset_reckoned c.scaled.result (at c.args.tip.now c.args.i) c.scaled.ensures.small c.requires.tip).fits

pub returns : goal.returns
returns c =
    let place = at c.args.place.now c.args.i in let tip = at c.args.tip.now c.args.i in
    let offset = offset_reckoned c.scaled.result tip c.scaled.ensures.small c.requires.tip in
    record {
      value = offset.value ∙ ap (λ z. z -ℤ tip) (c.scaled.ensures.value ∙ ap (λ z. pos c.args.scale *ℤ z) (place_passed _ place c.requires.place refl));
      small = offset.small;
    }
