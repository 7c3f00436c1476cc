-- One slab decides at a sample, by the width in place of the distance from the axis.
use Rattle.std.proofs.Common.{◌≡◌, Bool, true, false, ◌&&◌, ℤ, pos, ◌*ℤ◌, ◌≤ℤ◌, int_le, ℕ, refl, ap, ◌∙◌}
use Rattle.space.proofs.Tests.{decides_le}
use Rattle.bern_form.specs.Cells.{scaled_square}
use Rattle.bern_form.specs.Slab.{SlabSize, covers}
use Rattle.box_bisect.specs.SlabTests.{is_reached}

last_two : (a b c d : Bool) → a ≡ true → b ≡ true → (c && d) ≡ (a && (b && (c && d)))
last_two true true c d e f = refl
last_two true false c d e f = cc
last_two false b c d e f = cc

-- a slab that is reached ahead of the tip covers the place where it is neither too low nor too narrow
pub covers_is : (s : SlabSize) (S : ℕ) (u n width w : ℤ) → pos 0 ≤ℤ u → is_reached (pos S) u n s ≡ true → width ≡ pos 4 *ℤ w
    → (int_le (u *ℤ u) (scaled_square S s.hi *ℤ n) && int_le width (scaled_square S s.dia *ℤ n)) ≡ covers s (pos S) u n w
covers_is s S u n width w ahead reached four =
    ap (λ z. int_le (u *ℤ u) (scaled_square S s.hi *ℤ n) && int_le z (scaled_square S s.dia *ℤ n)) four
    ∙ last_two (int_le (pos 0) u) (is_reached (pos S) u n s) (int_le (u *ℤ u) (scaled_square S s.hi *ℤ n)) (int_le (pos 4 *ℤ w) (scaled_square S s.dia *ℤ n))
    ((decides_le (pos 0) u).1 ahead) reached
