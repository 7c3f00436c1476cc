-- Sums of three words that are each at most n from zero, added one after another.
use Rattle.std.proofs.Common.{◌≤◌, ◌<◌, ◌*◌, ◌^◌, ◌+ℤ◌, ℕ, ℤ, to_z, of_z, unsigned_abs, FitsSigned, subst, sym}
use lib.Signed.{mag}
use mir.Syntax.{w128}
use Rattle.space.proofs.Words.{sum_read, three_fit, three_read, three_small, two_fit, two_read}

abbrev pub first_two : ℤ → ℤ → ℤ
first_two x y = to_z w128 (of_z w128 x) +ℤ to_z w128 (of_z w128 y)

abbrev pub all_three : ℤ → ℤ → ℤ → ℤ
all_three x y z = to_z w128 (of_z w128 (first_two x y)) +ℤ to_z w128 (of_z w128 z)

pub first_two_fit : (x y : ℤ) (n : ℕ) → 3 * n < 2 ^ 127 → mag x < 2 ^ 127 → mag y < 2 ^ 127 → unsigned_abs x ≤ n → unsigned_abs y ≤ n
    → FitsSigned w128 (first_two x y)
first_two_fit x y n few f g h k = subst (FitsSigned w128) (sym (two_read x y f g)) (two_fit x y n h k few)

pub all_three_fit : (x y z : ℤ) (n : ℕ) → 3 * n < 2 ^ 127 → mag x < 2 ^ 127 → mag y < 2 ^ 127 → mag z < 2 ^ 127
    → unsigned_abs x ≤ n → unsigned_abs y ≤ n → unsigned_abs z ≤ n → FitsSigned w128 (all_three x y z)
all_three_fit x y z n few f g e h k l =
    subst (FitsSigned w128) (sym (three_read x y z n f g e h k few)) (three_fit x y z n h k l few)

pub all_three_small : (x y z : ℤ) (n : ℕ) → 3 * n < 2 ^ 127 → mag x < 2 ^ 127 → mag y < 2 ^ 127 → mag z < 2 ^ 127
    → unsigned_abs x ≤ n → unsigned_abs y ≤ n → unsigned_abs z ≤ n → unsigned_abs (to_z w128 (of_z w128 (all_three x y z))) ≤ 3 * n
all_three_small x y z n few f g e h k l =
    subst (λ (s : ℤ). unsigned_abs s ≤ 3 * n) (sym (sum_read x y z n f g e h k l few)) (three_small x y z n h k l)
