-- The bounds of the slabs: from the tip to the corner's upper end, or to the cone's.
use Rattle.std.proofs.Common.{◌≡◌, ℕ, ◌*◌, ◌/◌, ◌≤◌, ◌<◌, arith, ap, subst, sym, ◌∙◌}
use Rattle.std.proofs.Math.Nat.{mul-le-mul, mul-le-mul_left, mul-div_left, div-eq_of_lt, div-le_of_le-mul}
use Rattle.std.proofs.lemmas.Nat.{mul-lt}
use Rattle.cutter_slabs.specs.Stacks.{bound_of, level_of}

pub bound_of-first : (r n : ℕ) → 0 < n → bound_of r n 0 ≡ 0
bound_of-first r n h =
    let e : r * (0 * 0) ≡ 0 = omega arith in
    ap (λ k. k / (n * n)) e ∙ div-eq_of_lt (mul-lt 0 0 n n h h)

pub bound_of-last : (r n : ℕ) → 0 < n → bound_of r n n ≡ r
bound_of-last r n h = mul-div_left r (mul-lt 0 0 n n h h)

pub bound_of-within : (r n j : ℕ) → 0 < n → j ≤ n → bound_of r n j ≤ r
bound_of-within r n j h k =
    let a = mul-le-mul_left r (mul-le-mul k k) in
    div-le_of_le-mul (n * n) (omega arith)

-- without a radius they are all at the tip
pub bound_of-none : (r n j : ℕ) → r ≡ 0 → 0 < n → bound_of r n j ≡ 0
bound_of-none r n j e h =
    let z : r * (j * j) ≡ 0 = subst (λ k. k * (j * j) ≡ 0) (sym e) (omega arith) in
    ap (λ k. k / (n * n)) z ∙ div-eq_of_lt (mul-lt 0 0 n n h h)

pub level_of-first : (h n : ℕ) → 0 < n → level_of h n 0 ≡ 0
level_of-first h n some =
    let e : h * 0 ≡ 0 = omega arith in
    ap (λ k. k / n) e ∙ div-eq_of_lt some

pub level_of-last : (h n : ℕ) → 0 < n → level_of h n n ≡ h
level_of-last h n some = mul-div_left h some

pub level_of-within : (h n j : ℕ) → j ≤ n → level_of h n j ≤ h
level_of-within h n j k =
    let a = mul-le-mul_left h k in
    div-le_of_le-mul n (omega arith)
