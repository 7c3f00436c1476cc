-- Numbers of the tests that fit 128 bits.
use Rattle.std.proofs.Common.{◌≡◌, ℕ, zero, suc, ◌*◌, ◌≤◌, ◌<◌, List, ℤ, ◌*ℤ◌, unsigned_abs, FitsSigned, arith, subst}
use mir.Syntax.{w128}
use Rattle.space.specs.Vectors.{at}
use Rattle.space.proofs.Facts.{fits128}
use Rattle.space.proofs.Naturals.{abs_mul}
use Rattle.bern_form.specs.Forms.{lifted}
use Rattle.bern_form.specs.Sizes.{IsBounded2, IsBounded4, axis_limit, length_limit}
use Rattle.bern_form.proofs.Sizes.{lifted_bounded}

-- a coefficient of a bounded form
pub coefficient_small : (m : ℕ) (c : List ℤ) (i : ℕ) → i < 5 → IsBounded4 m c → unsigned_abs (at c i) ≤ m
coefficient_small m c zero l h = h.c0
coefficient_small m c (suc zero) l h = h.c1
coefficient_small m c (suc (suc zero)) l h = h.c2
coefficient_small m c (suc (suc (suc zero))) l h = h.c3
coefficient_small m c (suc (suc (suc (suc zero)))) l h = h.c4
coefficient_small m c (suc (suc (suc (suc (suc k))))) l h = absurd (omega arith)

-- a limit times a raised coefficient
pub limit_fits : (f : ℤ) (r : List ℤ) (i : ℕ) → i < 5 → unsigned_abs f ≤ length_limit * length_limit → IsBounded4 (18 * (axis_limit * axis_limit)) r → FitsSigned w128 (f *ℤ at r i)
limit_fits f r i l h k =
    fits128 (f *ℤ at r i) (length_limit * length_limit * (18 * (axis_limit * axis_limit)))
    (abs_mul f (at r i) (length_limit * length_limit) (18 * (axis_limit * axis_limit)) h (coefficient_small (18 * (axis_limit * axis_limit)) r i l k)) (omega arith)

-- n raised to degree 4
pub raised_small : (n : List ℤ) → IsBounded2 (3 * (axis_limit * axis_limit)) n → IsBounded4 (18 * (axis_limit * axis_limit)) (lifted n)
raised_small n h =
    let e : 6 * (3 * (axis_limit * axis_limit)) ≡ 18 * (axis_limit * axis_limit) = omega arith in
    subst (λ k. IsBounded4 k (lifted n)) e (lifted_bounded n (3 * (axis_limit * axis_limit)) h)
