-- A list of five coefficients against five limits, one by one.
use Rattle.std.proofs.Common.{◌≡◌, true, false, ℕ, zero, suc, ◌<◌, List, ℤ, pos, negsuc, ◌-ℤ◌, ◌<ℤ◌, ◌≤ℤ◌, ◌⊎◌, int_le, int_lt, inl, inr, arith, ⊎_elim, FitsSigned, of_z, to_z, ap, sym, ◌∙◌}
use Rattle.std.proofs.lemmas.Int.{ints, to_z-of_z}
use Rattle.std.proofs.lemmas.Bool.{cases_lt}
use Rattle.std.proofs.lemmas.Bool.Decides.{not_from_Decides}
use mir.Syntax.{w64}
use Rattle.space.proofs.Tests.{decides_le, decides_lt}
use Rattle.space.specs.Vectors.{at}
use Rattle.bern_form.specs.Forms.{all_positive, difference4}
use Rattle.bern_form.proofs.Decided.{decides_positive, says_no}
use Rattle.bern_form.proofs.HalfSigns.{all_five}
use Rattle.bern_form.proofs.Relations.{AllPositive}

above_zero : (a b : ℤ) → b <ℤ a → pos 0 <ℤ (a -ℤ b)
above_zero a b h = omega (arith, ints)

not_above : (a b : ℤ) → a ≤ℤ b → pos 0 <ℤ (a -ℤ b) → ⊥
not_above a b h k = omega (arith, ints)

pub all_over : (c r : List ℤ) → ((k : ℕ) → k < 5 → at r k <ℤ at c k) → AllPositive (difference4 c r)
all_over c r h =
    all_five (λ z. pos 0 <ℤ z) (at c 0 -ℤ at r 0) (at c 1 -ℤ at r 1) (at c 2 -ℤ at r 2) (at c 3 -ℤ at r 3) (at c 4 -ℤ at r 4)
    (above_zero (at c 0) (at r 0) (h 0 (omega arith))) (above_zero (at c 1) (at r 1) (h 1 (omega arith))) (above_zero (at c 2) (at r 2) (h 2 (omega arith)))
    (above_zero (at c 3) (at r 3) (h 3 (omega arith))) (above_zero (at c 4) (at r 4) (h 4 (omega arith)))

over_at : (c r : List ℤ) (i : ℕ) → i < 5 → at c i ≤ℤ at r i → AllPositive (difference4 c r) → ⊥
over_at c r zero l h p = not_above (at c 0) (at r 0) h (p 0 (pos 0) (omega arith))
over_at c r (suc zero) l h p = not_above (at c 1) (at r 1) h (p 1 (pos 0) (omega arith))
over_at c r (suc (suc zero)) l h p = not_above (at c 2) (at r 2) h (p 2 (pos 0) (omega arith))
over_at c r (suc (suc (suc zero))) l h p = not_above (at c 3) (at r 3) h (p 3 (pos 0) (omega arith))
over_at c r (suc (suc (suc (suc zero)))) l h p = not_above (at c 4) (at r 4) h (p 4 (pos 0) (omega arith))
over_at c r (suc (suc (suc (suc (suc k))))) l h p = absurd (omega arith)

pub less_or_not : (a b : ℤ) → (a <ℤ b) ⊎ (b ≤ℤ a)
less_or_not (pos m) (pos n) = ⊎_elim (λ l. inl (omega (arith, ints))) (λ l. inr (omega (arith, ints))) (cases_lt m n)
less_or_not (pos m) (negsuc n) = inr (omega (arith, ints))
less_or_not (negsuc m) (pos n) = inl (omega (arith, ints))
less_or_not (negsuc m) (negsuc n) = ⊎_elim (λ l. inl (omega (arith, ints))) (λ l. inr (omega (arith, ints))) (cases_lt n m)

pub not_less : (a b : ℤ) → int_lt a b ≡ false → b ≤ℤ a
not_less a b h = let no = not_from_Decides (int_lt a b) (decides_lt a b) h in ⊎_elim (λ less. absurd (no less)) (λ more. more) (less_or_not a b)

-- the same of a number that is read from its bits and compared with 0
pub read_natural : (a : ℤ) → FitsSigned w64 a → int_lt (to_z w64 (of_z w64 a)) (pos 0) ≡ false → pos 0 ≤ℤ a
read_natural a fits h = not_less a (pos 0) (ap (λ z. int_lt z (pos 0)) (sym (to_z-of_z w64 a fits)) ∙ h)

pub not_at_most : (a b : ℤ) → int_le a b ≡ false → b <ℤ a
not_at_most a b h = let no = not_from_Decides (int_le a b) (decides_le a b) h in ⊎_elim (λ less. less) (λ more. absurd (no more)) (less_or_not b a)

pub all_more : (c r : List ℤ) → ((k : ℕ) → k < 5 → int_lt (at r k) (at c k) ≡ true) → all_positive (difference4 c r) ≡ true
all_more c r h = (decides_positive (difference4 c r)).1 (all_over c r (λ k l. (decides_lt (at r k) (at c k)).0 (h k l)))

one_under : (c r : List ℤ) (i : ℕ) → i < 5 → at c i ≤ℤ at r i → all_positive (difference4 c r) ≡ false
one_under c r i l h = says_no (AllPositive (difference4 c r)) (all_positive (difference4 c r)) (decides_positive (difference4 c r)) (over_at c r i l h)

pub one_not_more : (c r : List ℤ) (i : ℕ) → i < 5 → int_lt (at r i) (at c i) ≡ false → all_positive (difference4 c r) ≡ false
one_not_more c r i l h = one_under c r i l (not_less (at r i) (at c i) h)

pub one_at_most : (c r : List ℤ) (i : ℕ) → i < 5 → int_le (at c i) (at r i) ≡ true → all_positive (difference4 c r) ≡ false
one_at_most c r i l h = one_under c r i l ((decides_le (at c i) (at r i)).0 h)

pub more : (a b : ℤ) → int_le a b ≡ false → int_lt b a ≡ true
more a b h = (decides_lt b a).1 (not_at_most a b h)
