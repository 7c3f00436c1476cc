-- n raised to degree 4 once, and the comparison of coefficients, are the cell rule.
use Rattle.std.proofs.Common.{◌≡◌, true, false, not, ◌||◌, ℕ, zero, suc, ◌<◌, [], ◌∷◌, List, ℤ, pos, negsuc, ◌*ℤ◌, ◌-ℤ◌, ◌<ℤ◌, ◌≤ℤ◌, ◌⊎◌, Bool, int_lt, inl, inr, arith, refl, ap, ◌∙◌, ⊎_elim}
use Rattle.std.specs.List.{list_any}
use Rattle.std.proofs.lemmas.Int.{ints}
use Rattle.std.proofs.lemmas.Bool.{cases_lt}
use Rattle.std.proofs.lemmas.Bool.Decides.{not_from_Decides}
use Rattle.space.proofs.Tests.{decides_lt}
use Rattle.space.specs.Vectors.{at}
use Rattle.bern_form.specs.Forms.{all_negative, all_positive, difference4, lifted, product22, scaled2, scaled4}
use Rattle.bern_form.specs.Between.{is_excluded_with}
use Rattle.bern_form.specs.Cells.{scaled_square}
use Rattle.bern_form.specs.Slab.{SlabSize}
use Rattle.bern_form.proofs.Decided.{decides_negative, decides_positive, says_no}
use Rattle.bern_form.proofs.HalfSigns.{all_five}
use Rattle.bern_form.proofs.Relations.{AllNegative, AllPositive}
use Rattle.box_bisect.specs.SlabTests.{is_excluded_by, is_unexcluded_by, is_unexcluded_with, width_of}
use Rattle.box_bisect.specs.Sides.{all_on, is_on}
use Rattle.box_bisect.specs.declared.compare.Side.{Side}
use Rattle.box_bisect.specs.declared.compare.Side.TheVariants.{Above, Below}
use Rattle.ray_boxes.proofs.Raised.{raised_is}

pub excluded_is : (s : SlabSize) (S : ℕ) (u n d : List ℤ)
    → is_excluded_by S (all_negative u) (lifted n) (product22 u u) (width_of u n d) s ≡ is_excluded_with s S u n d
excluded_is s S u n d =
    let height = product22 u u in let width = width_of u n d in
    let lo = scaled_square S s.lo in let hi = scaled_square S s.hi in let dia = scaled_square S s.dia in
    let low = λ (l : List ℤ). all_negative (difference4 height l) in let high = λ (l : List ℤ). all_positive (difference4 height l) in let side = λ (l : List ℤ). all_positive (difference4 width l) in
    ap (λ l. all_negative u || (low l || (high (scaled4 hi (lifted n)) || side (scaled4 dia (lifted n))))) (raised_is lo n)
    ∙ ap (λ l. all_negative u || (low (lifted (scaled2 lo n)) || (high l || side (scaled4 dia (lifted n))))) (raised_is hi n)
    ∙ ap (λ l. all_negative u || (low (lifted (scaled2 lo n)) || (high (lifted (scaled2 hi n)) || side l))) (raised_is dia n)

pub left_is : (slabs : List SlabSize) (S : ℕ) (u n d : List ℤ)
    → is_unexcluded_by S (all_negative u) (lifted n) (product22 u u) (width_of u n d) slabs ≡ is_unexcluded_with slabs S u n d
left_is slabs S u n d = λ i. list_any (λ s. not (excluded_is s S u n d i)) slabs

-- coefficients compared one by one
below_zero : (a b : ℤ) → a <ℤ b → (a -ℤ b) <ℤ pos 0
below_zero a b h = omega (arith, ints)

above_zero : (a b : ℤ) → b <ℤ a → pos 0 <ℤ (a -ℤ b)
above_zero a b h = omega (arith, ints)

not_below : (a b : ℤ) → b ≤ℤ a → (a -ℤ b) <ℤ pos 0 → ⊥
not_below a b h k = omega (arith, ints)

not_above : (a b : ℤ) → a ≤ℤ b → pos 0 <ℤ (a -ℤ b) → ⊥
not_above a b h k = omega (arith, ints)

pub all_under : (c r : List ℤ) (f : ℤ) → ((k : ℕ) → k < 5 → at c k <ℤ (f *ℤ at r k)) → all_negative (difference4 c (scaled4 f r)) ≡ true
all_under c r f h =
    (decides_negative (difference4 c (scaled4 f r))).1
    (all_five (λ z. z <ℤ pos 0) (at c 0 -ℤ f *ℤ at r 0) (at c 1 -ℤ f *ℤ at r 1) (at c 2 -ℤ f *ℤ at r 2) (at c 3 -ℤ f *ℤ at r 3) (at c 4 -ℤ f *ℤ at r 4)
    (below_zero (at c 0) (f *ℤ at r 0) (h 0 (omega arith))) (below_zero (at c 1) (f *ℤ at r 1) (h 1 (omega arith))) (below_zero (at c 2) (f *ℤ at r 2) (h 2 (omega arith)))
    (below_zero (at c 3) (f *ℤ at r 3) (h 3 (omega arith))) (below_zero (at c 4) (f *ℤ at r 4) (h 4 (omega arith))))

pub all_over : (c r : List ℤ) (f : ℤ) → ((k : ℕ) → k < 5 → (f *ℤ at r k) <ℤ at c k) → all_positive (difference4 c (scaled4 f r)) ≡ true
all_over c r f h =
    (decides_positive (difference4 c (scaled4 f r))).1
    (all_five (λ z. pos 0 <ℤ z) (at c 0 -ℤ f *ℤ at r 0) (at c 1 -ℤ f *ℤ at r 1) (at c 2 -ℤ f *ℤ at r 2) (at c 3 -ℤ f *ℤ at r 3) (at c 4 -ℤ f *ℤ at r 4)
    (above_zero (at c 0) (f *ℤ at r 0) (h 0 (omega arith))) (above_zero (at c 1) (f *ℤ at r 1) (h 1 (omega arith))) (above_zero (at c 2) (f *ℤ at r 2) (h 2 (omega arith)))
    (above_zero (at c 3) (f *ℤ at r 3) (h 3 (omega arith))) (above_zero (at c 4) (f *ℤ at r 4) (h 4 (omega arith))))

under_at : (c r : List ℤ) (f : ℤ) (i : ℕ) → i < 5 → (f *ℤ at r i) ≤ℤ at c i → AllNegative (difference4 c (scaled4 f r)) → ⊥
under_at c r f zero l h p = not_below (at c 0) (f *ℤ at r 0) h (p 0 (pos 0) (omega arith))
under_at c r f (suc zero) l h p = not_below (at c 1) (f *ℤ at r 1) h (p 1 (pos 0) (omega arith))
under_at c r f (suc (suc zero)) l h p = not_below (at c 2) (f *ℤ at r 2) h (p 2 (pos 0) (omega arith))
under_at c r f (suc (suc (suc zero))) l h p = not_below (at c 3) (f *ℤ at r 3) h (p 3 (pos 0) (omega arith))
under_at c r f (suc (suc (suc (suc zero)))) l h p = not_below (at c 4) (f *ℤ at r 4) h (p 4 (pos 0) (omega arith))
under_at c r f (suc (suc (suc (suc (suc k))))) l h p = absurd (omega arith)

pub not_under : (c r : List ℤ) (f : ℤ) (i : ℕ) → i < 5 → (f *ℤ at r i) ≤ℤ at c i → all_negative (difference4 c (scaled4 f r)) ≡ false
not_under c r f i l h = says_no (AllNegative (difference4 c (scaled4 f r))) (all_negative (difference4 c (scaled4 f r))) (decides_negative (difference4 c (scaled4 f r))) (under_at c r f i l h)

over_at : (c r : List ℤ) (f : ℤ) (i : ℕ) → i < 5 → at c i ≤ℤ (f *ℤ at r i) → AllPositive (difference4 c (scaled4 f r)) → ⊥
over_at c r f zero l h p = not_above (at c 0) (f *ℤ at r 0) h (p 0 (pos 0) (omega arith))
over_at c r f (suc zero) l h p = not_above (at c 1) (f *ℤ at r 1) h (p 1 (pos 0) (omega arith))
over_at c r f (suc (suc zero)) l h p = not_above (at c 2) (f *ℤ at r 2) h (p 2 (pos 0) (omega arith))
over_at c r f (suc (suc (suc zero))) l h p = not_above (at c 3) (f *ℤ at r 3) h (p 3 (pos 0) (omega arith))
over_at c r f (suc (suc (suc (suc zero)))) l h p = not_above (at c 4) (f *ℤ at r 4) h (p 4 (pos 0) (omega arith))
over_at c r f (suc (suc (suc (suc (suc k))))) l h p = absurd (omega arith)

pub not_over : (c r : List ℤ) (f : ℤ) (i : ℕ) → i < 5 → at c i ≤ℤ (f *ℤ at r i) → all_positive (difference4 c (scaled4 f r)) ≡ false
not_over c r f i l h = says_no (AllPositive (difference4 c (scaled4 f r))) (all_positive (difference4 c (scaled4 f r))) (decides_positive (difference4 c (scaled4 f r))) (over_at c r f i l h)

-- the same by the test of each coefficient
pub less_or_not : (a b : ℤ) → (a <ℤ b) ⊎ (b ≤ℤ a)
less_or_not (pos m) (pos n) = ⊎_elim (λ l. inl (omega (arith, ints))) (λ l. inr (omega (arith, ints))) (cases_lt m n)
less_or_not (pos m) (negsuc n) = inr (omega (arith, ints))
less_or_not (negsuc m) (pos n) = inl (omega (arith, ints))
less_or_not (negsuc m) (negsuc n) = ⊎_elim (λ l. inl (omega (arith, ints))) (λ l. inr (omega (arith, ints))) (cases_lt n m)

not_less : (a b : ℤ) → int_lt a b ≡ false → b ≤ℤ a
not_less a b h = let no = not_from_Decides (int_lt a b) (decides_lt a b) h in ⊎_elim (λ less. absurd (no less)) (λ more. more) (less_or_not a b)

pub each_on : (side : Side) (c r : List ℤ) (f : ℤ) → ((k : ℕ) → k < 5 → is_on side (at c k) (f *ℤ at r k) ≡ true) → all_on side (difference4 c (scaled4 f r)) ≡ true
each_on Below c r f h = all_under c r f (λ k l. (decides_lt (at c k) (f *ℤ at r k)).0 (h k l))
each_on Above c r f h = all_over c r f (λ k l. (decides_lt (f *ℤ at r k) (at c k)).0 (h k l))

pub one_not_on : (side : Side) (c r : List ℤ) (f : ℤ) (i : ℕ) → i < 5 → is_on side (at c i) (f *ℤ at r i) ≡ false → all_on side (difference4 c (scaled4 f r)) ≡ false
one_not_on Below c r f i l h = not_under c r f i l (not_less (at c i) (f *ℤ at r i) h)
one_not_on Above c r f i l h = not_over c r f i l (not_less (f *ℤ at r i) (at c i) h)

-- what is kept between two samples gives the test by the forms
pub left_of : (slabs : List SlabSize) (S kept : ℕ) (behind : Bool) (raised height width u n d : List ℤ) → kept ≡ S → behind ≡ all_negative u → raised ≡ lifted n → height ≡ product22 u u
    → width ≡ width_of u n d → is_unexcluded_by kept behind raised height width slabs ≡ is_unexcluded_with slabs S u n d
left_of slabs S kept behind raised height width u n d eS eb er eh ew =
    let W = width_of u n d in
    ap (λ z. is_unexcluded_by z behind raised height width slabs) eS ∙ ap (λ z. is_unexcluded_by S z raised height width slabs) eb ∙ ap (λ z. is_unexcluded_by S (all_negative u) z height width slabs) er
    ∙ ap (λ z. is_unexcluded_by S (all_negative u) (lifted n) z width slabs) eh ∙ ap (λ z. is_unexcluded_by S (all_negative u) (lifted n) (product22 u u) z slabs) ew ∙ left_is slabs S u n d
