-- Steps of one width from an origin.
use Rattle.std.proofs.Common.{◌≡◌, ℕ, suc, zero, ◌+◌, ◌*◌, ◌/◌, ◌%◌, ◌≤◌, ℤ, pos, negsuc, ◌+ℤ◌, ◌-ℤ◌, ◌*ℤ◌, ◌≤ℤ◌, ◌<ℤ◌, unsigned_abs, arith, refl, sym, ap, ◌∙◌}
use Rattle.std.proofs.lemmas.Int.{ints, unsigned_abs-mul}
use Rattle.std.proofs.Math.Nat.{mul-le-mul, mul-mod_left}
use Rattle.space.proofs.Ring.{add_mul_ℤ}

pub plain_width : (w : ℤ) → pos 1 ≤ℤ w → w ≡ pos (unsigned_abs w)
plain_width (pos n) some = refl
plain_width (negsuc n) some = absurd (omega (arith, ints))

pub some_width : (w : ℤ) → pos 1 ≤ℤ w → 1 ≤ unsigned_abs w
some_width (pos n) some = omega (arith, ints)
some_width (negsuc n) some = absurd (omega (arith, ints))

-- two numbers of steps to one place are one
same_many : (m n w : ℕ) → 1 ≤ w → m * w ≡ n * w → m ≡ n
same_many zero zero w some same = refl
same_many zero (suc n) w some same =
    let one : 1 ≤ suc n = omega arith in let least : 1 * 1 ≤ suc n * w = mul-le-mul one some in absurd (omega arith)
same_many (suc m) zero w some same =
    let one : 1 ≤ suc m = omega arith in let least : 1 * 1 ≤ suc m * w = mul-le-mul one some in absurd (omega arith)
same_many (suc m) (suc n) w some same = ap suc (same_many m n w some (omega arith))

pub same_steps : (o w : ℤ) (m n : ℕ) → pos 1 ≤ℤ w → (o +ℤ (pos m *ℤ w)) ≡ o +ℤ (pos n *ℤ w) → m ≡ n
same_steps o w m n some same =
    let way : pos m *ℤ w ≡ pos n *ℤ w = omega (arith, ints) in
    same_many m n (unsigned_abs w) (some_width w some)
    (sym (unsigned_abs-mul (pos m) w) ∙ ap unsigned_abs way ∙ unsigned_abs-mul (pos n) w)

-- so many steps more
pub more_steps : (o w : ℤ) (m k : ℕ) → (o +ℤ (pos (m + k) *ℤ w)) ≡ (o +ℤ (pos m *ℤ w)) +ℤ (pos k *ℤ w)
more_steps o w m k =
    let way : pos (m + k) *ℤ w ≡ pos m *ℤ w +ℤ pos k *ℤ w =
    ap (λ z. z *ℤ w) (let q : pos (m + k) ≡ pos m +ℤ pos k = omega (arith, ints) in q) ∙ add_mul_ℤ (pos m) (pos k) w in
    omega (arith, ints)

-- steps that lead ahead are counted by the gap
pub gap_is : (o w p : ℤ) (n : ℕ) → pos 1 ≤ℤ w → o ≤ℤ p → (o +ℤ (pos n *ℤ w)) ≡ p → n * unsigned_abs w ≡ unsigned_abs (p -ℤ o)
gap_is o w p n some ahead is =
    let way : pos n *ℤ w ≡ p -ℤ o = omega (arith, ints) in
    sym (unsigned_abs-mul (pos n) w) ∙ ap unsigned_abs way

pub gap_leads : (o w p : ℤ) (n : ℕ) → pos 1 ≤ℤ w → o ≤ℤ p → n * unsigned_abs w ≡ unsigned_abs (p -ℤ o) → (o +ℤ (pos n *ℤ w)) ≡ p
gap_leads o w p n some ahead is =
    let plain : p -ℤ o ≡ pos (unsigned_abs (p -ℤ o)) = plain_gap (p -ℤ o) (omega (arith, ints)) in
    let way : pos n *ℤ w ≡ pos (n * unsigned_abs w) = ap (λ z. pos n *ℤ z) (plain_width w some) in
    let same : pos (n * unsigned_abs w) ≡ p -ℤ o = ap pos is ∙ sym plain in
    omega (arith, ints)
  where
    plain_gap : (z : ℤ) → pos 0 ≤ℤ z → z ≡ pos (unsigned_abs z)
    plain_gap (pos k) some = refl
    plain_gap (negsuc k) some = absurd (omega (arith, ints))

-- no steps lead back
pub none_back : (o w p : ℤ) (n : ℕ) → pos 1 ≤ℤ w → p <ℤ o → (o +ℤ (pos n *ℤ w)) ≡ p → ⊥
none_back o w p n some back is =
    let way : pos n *ℤ w ≡ pos (n * unsigned_abs w) = ap (λ z. pos n *ℤ z) (plain_width w some) in
    omega (arith, ints)

-- the number of steps by a division
pub not_whole : (o w p : ℤ) (n gap width : ℕ) → pos 1 ≤ℤ w → o ≤ℤ p → gap ≡ unsigned_abs (p -ℤ o) → width ≡ unsigned_abs w → (gap % width ≡ 0 → ⊥)
    → (o +ℤ (pos n *ℤ w)) ≡ p → ⊥
not_whole o w p n gap width some ahead gap_as width_as part is =
    let steps : n * width ≡ gap = ap (λ k. n * k) width_as ∙ gap_is o w p n some ahead is ∙ sym gap_as in
    part (ap (λ k. k % width) (sym steps) ∙ mul-mod_left n width)

divided : (gap width : ℕ) → 1 ≤ width → gap % width ≡ 0 → gap / width * width ≡ gap
divided gap width some whole = omega arith

pub whole_leads : (o w p : ℤ) (gap width : ℕ) → pos 1 ≤ℤ w → o ≤ℤ p → gap ≡ unsigned_abs (p -ℤ o) → width ≡ unsigned_abs w → gap % width ≡ 0
    → (o +ℤ (pos (gap / width) *ℤ w)) ≡ p
whole_leads o w p gap width some ahead gap_as width_as whole =
    let least : 1 ≤ width = let k = some_width w some in omega arith in
    gap_leads o w p (gap / width) some ahead (ap (λ k. gap / width * k) (sym width_as) ∙ divided gap width least whole ∙ gap_as)

pub only_whole : (o w p : ℤ) (n gap width : ℕ) → pos 1 ≤ℤ w → o ≤ℤ p → gap ≡ unsigned_abs (p -ℤ o) → width ≡ unsigned_abs w → gap % width ≡ 0
    → (o +ℤ (pos n *ℤ w)) ≡ p → n ≡ gap / width
only_whole o w p n gap width some ahead gap_as width_as whole is =
    same_steps o w n (gap / width) some (is ∙ sym (whole_leads o w p gap width some ahead gap_as width_as whole))
