-- Numbers whose lowest digits are 0: the trailing zeros of words, and masks that count from a bit.
use Rattle.std.proofs.Common.{◌≡◌, ◌∙◌, ℕ, ◌+◌, ◌-◌, ◌*◌, ◌/◌, ◌%◌, ◌^◌, ◌<◌, ◌≤◌, ⊎_elim, suc, zero, arith, ap, ap₂, sym}
use Rattle.strip_marks.specs.declared.change.WordChange.{WordChange}
use Rattle.strip_journal.specs.Packed.{IsClose}
use Rattle.std.specs.Int.{bit_at, trailing_zeros, w64}
use Rattle.std.specs.Int.Count.{trailing_of_zero}
use Rattle.std.proofs.lemmas.Bool.{cases_lt}
use Rattle.std.proofs.lemmas.Nat.{div-add-mod', mod-pow-add, pow-add, pow_pos}
use Rattle.std.proofs.lemmas.Nat.Bits.{bit_at-trailing_zeros}
use Rattle.std.proofs.Math.Nat.{div-lt_iff_lt-mul, mod-eq_of_lt, mod-le, mul-lt-mul_of_pos_right, mul-mod_left, mul_assoc, pow-le-pow_right, zero-mod}
use Rattle.std.proofs.Math.Pow.{mod-mod-pow}

-- one digit more
digit : (n t : ℕ) → n % 2 ^ (t + 1) ≡ bit_at n t * 2 ^ t + n % 2 ^ t
digit n t = ap (λ k. n % 2 ^ k) (let e : t + 1 ≡ 1 + t = omega arith in e) ∙ mod-pow-add n 1 t

-- a number with none of its lowest digits
low_none : (n t : ℕ) → ((i : ℕ) → i < t → bit_at n i ≡ 0) → n % 2 ^ t ≡ 0
low_none n zero none = omega arith
low_none n (suc t) none =
    let lower = low_none n t (λ i lt. none i (omega (arith, lt))) in
    let here : bit_at n t ≡ 0 = none t (omega arith) in
    ap (λ k. n % 2 ^ k) (let e : suc t ≡ t + 1 = omega arith in e) ∙ digit n t ∙ ap₂ (λ x y. x * 2 ^ t + y) here lower
    ∙ (let e : 0 * 2 ^ t + 0 ≡ 0 = omega arith in e)

-- fewer of them are none
pub low_less : (n s t : ℕ) → s ≤ t → n % 2 ^ t ≡ 0 → n % 2 ^ s ≡ 0
low_less n s t le none =
    sym (mod-mod-pow n (t - s) s) ∙ ap (λ k. n % 2 ^ k % 2 ^ s) (let e : t - s + s ≡ t = omega (arith, le) in e)
    ∙ ap (λ x. x % 2 ^ s) none ∙ zero-mod (2 ^ s)

-- a word has none below its trailing zeros
pub zeros_none : (n : ℕ) → n < 2 ^ 64 → n % 2 ^ trailing_zeros w64 n ≡ 0
zeros_none zero lt = zero-mod (2 ^ trailing_zeros w64 zero)
zeros_none (suc n) lt = low_none (suc n) (trailing_zeros w64 (suc n)) (bit_at-trailing_zeros w64 (suc n) (omega arith) lt).2

-- nor below fewer
pub zeros_less : (n s : ℕ) → n < 2 ^ 64 → s ≤ trailing_zeros w64 n → n % 2 ^ s ≡ 0
zeros_less n s few le = low_less n s (trailing_zeros w64 n) le (zeros_none n few)

-- nor more than these
pub zeros_most : (n q : ℕ) → n < 2 ^ 64 → q ≤ 32 → n % 2 ^ q ≡ 0 → q ≤ trailing_zeros w64 n
zeros_most zero q lt le none = let all = trailing_of_zero 64 in omega (arith, le, all)
zeros_most (suc n) q lt le none =
    let t = trailing_zeros w64 (suc n) in
    let one = (bit_at-trailing_zeros w64 (suc n) (omega arith) lt).1 in
    ⊎_elim
    (λ below.
    let none_here = low_less (suc n) (t + 1) q (omega (arith, below)) none in
    let sum : 1 * 2 ^ t + suc n % 2 ^ t ≡ 0 = ap (λ b. b * 2 ^ t + suc n % 2 ^ t) (sym one) ∙ sym (digit (suc n) t) ∙ none_here in
    let some = pow_pos t in
    absurd (omega (arith, sum, some)))
    (λ le. le)
    (cases_lt t q)

-- a mask that counts from a bit has none below it
pub mask_none : (m q s : ℕ) → s ≤ q → s ≤ 64 → m * 2 ^ q % 2 ^ 64 % 2 ^ s ≡ 0
mask_none m q s le few =
    let power : 2 ^ q ≡ 2 ^ (q - s) * 2 ^ s = ap (λ k. 2 ^ k) (let e : q ≡ q - s + s = omega (arith, le) in e) ∙ pow-add 2 (q - s) s in
    let whole : m * 2 ^ q ≡ m * 2 ^ (q - s) * 2 ^ s = ap (λ x. m * x) power ∙ sym (mul_assoc m (2 ^ (q - s)) (2 ^ s)) in
    ap (λ k. m * 2 ^ q % 2 ^ k % 2 ^ s) (let e : 64 ≡ 64 - s + s = omega (arith, few) in e) ∙ mod-mod-pow (m * 2 ^ q) (64 - s) s
    ∙ ap (λ x. x % 2 ^ s) whole ∙ mul-mod_left (m * 2 ^ (q - s)) (2 ^ s)

pow_more : (i j : ℕ) → i ≤ j → 2 ^ i ≤ 2 ^ j
pow_more i j le = pow-le-pow_right (omega arith) le

-- what is below 2 to the sum is below 2 to the one when it is shifted by the other
fits : (n by : ℕ) → n < 2 ^ 32 * 2 ^ by → n / 2 ^ by < 2 ^ 32
fits n by lt = (div-lt_iff_lt-mul (pow_pos by)).1 lt

-- and fits 32 bits from there on
pub mask_fits : (n m q by : ℕ) → n < 2 ^ 64 → n ≡ m * 2 ^ q % 2 ^ 64 → m < 2 ^ 32 → (q ≤ 32 → q ≤ by) → (32 < q → 32 ≤ by) → n / 2 ^ by < 2 ^ 32
mask_fits n m q by few is small low high =
    ⊎_elim
    (λ above.
    let power = pow_more 32 by (high above) in
    fits n by (omega (arith, few, power)))
    (λ le.
    let power = pow_more q by (low le) in
    let most = mod-le (m * 2 ^ q) (2 ^ 64) in
    let below = mul-lt-mul_of_pos_right small (pow_pos q) in
    fits n by (omega (arith, is, most, below, power)))
    (cases_lt 32 q)

-- a mask shifted down and up again
pub comes_back : (n word by x : ℕ) → by ≤ 32 → n < 2 ^ 64 → n % 2 ^ by ≡ 0 → x ≡ n / 2 ^ by → x * 2 ^ ((word * 64 + by) % 64) % 2 ^ 64 ≡ n
comes_back n word by x le few none is =
    let back = div-add-mod' n (2 ^ by) in
    ap₂ (λ y k. y * 2 ^ k % 2 ^ 64) is (let e : (word * 64 + by) % 64 ≡ by = omega (arith, le) in e)
    ∙ ap (λ y. y % 2 ^ 64) (let e : n / 2 ^ by * 2 ^ by ≡ n = omega (arith, back, none) in e) ∙ mod-eq_of_lt few

-- both masks of a change whose points lie close together
pub close_fits : (change : WordChange) (by : ℕ) → change.sure < 2 ^ 64 → change.possible < 2 ^ 64
    → ((q : ℕ) → q ≤ 32 → change.sure % 2 ^ q ≡ 0 → change.possible % 2 ^ q ≡ 0 → q ≤ by) → IsClose change
    → (change.sure / 2 ^ by < 2 ^ 32) × (change.possible / 2 ^ by < 2 ^ 32)
close_fits change by few few_possible last close =
    let p = close.packed in
    let q = p.first % 64 in
    let sure : change.sure ≡ p.sure * 2 ^ q % 2 ^ 64 = ap (λ (c : WordChange). c.sure) (sym close.is) in
    let possible : change.possible ≡ p.possible * 2 ^ q % 2 ^ 64 = ap (λ (c : WordChange). c.possible) (sym close.is) in
    let reaches : (s : ℕ) → s ≤ q → s ≤ 32 → s ≤ by =
    λ s le low. last s low (ap (λ x. x % 2 ^ s) sure ∙ mask_none p.sure q s le (omega (arith, low)))
    (ap (λ x. x % 2 ^ s) possible ∙ mask_none p.possible q s le (omega (arith, low))) in
    let low : q ≤ 32 → q ≤ by = λ le. reaches q (omega arith) le in
    let high : 32 < q → 32 ≤ by = λ lt. reaches 32 (omega (arith, lt)) (omega arith) in
    (mask_fits change.sure p.sure q by few sure close.sure low high, mask_fits change.possible p.possible q by few_possible possible close.possible low high)
