-- The bits of a word: what the operators on words make of them.
use Rattle.std.proofs.Common.{◌≡◌, ◌≢◌, ℕ, ◌+◌, ◌-◌, ◌*◌, ◌/◌, ◌%◌, ◌^◌, ◌<◌, ◌≤◌, min, max, cond, true, false, not, ◌&&◌, ◌||◌, eqb, leb, ltb, ⊎_elim, arith, sym, ap, ◌∙◌, w64}
use Rattle.std.specs.Prelude.{bit_and, bit_or}
use Rattle.std.specs.Int.{bit_at, trailing_zeros}
use Rattle.std.proofs.lemmas.Bool.{cases_eq, cases_lt, eq-eqb, ne_eqb, le-leb, lt-leb, lt-ltb, le-ltb}
use Rattle.std.proofs.lemmas.Bool.Decides.{nat_tests}
use Rattle.std.proofs.lemmas.Nat.{one_shl}
use Rattle.std.proofs.lemmas.Nat.Bits.{bit_at-lt, bit_at_and, bit_at_or, bit_at_not, bit_at-zero, bit_at-pow_same, bit_at-pow_other, bit_at_ones, bit_at_ones_above, bit_at_mask_inside, bit_at_mask_below, bit_at-trailing_zeros, shr_and_one, ones_shl, ones_shr, same_from_bits_below}
use Rattle.vf_spans.specs.Words.{has_bit}

and_bits : (p x y : ℕ) → x < 2 → y < 2 → p ≡ min x y → eqb p 1 ≡ (eqb x 1 && eqb y 1)
and_bits p x y hx hy e = grind (arith, nat_tests)

or_bits : (p x y : ℕ) → x < 2 → y < 2 → p ≡ max x y → eqb p 1 ≡ (eqb x 1 || eqb y 1)
or_bits p x y hx hy e = grind (arith, nat_tests)

not_bit : (p x : ℕ) → x < 2 → p ≡ 1 - x → eqb p 1 ≡ not (eqb x 1)
not_bit p x hx e = grind (arith, nat_tests)

one_bit : (p : ℕ) → p ≡ 1 → eqb p 1 ≡ true
one_bit p e = eq-eqb p 1 e

no_bit : (p : ℕ) → p ≡ 0 → eqb p 1 ≡ false
no_bit p e = ne_eqb p 1 (λ q. omega arith)

pub has_bit-and : (a b k : ℕ) → has_bit (bit_and a b) k ≡ (has_bit a k && has_bit b k)
unfolding has_bit
has_bit-and a b k = and_bits (bit_at (bit_and a b) k) (bit_at a k) (bit_at b k) (bit_at-lt a k) (bit_at-lt b k) (bit_at_and a b k)

pub has_bit-or : (a b k : ℕ) → has_bit (bit_or a b) k ≡ (has_bit a k || has_bit b k)
unfolding has_bit
has_bit-or a b k = or_bits (bit_at (bit_or a b) k) (bit_at a k) (bit_at b k) (bit_at-lt a k) (bit_at-lt b k) (bit_at_or a b k)

pub has_bit-not : (a k : ℕ) → a < 2 ^ 64 → k < 64 → has_bit (2 ^ 64 - 1 - a) k ≡ not (has_bit a k)
unfolding has_bit
has_bit-not a k fits within = not_bit (bit_at (2 ^ 64 - 1 - a) k) (bit_at a k) (bit_at-lt a k) (bit_at_not w64 a k fits within)

pub has_bit-zero : (k : ℕ) → has_bit 0 k ≡ false
unfolding has_bit
has_bit-zero k = no_bit (bit_at 0 k) (bit_at-zero k)

pub has_bit-all : (k : ℕ) → k < 64 → has_bit (2 ^ 64 - 1) k ≡ true
unfolding has_bit
has_bit-all k within = one_bit (bit_at (2 ^ 64 - 1) k) (bit_at_ones 64 k within)

pub has_bit-one : (b k : ℕ) → b < 64 → has_bit (1 * 2 ^ b % 2 ^ 64) k ≡ eqb k b
unfolding has_bit
has_bit-one b k within =
    ap (λ n. eqb (bit_at n k) 1) (one_shl b 64 within)
    ∙ ⊎_elim
    (λ (e : k ≡ b). one_bit (bit_at (2 ^ b) k) (ap (λ n. bit_at (2 ^ b) n) e ∙ bit_at-pow_same b) ∙ sym (eq-eqb k b e))
    (λ (e : k ≢ b). no_bit (bit_at (2 ^ b) k) (bit_at-pow_other b k e) ∙ sym (ne_eqb k b e)) (cases_eq k b)

pub has_bit-from : (b k : ℕ) → b < 64 → k < 64 → has_bit ((2 ^ 64 - 1) * 2 ^ b % 2 ^ 64) k ≡ leb b k
unfolding has_bit
has_bit-from b k within below =
    ap (λ n. eqb (bit_at n k) 1) (ones_shl 64 b (omega arith))
    ∙ ⊎_elim
    (λ (lt : k < b). no_bit (bit_at (2 ^ 64 - 2 ^ b) k) (bit_at_mask_below b 64 k lt) ∙ sym (lt-leb b k lt))
    (λ (le : b ≤ k). one_bit (bit_at (2 ^ 64 - 2 ^ b) k) (bit_at_mask_inside b 64 k le below) ∙ sym (le-leb b k le)) (cases_lt k b)

pub has_bit-lowest : (n k : ℕ) → n ≤ 64 → has_bit ((2 ^ 64 - 1) / 2 ^ (64 - n)) k ≡ ltb k n
unfolding has_bit
has_bit-lowest n k within =
    ap (λ m. eqb (bit_at m k) 1) (ones_shr 64 (64 - n) (omega arith) ∙ ap (λ m. 2 ^ m - 1) (let e : 64 - (64 - n) ≡ n = omega arith in e))
    ∙ ⊎_elim
    (λ (lt : k < n). one_bit (bit_at (2 ^ n - 1) k) (bit_at_ones n k lt) ∙ sym (lt-ltb k n lt))
    (λ (le : n ≤ k). no_bit (bit_at (2 ^ n - 1) k) (bit_at_ones_above n k le) ∙ sym (le-ltb k n le)) (cases_lt k n)

pub below_min : (n k m : ℕ) → k < 64 → m ≡ min n 64 → ltb k m ≡ ltb k n
below_min n k m lt e = grind (arith, nat_tests)

-- the part of a range that lies in word n
in_range_from : (lo base k : ℕ) → leb (lo - base) k ≡ leb lo (base + k)
in_range_from lo base k = grind (arith, nat_tests)

in_range_to : (hi base k m : ℕ) → k < 64 → m ≡ min (hi - base) 64 → ltb k m ≡ ltb (base + k) hi
in_range_to hi base k m lt e = grind (arith, nat_tests)

pub has_bit-range : (lo hi n low high from to k : ℕ) → k < 64 → from ≡ lo - 64 * n → to ≡ min (hi - 64 * n) 64
    → has_bit low k ≡ leb from k → has_bit high k ≡ ltb k to → has_bit (bit_and low high) k ≡ (leb lo (64 * n + k) && ltb (64 * n + k) hi)
has_bit-range lo hi n low high from to k lt f t l h =
    has_bit-and low high k
    ∙ ap (λ p. p && has_bit high k) (l ∙ ap (λ m. leb m k) f ∙ in_range_from lo (64 * n) k)
    ∙ ap (λ p. leb lo (64 * n + k) && p) (h ∙ in_range_to hi (64 * n) k to lt t)

pub has_bit-tested : (word b : ℕ) → eqb (bit_and (word / 2 ^ b) 1) 1 ≡ has_bit word b
unfolding has_bit
has_bit-tested word b = ap (λ n. eqb n 1) (shr_and_one word b)

pub has_bit-lowest_set : (word : ℕ) → 0 < word → word < 2 ^ 64
    → (trailing_zeros w64 word < 64) × (has_bit word (trailing_zeros w64 word) ≡ true) × ((k : ℕ) → k < trailing_zeros w64 word → has_bit word k ≡ false)
unfolding has_bit
has_bit-lowest_set word some fits =
    let at = bit_at-trailing_zeros w64 word some fits in
    (at.0, one_bit (bit_at word (trailing_zeros w64 word)) at.1, λ k lt. no_bit (bit_at word k) (at.2 k lt))

pub has_bit-value : (w k : ℕ) → bit_at w k ≡ cond (has_bit w k) 1 0
unfolding has_bit
has_bit-value w k =
    let small = bit_at-lt w k in
    grind (arith, nat_tests)

-- numbers of m bits with the same bits are one
pub same_word : (m a b : ℕ) → a < 2 ^ m → b < 2 ^ m → ((k : ℕ) → k < m → has_bit a k ≡ has_bit b k) → a ≡ b
same_word m a b fa fb e = same_from_bits_below m a b fa fb (λ k lt. has_bit-value a k ∙ ap (λ t. cond t 1 0) (e k lt) ∙ sym (has_bit-value b k))
