-- Counts over words: a word's ones are the flags that it adds to the count.
use Rattle.std.proofs.Common.{◌≡◌, ℕ, zero, suc, ◌+◌, ◌*◌, ◌-◌, ◌^◌, ◌<◌, ◌≤◌, List, [], ◌∷◌, length, get_or, map, cond, Bool, true, false, arith, refl, sym, ap, ◌∙◌, subst}
use Rattle.std.specs.Prelude.{count_ones}
use Rattle.std.specs.List.{range_with_len}
use Rattle.std.proofs.lemmas.List.FromFn.{length-range_with_len, length-map-range_with_len, get_or-map-range_with_len, fill_by_all}
use Rattle.std.proofs.lemmas.List.Sums.{count_by-le-length}
use Rattle.std.proofs.lemmas.Simd.{mask_l-lt, bit_mask_l, ones-mask_l}
use lib.Lanes.{mask_l}
use Rattle.vf_spans.specs.Members.{has, count_of, count_below}
use Rattle.vf_spans.specs.Words.{has_bit, AreWords, number_of_bits, word_of_set}
use Rattle.vf_spans.proofs.Below.{count_by_same, count_by_map, one_if, one_more, more_below, same_bound_same}
use Rattle.vf_spans.proofs.WordBits.{has_bit-value, same_word}

pub count_small : (n : ℕ) (p : ℕ → Bool) → count_below n p ≤ n
count_small n p =
    let most = count_by-le-length p (range_with_len 0 n) in
    let size = length-range_with_len 0 n in
    omega arith

-- m indices more, at which another test says the same
pub count_more : (p q : ℕ → Bool) (from m : ℕ) → ((b : ℕ) → b < m → p (from + b) ≡ q b) → count_below (from + m) p ≡ count_below from p + count_below m q
count_more p q from zero same =
    let size = same_bound_same p (from + 0) from (omega arith) in
    let none : count_below 0 q ≡ 0 = refl in
    omega arith
count_more p q from (suc m) same =
    let before = count_more p q from m (λ b lt. same b (omega arith)) in
    let next = one_more p (from + m) in
    let next' = one_more q m in
    let last : one_if (p (from + m)) ≡ one_if (q m) = ap one_if (same m (omega arith)) in
    let both : count_below (from + m + 1) p ≡ count_below from p + count_below (m + 1) q = omega arith in
    same_bound_same p (from + suc m) (from + m + 1) (omega arith) ∙ both ∙ ap (λ n. count_below from p + n) (same_bound_same q (m + 1) (suc m) (omega arith))

number_is_mask : (bits : List Bool) → number_of_bits bits ≡ mask_l bits
number_is_mask [] = refl
number_is_mask (b ∷ bits) = ap (λ n. cond b 1 0 + 2 * n) (number_is_mask bits)

bit_value : (b c : Bool) → let one : ℕ = 1 in let none : ℕ = 0 in cond b one none ≡ cond c one none → b ≡ c
bit_value true true e = refl
bit_value false false e = refl
bit_value true false e = absurd (omega arith)
bit_value false true e = absurd (omega arith)

has_bit-mask : (bits : List Bool) (k : ℕ) → has_bit (mask_l bits) k ≡ get_or bits k false
has_bit-mask bits k = bit_value (has_bit (mask_l bits) k) (get_or bits k false) (sym (has_bit-value (mask_l bits) k) ∙ bit_mask_l bits k)

-- a number of m bits is that of its bits
word_is_mask : (m w : ℕ) (p : ℕ → Bool) → w < 2 ^ m → ((k : ℕ) → k < m → has_bit w k ≡ p k) → w ≡ mask_l (map p (range_with_len 0 m))
word_is_mask m w p fits same =
    let bits : List Bool = map p (range_with_len 0 m) in
    let size : length bits ≡ m = length-map-range_with_len p 0 m in
    same_word m w (mask_l bits) fits (subst (λ (n : ℕ). mask_l bits < 2 ^ n) size (mask_l-lt bits))
    (λ k lt. same k lt ∙ sym (has_bit-mask bits k ∙ get_or-map-range_with_len p 0 m k k false lt (omega arith)))

word_is_number : (m w : ℕ) (p : ℕ → Bool) → w < 2 ^ m → ((k : ℕ) → k < m → has_bit w k ≡ p k) → w ≡ number_of_bits (map p (range_with_len 0 m))
word_is_number m w p fits same = word_is_mask m w p fits same ∙ sym (number_is_mask (map p (range_with_len 0 m)))

pub is_word_of_set : (v : List Bool) (n w : ℕ) → w < 2 ^ 64 → ((b : ℕ) → b < 64 → has_bit w b ≡ has v (64 * n + b)) → w ≡ word_of_set v n
unfolding word_of_set
is_word_of_set v n w fits same = word_is_number 64 w (λ b. has v (64 * n + b)) fits same

-- the meaning of a set's word, by its bits
number_has : (m : ℕ) (p : ℕ → Bool) (k : ℕ) → k < m → has_bit (number_of_bits (map p (range_with_len 0 m))) k ≡ p k
number_has m p k lt =
    let bits : List Bool = map p (range_with_len 0 m) in
    ap (λ n. has_bit n k) (number_is_mask bits) ∙ has_bit-mask bits k ∙ get_or-map-range_with_len p 0 m k k false lt (omega arith)

pub has_bit-word_of_set : (v : List Bool) (n b : ℕ) → b < 64 → has_bit (word_of_set v n) b ≡ has v (64 * n + b)
unfolding word_of_set
has_bit-word_of_set v n b lt = number_has 64 (λ k. has v (64 * n + k)) b lt

-- the ones of a number of m bits are as many as its bits that are set
pub ones_are : (m w : ℕ) → w < 2 ^ m → count_ones w ≡ count_below m (has_bit w)
ones_are m w fits =
    ap count_ones (word_is_mask m w (has_bit w) fits (λ k lt. refl)) ∙ ones-mask_l (has_bit w) (range_with_len 0 m)

more_bits : (p : ℕ → Bool) (from m w : ℕ) → w < 2 ^ m → ((b : ℕ) → b < m → has_bit w b ≡ p (from + b)) → count_below (from + m) p ≡ count_below from p + count_ones w
more_bits p from m w fits same =
    let more = count_more p (has_bit w) from m (λ b lt. sym (same b lt)) in
    let ones = ones_are m w fits in
    omega arith

-- one word more
pub more_word : (p : ℕ → Bool) (n w : ℕ) → w < 2 ^ 64 → ((b : ℕ) → b < 64 → has_bit w b ≡ p (64 * n + b)) → count_below (64 * (n + 1)) p ≡ count_below (64 * n) p + count_ones w
more_word p n w fits same =
    same_bound_same p (64 * (n + 1)) (64 * n + 64) (omega arith) ∙ more_bits p (64 * n) 64 w fits same

-- no more than the bound are counted where no flag is set beyond it
pub count_to : (p : ℕ → Bool) (bound m : ℕ) → bound ≤ m → ((i : ℕ) → bound ≤ i → p i ≡ false) → count_below m p ≡ count_below bound p
count_to p bound m le none =
    let more = more_below p false bound (m - bound) (λ x ge lt. none x ge) in
    let size = same_bound_same p (bound + (m - bound)) m (omega arith) in
    omega arith

-- a count over the words of a set is one over its flags
pub counted_words : (n : ℕ) (ws : List ℕ) (v : List Bool) (p q : ℕ → Bool) → n ≡ count_below (64 * length ws) p → AreWords (length v) ws → ((i : ℕ) → p i ≡ q i)
    → ((i : ℕ) → length v ≤ i → p i ≡ false) → n ≡ count_below (length v) q
counted_words n ws v p q e h same none =
    let size = h.size in
    e ∙ count_to p (length v) (64 * length ws) (omega arith) none ∙ count_by_same p q same (range_with_len 0 (length v))

pub count_of_flags : (v : List Bool) → count_of v ≡ count_below (length v) (has v)
count_of_flags v = ap count_of (fill_by_all (has v) v (length v) false refl (λ k lt. refl)) ∙ count_by_map (has v) (range_with_len 0 (length v))
