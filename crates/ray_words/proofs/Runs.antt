-- The bits of a word that aren't set, on both sides of one bit.
use Rattle.std.proofs.Common.{◌≡◌, ℕ, ◌-◌, ◌^◌, ◌<◌, ◌≤◌, Bool, true, false, not, ◌&&◌, leb, ⊎_elim, arith, refl, sym, ap, ap₂, ◌∙◌}
use Rattle.std.specs.Prelude.{bit_and}
use Rattle.std.proofs.lemmas.Bool.{and_parts, cases_lt, le-leb, lt-leb}
use Rattle.vf_spans.specs.Words.{has_bit}
use Rattle.vf_spans.proofs.WordBits.{has_bit-and, has_bit-not}

-- what a word of masked bits says of the word
both_not : (x : Bool) → (not x && true) ≡ false → x ≡ true
both_not true e = refl
both_not false e = sym e

-- a clear bit from b on is one of those above
pub above_bit : (word from b k : ℕ) → word < 2 ^ 64 → ((j : ℕ) → j < 64 → has_bit from j ≡ leb b j) → k < 64
    → has_bit (bit_and (2 ^ 64 - 1 - word) from) k ≡ (not (has_bit word k) && leb b k)
above_bit word from b k fits bits lt =
    has_bit-and (2 ^ 64 - 1 - word) from k ∙ ap₂ (λ p q. p && q) (has_bit-not word k fits lt) (bits k lt)

-- one below b is one of those below
pub below_bit : (word from b k : ℕ) → word < 2 ^ 64 → from < 2 ^ 64 → ((j : ℕ) → j < 64 → has_bit from j ≡ leb b j) → k < 64
    → has_bit (bit_and (2 ^ 64 - 1 - word) (2 ^ 64 - 1 - from)) k ≡ (not (has_bit word k) && not (leb b k))
below_bit word from b k fits fits' bits lt =
    has_bit-and (2 ^ 64 - 1 - word) (2 ^ 64 - 1 - from) k
    ∙ ap₂ (λ p q. p && q) (has_bit-not word k fits lt) (has_bit-not from k fits' lt ∙ ap not (bits k lt))

-- so where none is there, the bit is set
pub set_above : (x : Bool) (b k : ℕ) → b ≤ k → (not x && leb b k) ≡ false → x ≡ true
set_above x b k le e = both_not x (ap (λ t. not x && t) (sym (le-leb b k le)) ∙ e)

pub set_below : (x : Bool) (b k : ℕ) → k < b → (not x && not (leb b k)) ≡ false → x ≡ true
set_below x b k lt e = both_not x (ap (λ t. not x && not t) (sym (lt-leb b k lt)) ∙ e)

-- and where one is there, it is on that side of b; above, not b itself where b is set
pub none_below : (x : Bool) (b k : ℕ) → (not x && not (leb b k)) ≡ true → k < b
none_below x b k e =
    ⊎_elim (λ (lt : k < b). lt)
    (λ (le : b ≤ k). let at = and_parts (not x) (not (leb b k)) e in let t = le-leb b k le in absurd (cc)) (cases_lt k b)

pub none_above : (word b k : ℕ) → has_bit word b ≡ true → (not (has_bit word k) && leb b k) ≡ true → b < k
none_above word b k set e =
    let at = and_parts (not (has_bit word k)) (leb b k) e in
    ⊎_elim (λ (lt : b < k). lt)
    (λ (le : k ≤ b). ⊎_elim (λ (lt : k < b). let f = lt-leb b k lt in absurd (cc))
    (λ (le' : b ≤ k). let same : k ≡ b = omega arith in
    let t : has_bit word k ≡ true = ap (λ j. has_bit word j) same ∙ set in absurd (cc)) (cases_lt k b)) (cases_lt b k)
