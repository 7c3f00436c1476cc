-- The search for a flag, a word at a time: the first word that has a bit sought from the index on holds the first such flag.
use Rattle.std.proofs.Common.{◌≡◌, ℕ, ◌+◌, ◌*◌, ◌/◌, ◌%◌, ◌<◌, ◌≤◌, List, length, get_or, cond, Bool, true, false, not, ◌&&◌, leb, ⊎_elim, arith, refl, sym, ap, ap₂, ◌∙◌, subst}
use Rattle.std.specs.Prelude.{bit_and}
use Rattle.std.proofs.lemmas.Bool.{cases_lt, and_parts, le-leb, leb-true}
use Rattle.vf_spans.specs.Words.{has_bit, in_words, IsFirstFlag}
use Rattle.vf_spans.proofs.WordBits.{has_bit-zero, has_bit-and}
use Rattle.vf_spans.proofs.WordFlags.{in_words-at}

-- the bits of the word at n that are sought, from the index i on
pub record Sought (ws : List ℕ) (sought : Bool) (i n bits mask : ℕ) : Type 0 where
  pub bits_are : (k : ℕ) → k < 64 → has_bit bits k ≡ cond sought (has_bit (get_or ws n 0) k) (not (has_bit (get_or ws n 0) k))
  pub mask_is : (k : ℕ) → k < 64 → has_bit mask k ≡ leb i (64 * n + k)
  pub none : (k : ℕ) → i ≤ k → k < 64 * n → in_words ws k ≡ not sought

is_sought : (s b : Bool) → cond s b (not b) ≡ true → b ≡ s
is_sought true b e = e
is_sought false true e = cc
is_sought false false e = refl

is_not_sought : (s b : Bool) → cond s b (not b) ≡ false → b ≡ not s
is_not_sought true b e = e
is_not_sought false true e = refl
is_not_sought false false e = cc

no_more : (b c : Bool) → (b && c) ≡ false → c ≡ true → b ≡ false
no_more true true e t = e
no_more true false e t = cc
no_more false c e t = refl

seen : (ws : List ℕ) (s : Bool) (i n bits mask k : ℕ) → Sought ws s i n bits mask → k < 64
    → has_bit (bit_and bits mask) k ≡ (cond s (in_words ws (64 * n + k)) (not (in_words ws (64 * n + k))) && leb i (64 * n + k))
seen ws s i n bits mask k h lt =
    has_bit-and bits mask k
    ∙ ap₂ (λ p q. p && q) (h.bits_are k lt ∙ ap (λ b. cond s b (not b)) (sym (in_words-at ws n k lt))) (h.mask_is k lt)

-- a bit that is not set among them is no flag sought
unseen : (ws : List ℕ) (s : Bool) (i n bits mask k : ℕ) → Sought ws s i n bits mask → k < 64 → i ≤ 64 * n + k → has_bit (bit_and bits mask) k ≡ false → in_words ws (64 * n + k) ≡ not s
unseen ws s i n bits mask k h lt from none =
    is_not_sought s (in_words ws (64 * n + k))
    (no_more (cond s (in_words ws (64 * n + k)) (not (in_words ws (64 * n + k)))) (leb i (64 * n + k)) (sym (seen ws s i n bits mask k h lt) ∙ none) (le-leb i (64 * n + k) from))

-- the flags from i up to that bit of word n
before_bit : (ws : List ℕ) (s : Bool) (i n bits mask r : ℕ) → Sought ws s i n bits mask → r ≤ 64 → ((k : ℕ) → k < r → has_bit (bit_and bits mask) k ≡ false)
    → (k : ℕ) → i ≤ k → k < 64 * n + r → in_words ws k ≡ not s
before_bit ws s i n bits mask r h le none k from lt =
    ⊎_elim (λ (low : k < 64 * n). h.none k from low)
    (λ (high : 64 * n ≤ k).
    let word : k / 64 ≡ n = omega arith in
    let at : 64 * n + k % 64 ≡ k = omega arith in
    subst (λ (m : ℕ). in_words ws m ≡ not s) at (unseen ws s i n bits mask (k % 64) h (omega arith) (omega arith) (none (k % 64) (omega arith)))) (cases_lt k (64 * n))

pub first_here : (ws : List ℕ) (s : Bool) (i n bits mask r : ℕ) → Sought ws s i n bits mask → n < length ws → r < 64
    → has_bit (bit_and bits mask) r ≡ true → ((k : ℕ) → k < r → has_bit (bit_and bits mask) k ≡ false) → IsFirstFlag ws s i (64 * n + r)
first_here ws s i n bits mask r h within lt set lowest =
    let both = and_parts (cond s (in_words ws (64 * n + r)) (not (in_words ws (64 * n + r)))) (leb i (64 * n + r)) (sym (seen ws s i n bits mask r h lt) ∙ set) in
    record {
      from = leb-true i (64 * n + r) both.1;
      within = omega arith;
      found = is_sought s (in_words ws (64 * n + r)) both.0;
      before = before_bit ws s i n bits mask r h (omega arith) lowest;
    }

pub none_here : (ws : List ℕ) (s : Bool) (i n bits mask : ℕ) → Sought ws s i n bits mask → bit_and bits mask ≡ 0 → (k : ℕ) → i ≤ k → k < 64 * (n + 1) → in_words ws k ≡ not s
none_here ws s i n bits mask h none k from lt =
    before_bit ws s i n bits mask 64 h (omega arith) (λ b l. ap (λ w. has_bit w b) none ∙ has_bit-zero b) k from (omega arith)
