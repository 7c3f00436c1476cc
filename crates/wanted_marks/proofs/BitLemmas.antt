-- The bits of a word without one, and of a word made of two.
use Rattle.std.proofs.Common.{sym, ◌≡◌, ◌≢◌, ℕ, ◌-◌, ◌*◌, ◌%◌, ◌^◌, ◌<◌, ◌≤◌, Bool, true, false, not, ◌&&◌, ◌||◌, eqb, ⊎_elim, arith, refl, ap, ◌∙◌, if◌then◌else◌}
use Rattle.std.specs.Prelude.{bit_and, bit_or}
use Rattle.std.proofs.lemmas.Bool.{or_cases, cases_eq, eq-eqb, not_from_true, and_right}
use Rattle.std.proofs.lemmas.Nat.{and_le_l}
use Rattle.vf_spans.specs.Words.{has_bit}
use Rattle.vf_spans.proofs.WordBits.{has_bit-and, has_bit-or, has_bit-not, has_bit-one, has_bit-zero}

one_fits : (b : ℕ) → 1 * 2 ^ b % 2 ^ 64 < 2 ^ 64
one_fits b = omega arith

pub without_one : (word b k : ℕ) → b < 64 → k < 64 → has_bit (bit_and word (2 ^ 64 - 1 - 1 * 2 ^ b % 2 ^ 64)) k ≡ (has_bit word k && not (eqb k b))
without_one word b k within below =
    has_bit-and word (2 ^ 64 - 1 - 1 * 2 ^ b % 2 ^ 64) k
    ∙ ap (λ x. has_bit word k && x) (has_bit-not (1 * 2 ^ b % 2 ^ 64) k (one_fits b) below ∙ ap not (has_bit-one b k within))

less_of : (less word b : ℕ) → less ≤ word → has_bit less b ≡ false → has_bit word b ≡ true → less < word
less_of less word b small not_set is_set =
    ⊎_elim (λ (e : less ≡ word). let f = ap (λ z. has_bit z b) e in absurd (cc)) (λ (e : less ≢ word). omega arith) (cases_eq less word)

pub without_less : (word b : ℕ) → b < 64 → has_bit word b ≡ true → bit_and word (2 ^ 64 - 1 - 1 * 2 ^ b % 2 ^ 64) < word
without_less word b within is_set =
    let rest = bit_and word (2 ^ 64 - 1 - 1 * 2 ^ b % 2 ^ 64) in
    less_of rest word b (and_le_l word (2 ^ 64 - 1 - 1 * 2 ^ b % 2 ^ 64))
    (without_one word b b within within ∙ and_right (has_bit word b) (not (eqb b b)) (not_from_true (eqb b b) (eq-eqb b b refl))) is_set

chosen : (p a b : Bool) → ((a && not p) || (b && p)) ≡ (if p then b else a)
chosen true true true = refl
chosen true true false = refl
chosen true false true = refl
chosen true false false = refl
chosen false true true = refl
chosen false true false = refl
chosen false false true = refl
chosen false false false = refl

pub bits_chosen : (elsewhere there places k : ℕ) → places < 2 ^ 64 → k < 64
    → has_bit (bit_or (bit_and elsewhere (2 ^ 64 - 1 - places)) (bit_and there places)) k ≡ (if has_bit places k then has_bit there k else has_bit elsewhere k)
bits_chosen elsewhere there places k fits below =
    has_bit-or (bit_and elsewhere (2 ^ 64 - 1 - places)) (bit_and there places) k
    ∙ ap (λ x. x || has_bit (bit_and there places) k) (has_bit-and elsewhere (2 ^ 64 - 1 - places) k ∙ ap (λ x. has_bit elsewhere k && x) (has_bit-not places k fits below))
    ∙ ap (λ x. (has_bit elsewhere k && not (has_bit places k)) || x) (has_bit-and there places k)
    ∙ chosen (has_bit places k) (has_bit elsewhere k) (has_bit there k)

both_first : (a b : Bool) → (a && b) ≡ true → a ≡ true
both_first true b h = refl
both_first false b h = absurd (cc)

-- what follows from a bit of each of three words follows from one of all
pub set_in_three : (a b c k : ℕ) (P : Type 0) → has_bit (bit_or (bit_or a b) c) k ≡ true
    → (has_bit a k ≡ true → P) → (has_bit b k ≡ true → P) → (has_bit c k ≡ true → P) → P
set_in_three a b c k P set x y z =
    ⊎_elim
    (λ (h : has_bit (bit_or a b) k ≡ true). ⊎_elim x y (or_cases (has_bit a k) (has_bit b k) (sym (has_bit-or a b k) ∙ h)))
    z (or_cases (has_bit (bit_or a b) k) (has_bit c k) (sym (has_bit-or (bit_or a b) c k) ∙ set))

pub set_without : (word others less k : ℕ) → has_bit less k ≡ (has_bit word k && not (has_bit others k)) → has_bit less k ≡ true → has_bit word k ≡ true
set_without word others less k is set = both_first (has_bit word k) (not (has_bit others k)) (sym is ∙ set)

pub set_in_both : (a b k : ℕ) → has_bit (bit_and a b) k ≡ true → has_bit a k ≡ true
set_in_both a b k set = both_first (has_bit a k) (has_bit b k) (sym (has_bit-and a b k) ∙ set)

-- no bit of 0 is set
pub none_set : {P : Type 0} (word k : ℕ) → word ≡ 0 → has_bit word k ≡ true → P
none_set word k none set = let not_set = ap (λ z. has_bit z k) none ∙ has_bit-zero k in absurd (cc)
