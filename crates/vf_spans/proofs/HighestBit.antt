-- The highest bit of a word that is set.
use Rattle.std.proofs.Common.{◌≡◌, ℕ, zero, suc, ◌+◌, ◌-◌, ◌*◌, ◌/◌, ◌^◌, ◌<◌, ◌≤◌, true, false, ⊎_elim, arith, pow_pos, refl, sym, ap, subst, ◌∙◌}
use Rattle.std.specs.Prelude.{bit_and}
use Rattle.std.specs.Int.{bit_at}
use Rattle.std.specs.Int.Count.{count_leading_zeros}
use Rattle.std.proofs.Math.Nat.{div-mul-le_self, lt-mul-div-succ, mul-le-mul}
use Rattle.std.proofs.lemmas.Bool.{cases_lt, eq-eqb, ne_eqb}
use Rattle.std.proofs.lemmas.Nat.{leading_top}
use Rattle.std.proofs.lemmas.Nat.Bits.{bit_at_above, shr_and_one}
use Rattle.vf_spans.specs.Words.{has_bit}

quotient_one : (q b a : ℕ) → q * b ≤ a → a < b * (q + 1) → b ≤ a → a < 2 * b → q ≡ 1
quotient_one zero b a low high from to = absurd (omega (arith, high, from))
quotient_one (suc zero) b a low high from to = refl
quotient_one (suc (suc q)) b a low high from to = let more : 2 * b ≤ suc (suc q) * b = mul-le-mul (omega arith) (omega arith) in absurd (omega (arith, low, to, more))

highest : (word j : ℕ) → 2 ^ j ≤ word → word < 2 ^ suc j → has_bit word j ≡ true
unfolding has_bit
highest word j from to =
    let some : 0 < 2 ^ j = pow_pos j in
    let one = quotient_one (word / 2 ^ j) (2 ^ j) word (div-mul-le_self word (2 ^ j)) (lt-mul-div-succ word some) from (omega (arith, to)) in
    eq-eqb (bit_at word j) 1 (sym (shr_and_one word j) ∙ ap (λ q. bit_and q 1) one)

none_above : (word j k : ℕ) → word < 2 ^ suc j → j < k → has_bit word k ≡ false
unfolding has_bit
none_above word j k to above = ne_eqb (bit_at word k) 1 (λ e. let none = bit_at_above word (suc j) k to (omega arith) in omega (arith, e, none))

pub has_bit-highest_set : (word : ℕ) → 0 < word → word < 2 ^ 64
    → (has_bit word (63 - count_leading_zeros 64 word) ≡ true) × ((k : ℕ) → 63 - count_leading_zeros 64 word < k → has_bit word k ≡ false)
has_bit-highest_set word some fits =
    let top = leading_top 64 word some fits in let j = top.0 in
    let e : j ≡ 63 - count_leading_zeros 64 word = omega (arith, top.1) in
    subst (λ i. (has_bit word i ≡ true) × ((k : ℕ) → i < k → has_bit word k ≡ false)) e
    (highest word j top.2 top.3, λ k above. none_above word j k top.3 above)

-- a bit that is set lies between the lowest and the highest
pub at_least : (word low b : ℕ) → ((k : ℕ) → k < low → has_bit word k ≡ false) → has_bit word b ≡ true → low ≤ b
at_least word low b none is_set = ⊎_elim (λ (before : b < low). let e = none b before in absurd (cc)) (λ (from : low ≤ b). from) (cases_lt b low)

pub at_most : (word high b : ℕ) → ((k : ℕ) → high < k → has_bit word k ≡ false) → has_bit word b ≡ true → b ≤ high
at_most word high b none is_set = ⊎_elim (λ (beyond : high < b). let e = none b beyond in absurd (cc)) (λ (to : b ≤ high). to) (cases_lt high b)
