-- Runs of digits, and the numbers that they spell.
use Rattle.std.proofs.Common.{◌≡◌, ℕ, suc, ◌+◌, ◌-◌, ◌*◌, ◌^◌, ◌<◌, ◌≤◌, ◌++◌, List, [], ◌∷◌, Bool, true, false, ◌&&◌, cond, take, drop, length, get_or, leb, add-one, drop-cons, arith, refl, sym, ap, ◌∙◌}
use Rattle.std.specs.Char.{is_ascii_digit}
use Rattle.std.specs.List.{list_all, prefix_len}
use Rattle.std.proofs.Math.Nat.{mul-le-mul_right}
use Rattle.std.proofs.lemmas.Nat.{pow-add}
use Rattle.std.proofs.lemmas.Bool.{leb-true}
use Rattle.vf_text.specs.Digits.{spelt}
use Rattle.vf_text.proofs.PowerLemmas.{ten_next, ten_monotone, ten_grows}

-- digits after digits
pub spelt-append : (n : ℕ) (xs ys : List ℕ) → spelt n (xs ++ ys) ≡ spelt (spelt n xs) ys
spelt-append n [] ys = refl
spelt-append n (x ∷ xs) ys = spelt-append (10 * n + (x - 48)) xs ys

one_more : (n : ℕ) → 1 + n ≡ suc n
one_more n = omega arith

both : (a b : Bool) → (a && b) ≡ true → (a ≡ true) × (b ≡ true)
both true b holds = (refl, holds)
both false b holds = absurd (cc)

-- the elements of the longest front that passes a test all pass it
pub all_of_prefix : (p : ℕ → Bool) (xs : List ℕ) → list_all p (take (prefix_len p xs) xs) ≡ true
all_of_prefix p [] = refl
all_of_prefix p (x ∷ xs) =
    elim (p x) as (λ b. p x ≡ b → list_all p (take (cond b (1 + prefix_len p xs) 0) (x ∷ xs)) ≡ true) [
      | true ↦ λ passes. rw (one_more (prefix_len p xs), passes) (all_of_prefix p xs)
      | false ↦ λ fails. refl
    ] refl

-- a digit in front of digits
first_digit : (d : ℕ) (digits : List ℕ) → list_all is_ascii_digit (d ∷ digits) ≡ true → (d < 58) × (list_all is_ascii_digit digits ≡ true)
first_digit d digits all =
    let parts = both (is_ascii_digit d) (list_all is_ascii_digit digits) all in
    let range = both (leb 48 d) (leb d 57) parts.0 in
    let below : d ≤ 57 = leb-true d 57 range.1 in
    (omega arith, parts.1)

-- one more digit is read
pub record SpellsOn (digits : List ℕ) (i value total most : ℕ) : Type 0 where
  pub all : list_all is_ascii_digit (drop i digits) ≡ true
  pub spells : spelt value (drop i digits) ≡ total
  pub bound : (value + 1) * 10 ^ (length digits - i) ≤ most

left_after : (len i : ℕ) → i < len → len - i ≡ (len - (i + 1)) + 1
left_after len i within = omega arith

spells_on : (value d k more most : ℕ) → d ≤ 9 → more ≡ 10 * k → (value + 1) * more ≤ most → (10 * value + d + 1) * k ≤ most
spells_on value d k more most small is bound =
    let grows : (10 * value + d + 1) * k ≤ (10 * (value + 1)) * k = mul-le-mul_right k (omega arith) in
    let same : (value + 1) * more ≡ (10 * (value + 1)) * k = ap (λ m. (value + 1) * m) is ∙ omega arith in
    omega arith

pub SpellsOn-next : (digits : List ℕ) (i value total most : ℕ) → i < length digits → SpellsOn digits i value total most → SpellsOn digits (i + 1) (10 * value + (get_or digits i 0 - 48)) total most
SpellsOn-next digits i value total most within so_far =
    let d = get_or digits i 0 in
    let cut : drop i digits ≡ d ∷ drop (i + 1) digits = drop-cons digits i 0 within ∙ ap (λ k. d ∷ drop k digits) (sym (add-one i)) in
    let parts = first_digit d (drop (i + 1) digits) (sym (ap (list_all is_ascii_digit) cut) ∙ so_far.all) in
    let power : 10 ^ (length digits - i) ≡ 10 * 10 ^ (length digits - (i + 1)) = ap (λ k. 10 ^ k) (left_after (length digits) i within) ∙ ten_next (length digits - (i + 1)) in
    record {
      all = parts.1;
      spells = sym (ap (spelt value) cut) ∙ so_far.spells;
      bound = spells_on value (d - 48) (10 ^ (length digits - (i + 1))) (10 ^ (length digits - i)) most (omega (arith, parts.0)) power so_far.bound;
    }

-- digits after a number that fits still fit
pub fits-append : (most n w f : ℕ) → n < (0 + 1) * 10 ^ w → w + f ≤ most → (n + 1) * 10 ^ f ≤ 10 ^ most
fits-append most n w f bound short =
    let split = pow-add 10 w f in
    let grows = mul-le-mul_right (10 ^ f) bound in
    omega (arith, ten_monotone (w + f) most short)

-- what was read so far fits, as long as all of it does
pub SpellsOn-small : (digits : List ℕ) (i value total most : ℕ) → SpellsOn digits i value total most → value + 1 ≤ most
SpellsOn-small digits i value total most so_far = omega (arith, so_far.bound, ten_grows (value + 1) (length digits - i))

-- two runs of digits spell less than the power of ten with both their lengths
pub fits-whole : (most n m w f : ℕ) → n < (0 + 1) * 10 ^ w → m < (n + 1) * 10 ^ f → w + f ≤ most → m < 10 ^ most
fits-whole most n m w f bound more short = omega (arith, fits-append most n w f bound short)
