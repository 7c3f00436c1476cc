-- The nearest whole number to a quotient by a power of ten.
use Rattle.std.proofs.Common.{◌≡◌, ℕ, ◌+◌, ◌*◌, ◌/◌, ◌^◌, ◌-◌, ◌<◌, ◌≤◌, arith, ap, ◌∙◌, sym}
use Rattle.std.proofs.Math.Nat.{mul-div-mul_left, div-eq_of_lt, div-eq_of_lt-le}
use Rattle.std.proofs.lemmas.Nat.{pow-add}
use Rattle.vf_text.proofs.PowerLemmas.{ten_grows, ten_positive, ten_split}
use Rattle.cl_lines.specs.Rounding.{nearest, scaled}

-- a whole number is its own nearest
nearest-whole : (q d : ℕ) → 0 < d → nearest (q * d) d ≡ q
nearest-whole q d positive = div-eq_of_lt-le {k = q} (2 * d) (omega arith) (omega arith)

pub nearest-small : (n d : ℕ) → 2 * n < d → nearest n d ≡ 0
nearest-small n d small = div-eq_of_lt (omega arith)

-- a common factor cancels
nearest-cancel : (c n d : ℕ) → 0 < c → nearest (n * c) (d * c) ≡ nearest n d
nearest-cancel c n d positive =
    let above : 2 * (n * c) + d * c ≡ c * (2 * n + d) = omega arith in
    let below : 2 * (d * c) ≡ c * (2 * d) = omega arith in
    ap (λ z. z / (2 * (d * c))) above ∙ ap (λ z. (c * (2 * n + d)) / z) below ∙ mul-div-mul_left (2 * n + d) (2 * d) positive

pub scaled-up : (digits factor up down : ℕ) → down ≤ up → scaled digits factor up down ≡ digits * factor * 10 ^ (up - down)
scaled-up digits factor up down within =
    let n = digits * factor in
    let split : n * 10 ^ up ≡ (n * 10 ^ (up - down)) * 10 ^ down = ap (λ k. n * k) (ten_split down up within) ∙ omega arith in
    ap (λ k. nearest k (10 ^ down)) split ∙ nearest-whole (n * 10 ^ (up - down)) (10 ^ down) (ten_positive down)

pub scaled-down : (digits factor up down : ℕ) → up < down → scaled digits factor up down ≡ nearest (digits * factor) (10 ^ (down - up))
scaled-down digits factor up down within =
    let n = digits * factor in
    ap (λ k. nearest (n * 10 ^ up) k) (ten_split up down (omega arith)) ∙ nearest-cancel (10 ^ up) n (10 ^ (down - up)) (ten_positive up)

-- n * 10^j from n * 10^i
pub ten_later : (n i j : ℕ) → i ≤ j → n * 10 ^ j ≡ (n * 10 ^ i) * 10 ^ (j - i)
ten_later n i j within = ap (λ k. n * k) (ten_split i j within) ∙ omega arith

pub ten_later-le : (n i j : ℕ) → i ≤ j → n * 10 ^ i ≤ n * 10 ^ j
ten_later-le n i j within = let split = ten_later n i j within in let grows = ten_grows (n * 10 ^ i) (j - i) in omega arith

pub ten_later-zero : (n i j : ℕ) → i ≤ j → 0 ≡ n * 10 ^ i → 0 ≡ n * 10 ^ j
ten_later-zero n i j within none = sym (ten_later n i j within ∙ ap (λ k. k * 10 ^ (j - i)) (sym none) ∙ omega arith)

-- a power of ten in the factor is as good as one in the number
pub scaled-power : (digits base power up down : ℕ) → scaled digits (base * 10 ^ power) up down ≡ scaled digits base (up + power) down
scaled-power digits base power up down =
    let split : 10 ^ (up + power) ≡ 10 ^ up * 10 ^ power = pow-add 10 up power in
    let same : digits * (base * 10 ^ power) * 10 ^ up ≡ digits * base * 10 ^ (up + power) = (omega arith) ∙ ap (λ k. digits * base * k) (sym split) in
    ap (λ n. nearest n (10 ^ down)) same
