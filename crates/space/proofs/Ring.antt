-- Laws of products and sums of whole numbers.
use Rattle.std.proofs.Common.{◌≡◌, ◌*◌, ℤ, ◌+ℤ◌, ◌*ℤ◌, arith, ap}
use Rattle.std.proofs.lemmas.Int.{ints}
use borrow.Author.Differences.{up, down, sum_is_lem, product_is}

pub mul_assoc_ℤ : (a b c : ℤ) → (a *ℤ b) *ℤ c ≡ a *ℤ (b *ℤ c)
mul_assoc_ℤ a b c =
    let p = product_is a b in let q = product_is b c in
    omega (
      arith,
      ints,
      ap (λ k. k * up c) p.0,
      ap (λ k. k * down c) p.0,
      ap (λ k. k * up c) p.1,
      ap (λ k. k * down c) p.1,
      ap (λ k. up a * k) q.0,
      ap (λ k. down a * k) q.0,
      ap (λ k. up a * k) q.1,
      ap (λ k. down a * k) q.1,
    )

pub mul_add_ℤ : (a b c : ℤ) → a *ℤ (b +ℤ c) ≡ a *ℤ b +ℤ a *ℤ c
mul_add_ℤ a b c =
    let s = sum_is_lem b c in
    omega (arith, ints, ap (λ k. up a * k) s, ap (λ k. down a * k) s)

pub mul_comm_ℤ : (a b : ℤ) → a *ℤ b ≡ b *ℤ a
mul_comm_ℤ a b = omega (arith, ints)

pub add_mul_ℤ : (a b c : ℤ) → (a +ℤ b) *ℤ c ≡ a *ℤ c +ℤ b *ℤ c
add_mul_ℤ a b c =
    let s = sum_is_lem a b in
    omega (arith, ints, ap (λ k. k * up c) s, ap (λ k. k * down c) s)

-- a * (b * c) = b * (a * c)
pub mul_swap_ℤ : (a b c : ℤ) → a *ℤ (b *ℤ c) ≡ b *ℤ (a *ℤ c)
mul_swap_ℤ a b c = omega (arith, ints, mul_assoc_ℤ a b c, mul_assoc_ℤ b a c, ap (λ (z : ℤ). z *ℤ c) (mul_comm_ℤ a b))

-- (a * b) * (c * d) = (a * c) * (b * d)
pub mul_pairs_ℤ : (a b c d : ℤ) → (a *ℤ b) *ℤ (c *ℤ d) ≡ (a *ℤ c) *ℤ (b *ℤ d)
mul_pairs_ℤ a b c d =
    omega (arith, ints, mul_assoc_ℤ a b (c *ℤ d), mul_assoc_ℤ a c (b *ℤ d), ap (λ (z : ℤ). a *ℤ z) (mul_swap_ℤ b c d))
