-- Which numbers of steps come up to a distance, and which indices lie within reach on one axis.
use Rattle.std.proofs.Common.{◌≡◌, ◌↔◌, ℕ, ◌+◌, ◌*◌, ◌/◌, ◌<◌, ◌≤◌, min, max, ℤ, pos, negsuc, ◌+ℤ◌, ◌-ℤ◌, ◌*ℤ◌, ◌≤ℤ◌, unsigned_abs, IsTrue, arith, sym, ap, ◌∙◌, subst}
use Rattle.std.proofs.lemmas.Int.{ints}
use Rattle.std.proofs.Math.Nat.{mul-le-mul_right}
use Rattle.std.specs.Int.{int_min, int_max}
use native.Mathlib.Decide.{dec_le}
use mathlib.Core.Logic.{dite}
use lib.Signed.{le_z}
use Rattle.space.specs.Reach.{is_near}
use Rattle.space.proofs.ReachLemmas.{decides_near}
use Rattle.ray_grid.proofs.Sizes.{times_is}

-- the numbers of whole steps within a length
pub within_is : (n s l : ℕ) → 0 < s → (l < n / s + 1) ↔ (l * s ≤ n)
within_is n s l some = (
  λ lt. let far = mul-le-mul_right s (let q : l ≤ n / s = omega arith in q) in omega arith,
  λ le. dite (dec_le (n / s + 1) l) (λ past. absurd (let far = mul-le-mul_right s past in omega arith)) (λ before. omega arith),
)

le_true : (x y : ℤ) → x ≤ℤ y → IsTrue (le_z x y)
le_true x y h = grind (arith, ints)

true_le : (x y : ℤ) → IsTrue (le_z x y) → x ≤ℤ y
true_le x y t = grind (arith, ints)

pos_le : (k : ℕ) (z : ℤ) → pos 0 ≤ℤ z → (pos k ≤ℤ z) ↔ (k ≤ unsigned_abs z)
pos_le k (pos n) h = (λ p. omega (arith, ints), λ p. omega (arith, ints))
pos_le k (negsuc n) h = absurd (omega (arith, ints))

-- the numbers of steps within a distance
pub steps_is : (z : ℤ) (m s l : ℕ) → pos 0 ≤ℤ z → m ≡ unsigned_abs z → 0 < s → (l < m / s + 1) ↔ (pos (l * s) ≤ℤ z)
steps_is z m s l positive size some =
    let natural = within_is m s l some in
    let whole = pos_le (l * s) z positive in
    (λ p. whole.1 (subst (λ (n : ℕ). l * s ≤ n) size (natural.0 p)), λ p. natural.1 (subst (λ (n : ℕ). l * s ≤ n) (sym size) (whole.0 p)))

-- the indices between the two ends that the divisions gave are those within reach
pub indices_exact : (from to reach o z dl dh : ℤ) (s count a b first end l : ℕ) → pos 1 ≤ℤ z → s ≡ unsigned_abs z
    → dl ≡ (int_min from to -ℤ reach) -ℤ o → dh ≡ (int_max from to +ℤ reach) -ℤ o
    → (a ≤ l) ↔ (dl ≤ℤ pos (l * s)) → (l < b) ↔ (pos (l * s) ≤ℤ dh) → first ≡ min a count → end ≡ max (min b count) first
    → ((first ≤ l) × (l < end)) ↔ ((l < count) × IsTrue (is_near reach from to (o +ℤ (pos l *ℤ z))))
indices_exact from to reach o z dl dh s count a b first end l positive size low high up down is is' =
    let whole : (pos l *ℤ z) ≡ pos (l * s) = times_is l z positive ∙ ap (λ k. pos (l * k)) (sym size) in
    let near = decides_near reach from to (o +ℤ (pos l *ℤ z)) in (
      λ t.
          let p = t.0 in let q = t.1 in
          let from_a = up.0 (omega arith) in
          let to_b = down.0 (omega arith) in
          (omega arith, near.1 record { above = omega (arith, ints); below = omega (arith, ints) }),
      λ t.
          let p = t.0 in let there = near.0 t.1 in let q = there.above in let r = there.below in
          let from_a : a ≤ l = up.1 (omega (arith, ints)) in
          let to_b : l < b = down.1 (omega (arith, ints)) in
          (omega arith, omega arith),
    )
