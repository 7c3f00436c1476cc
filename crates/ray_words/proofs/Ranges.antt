-- A word from the ranges of a set.
use Rattle.std.proofs.Common.{◌≡◌, ℕ, ◌+◌, ◌*◌, ◌/◌, ◌<◌, ◌≤◌, false, ◌&&◌, leb, ltb, ⊎_elim, arith}
use Rattle.std.proofs.lemmas.Bool.{and_left, and_right, cases_lt, lt-leb, le-ltb}

-- a range that doesn't enter word n has none of its indices
pub not_entered : (n lo hi b : ℕ) → ((lo / 64 ≤ n) × (64 * n < hi) → ⊥) → b < 64 → (leb lo (64 * n + b) && ltb (64 * n + b) hi) ≡ false
not_entered n lo hi b outside lt =
    ⊎_elim
    (λ (later : n < lo / 64). and_left (leb lo (64 * n + b)) (ltb (64 * n + b) hi) (lt-leb lo (64 * n + b) (omega arith)))
    (λ (begun : lo / 64 ≤ n).
    ⊎_elim (λ (goes_on : 64 * n < hi). absurd (outside (begun, goes_on)))
    (λ (over : hi ≤ 64 * n). and_right (leb lo (64 * n + b)) (ltb (64 * n + b) hi) (le-ltb (64 * n + b) hi (omega arith)))
    (cases_lt (64 * n) hi)) (cases_lt n (lo / 64))
