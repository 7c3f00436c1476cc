-- A root that is known by its two bounds is the root of the definition.
use Rattle.std.proofs.Common.{◌≡◌, ℕ, zero, suc, ◌+◌, ◌*◌, ◌≤◌, ◌<◌, ltb, arith, ⊎_elim}
use Rattle.std.proofs.Math.Nat.{mul-le-mul}
use Rattle.std.proofs.lemmas.Nat.{mul-lt}
use Rattle.std.proofs.lemmas.Bool.{cases_lt, cond_both, ltb-true, ltb-false}
use Rattle.bern_form.specs.Roots.{floor_root, ceil_root}

-- squares in order are squares of numbers in order
pub root_le : (m a : ℕ) → m * m ≤ a * a → m ≤ a
root_le m a h = ⊎_elim (λ l. let k = mul-lt a a m m l l in absurd (omega arith)) (λ g. g) (cases_lt a m)

pub ceil_root-reaches : (n : ℕ) → n ≤ ceil_root n * ceil_root n
ceil_root-reaches zero = omega arith
ceil_root-reaches (suc n) =
    let s = ceil_root n in
    cond_both (ltb (s * s) (suc n)) (s + 1) s (λ x. suc n ≤ x * x) (λ e. let k = ceil_root-reaches n in omega arith) (λ e. ltb-false (s * s) (suc n) e)

pub ceil_root-least : (n s : ℕ) → n ≤ s * s → ceil_root n ≤ s
ceil_root-least zero s h = omega arith
ceil_root-least (suc n) s h =
    let t = ceil_root n in
    let below : t ≤ s = ceil_root-least n s (omega arith) in
    cond_both (ltb (t * t) (suc n)) (t + 1) t (λ x. x ≤ s)
    (λ e. ⊎_elim (λ l. omega arith) (λ g. let k = mul-le-mul g g in let l = ltb-true (t * t) (suc n) e in absurd (omega arith)) (cases_lt t s)) (λ e. below)

pub floor_root-within : (n : ℕ) → floor_root n * floor_root n ≤ n
floor_root-within zero = omega arith
floor_root-within (suc n) =
    let s = floor_root n in
    cond_both (ltb (suc n) ((s + 1) * (s + 1))) s (s + 1) (λ x. x * x ≤ suc n) (λ e. let k = floor_root-within n in omega arith) (λ e. ltb-false (suc n) ((s + 1) * (s + 1)) e)

pub floor_root-greatest : (n s : ℕ) → s * s ≤ n → s ≤ floor_root n
floor_root-greatest zero zero h = omega arith
floor_root-greatest zero (suc s) h = absurd (omega arith)
floor_root-greatest (suc n) s h =
    let t = floor_root n in
    cond_both (ltb (suc n) ((t + 1) * (t + 1))) t (t + 1) (λ x. s ≤ x)
    (λ e. ⊎_elim (λ l. let k = mul-le-mul l l in let i = ltb-true (suc n) ((t + 1) * (t + 1)) e in absurd (omega arith)) (λ g. g) (cases_lt t s))
    (λ e. ⊎_elim (λ l. let k = mul-le-mul l l in let i = floor_root-greatest n (t + 1) (omega arith) in absurd (omega arith)) (λ g. g) (cases_lt (t + 1) s))

pub is_greatest : (n x s : ℕ) → n < (x + 1) * (x + 1) → s * s ≤ n → s ≤ x
is_greatest n x s h k = ⊎_elim (λ l. let c = mul-le-mul l l in absurd (omega arith)) (λ g. g) (cases_lt x s)

pub is_floor_root : (n x : ℕ) → x * x ≤ n → n < (x + 1) * (x + 1) → x ≡ floor_root n
is_floor_root n x h k =
    let a = floor_root-greatest n x h in
    let b = is_greatest n x (floor_root n) k (floor_root-within n) in
    omega arith

pub is_least : (n x s : ℕ) → x * x < n → n ≤ s * s → x + 1 ≤ s
is_least n x s h k = ⊎_elim (λ l. omega arith) (λ g. let c = mul-le-mul g g in absurd (omega arith)) (cases_lt x s)

pub least_of_equal : (n x s : ℕ) → x * x ≡ n → n ≤ s * s → x ≤ s
least_of_equal n x s e h = root_le x s (omega arith)

pub is_ceil_root : (n x : ℕ) → n ≤ x * x → ((s : ℕ) → n ≤ s * s → x ≤ s) → x ≡ ceil_root n
is_ceil_root n x h k = let a = k (ceil_root n) (ceil_root-reaches n) in let b = ceil_root-least n x h in omega arith
