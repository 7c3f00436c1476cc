-- The corner rule over whole numbers is that over natural ones.
use Rattle.std.proofs.Common.{◌≡◌, ℕ, ◌+◌, ◌*◌, ◌-◌, ◌≤◌, ℤ, pos, negsuc, ◌*ℤ◌, ◌-ℤ◌, ◌≤ℤ◌, arith, sym, subst, ◌⊎◌, inl, inr, ⊎_elim}
use Rattle.std.proofs.lemmas.Int.{ints}
use Rattle.std.proofs.Math.Nat.{mul-le-mul_right}
use Rattle.cutter_slabs.specs.Corner.{CornerRule, IsWithinCorner}
use Rattle.cutter_slabs.proofs.Corners.{Corner}

gap_is : (g x y : ℕ) → g + y ≡ x → pos g ≡ pos x -ℤ pos y
gap_is g x y e = omega (arith, ints)

c_is : (E q N W g m : ℕ) → E * E * (q * q) * N + 4 * g * N + m ≡ 4 * (q * q) * W
    → pos m ≡ pos (4 * (q * q)) *ℤ pos W -ℤ pos (E * E * (q * q)) *ℤ pos N -ℤ pos 4 *ℤ (pos g *ℤ pos N)
c_is E q N W g m e = omega (arith, ints)

-- the rule at the height p / q over natural numbers
abbrev pub WithinAt : ℕ → ℕ → ℕ → ℕ → ℕ → ℕ → Type 0
WithinAt r E N W p q =
    (g m : ℕ) → g + p * p ≡ 2 * r * p * q → E * E * (q * q) * N + 4 * g * N + m ≡ 4 * (q * q) * W → m * m ≤ 16 * (E * E) * (q * q) * g * (N * N)

pub within_down : (r E N W p q : ℕ) → IsWithinCorner r E (pos N) (pos W) p q → WithinAt r E N W p q
within_down r E N W p q rule = λ g m e f.
    ⊎_elim
    (λ l. let z : m ≡ 0 = omega (arith, ints) in subst (λ x. x * x ≤ 16 * (E * E) * (q * q) * g * (N * N)) (sym z) (omega arith))
    (λ s. omega (arith, ints, s))
    (rule (pos g) (pos m) (gap_is g (2 * r * p * q) (p * p) e) (c_is E q N W g m f))

pub corner_down : (r E U N W : ℕ) → CornerRule r E (pos U) (pos N) (pos W) → Corner r E U N W
corner_down r E U N W c = λ p q g m one top low e f. within_down r E N W p q (c p q one top (omega (arith, ints, low))) g m e f

g_is : (r p q : ℕ) (g : ℤ) → p * p ≤ 2 * r * p * q → g ≡ pos (2 * r * p * q) -ℤ pos (p * p) → g ≡ pos (2 * r * p * q - p * p)
g_is r p q g h e = omega (arith, ints)

m_is : (E q N W g m : ℕ) → pos m ≡ pos (4 * (q * q)) *ℤ pos W -ℤ pos (E * E * (q * q)) *ℤ pos N -ℤ pos 4 *ℤ (pos g *ℤ pos N)
    → E * E * (q * q) * N + 4 * g * N + m ≡ 4 * (q * q) * W
m_is E q N W g m e = omega (arith, ints)

corner_case : (r E U N W : ℕ) → Corner r E U N W → (p q G : ℕ) (x : ℤ) → 1 ≤ q → p ≤ r * q → (pos (q * q) *ℤ (pos U *ℤ pos U)) ≤ℤ (pos (p * p) *ℤ pos N)
    → G + p * p ≡ 2 * r * p * q → x ≡ pos (4 * (q * q)) *ℤ pos W -ℤ pos (E * E * (q * q)) *ℤ pos N -ℤ pos 4 *ℤ (pos G *ℤ pos N)
    → (x ≤ℤ pos 0) ⊎ ((x *ℤ x) ≤ℤ (pos (16 * (E * E) * (q * q)) *ℤ (pos G *ℤ (pos N *ℤ pos N))))
corner_case r E U N W c p q G (pos m) one top low e f = inr (let k = c p q G m one top (omega (arith, ints, low)) e (m_is E q N W G m f) in omega (arith, ints, k))
corner_case r E U N W c p q G (negsuc m) one top low e f = inl (omega (arith, ints))

pub corner_up : (r E U N W : ℕ) → Corner r E U N W → CornerRule r E (pos U) (pos N) (pos W)
corner_up r E U N W c = λ p q one top low g x e f.
    let square = mul-le-mul_right p top in
    let G = 2 * r * p * q - p * p in
    let eg : g ≡ pos G = g_is r p q g (omega arith) e in
    subst (λ z. (x ≤ℤ pos 0) ⊎ ((x *ℤ x) ≤ℤ (pos (16 * (E * E) * (q * q)) *ℤ (z *ℤ (pos N *ℤ pos N))))) (sym eg)
    (corner_case r E U N W c p q G x one top low (omega arith) (subst (λ z. x ≡ pos (4 * (q * q)) *ℤ pos W -ℤ pos (E * E * (q * q)) *ℤ pos N -ℤ pos 4 *ℤ (z *ℤ pos N)) eg f))
