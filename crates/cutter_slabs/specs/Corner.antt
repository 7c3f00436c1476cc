-- The rounded corner between the flat bottom and the upright flank: a quarter of a circle of radius r, which begins E / 2 from
-- the axis.
use Rattle.std.specs.Prelude.{◌≡◌, ℕ, ◌*◌, ◌≤◌, ◌⊎◌, ℤ, pos, ◌*ℤ◌, ◌-ℤ◌, ◌≤ℤ◌}

-- At the height z = p / q the profile's radius is E / 2 + sqrt(2 r z - z^2), and the distance from the axis, sqrt(w / n), is at
-- most that. With g = q^2 (2 r z - z^2) and c = 4 q^2 w - E^2 q^2 n - 4 g n, squared twice, this says that c is at most 0 or its
-- square at most 16 E^2 q^2 g n^2.
abbrev pub IsWithinCorner : ℕ → ℕ → ℤ → ℤ → ℕ → ℕ → Type 0
IsWithinCorner r E n w p q =
    (g c : ℤ) → g ≡ pos (2 * r * p * q) -ℤ pos (p * p) → c ≡ pos (4 * (q * q)) *ℤ w -ℤ pos (E * E * (q * q)) *ℤ n -ℤ pos 4 *ℤ (g *ℤ n)
    → (c ≤ℤ pos 0) ⊎ ((c *ℤ c) ≤ℤ (pos (16 * (E * E) * (q * q)) *ℤ (g *ℤ (n *ℤ n))))

-- The corner rule at a place whose height is u / sqrt(n) and whose squared distance from the axis is w / n: it is within the
-- profile at every rational height p / q from its own up to r.
abbrev pub CornerRule : ℕ → ℕ → ℤ → ℤ → ℤ → Type 0
CornerRule r E u n w = (p q : ℕ) → 1 ≤ q → p ≤ r * q → (pos (q * q) *ℤ (u *ℤ u)) ≤ℤ (pos (p * p) *ℤ n) → IsWithinCorner r E n w p q
