-- The corner rule over natural numbers, and that it follows from a slab's diameter: an inequality of degree eight, by hand.
use Rattle.std.proofs.Common.{◌≡◌, ℕ, ◌+◌, ◌*◌, ◌≤◌, arith}
use Rattle.std.proofs.Math.Nat.{mul-le-mul, mul-le-mul_left, mul-le-mul_right}

-- The corner rule at the height p / q, with u the component along the axis times its length, N the axis' square, W the
-- square of the distance from the axis times N, E = d - 2 r. Where the height of the point is at most p / q, and m is
-- 4 q^2 W - E^2 q^2 N - 4 g N for g = 2 r p q - p^2, m^2 is at most 16 E^2 q^2 g N^2. Where that number is below 0 there is no m.
abbrev pub Corner : ℕ → ℕ → ℕ → ℕ → ℕ → Type 0
Corner r E u N W =
    (p q g m : ℕ) → 1 ≤ q → p ≤ r * q → (q * u) * (q * u) ≤ (p * p) * N → g + p * p ≡ 2 * r * p * q
    → E * E * (q * q) * N + 4 * g * N + m ≡ 4 * (q * q) * W → m * m ≤ 16 * (E * E) * (q * q) * g * (N * N)

-- the exact cutter of diameter E + 2 r, corner radius r and height h holds the place
pub record InCutter (r E h u N W : ℕ) : Type 0 where
  pub height : u * u ≤ (h * h) * N
  pub side : 4 * W ≤ ((E + 2 * r) * (E + 2 * r)) * N
  pub corner : Corner r E u N W

-- a slab holds it
pub record InSlab (lo hi dia u N W : ℕ) : Type 0 where
  pub above : (lo * lo) * N ≤ u * u
  pub below : u * u ≤ (hi * hi) * N
  pub near : 4 * W ≤ (dia * dia) * N

-- 4W ≤ (E + 2s)^2 N and s^2 q^2 ≤ g give 4 q^2 W ≤ E^2 q^2 N + 4 g N + 4 E s q^2 N
small : (E s q N W g : ℕ) → 4 * W ≤ (E + 2 * s) * (E + 2 * s) * N → s * s * (q * q) ≤ g
    → 4 * (q * q) * W ≤ E * E * (q * q) * N + 4 * g * N + 4 * E * s * (q * q) * N
small E s q N W g h k =
    let a = mul-le-mul_left (q * q) h in
    let b = mul-le-mul_right N k in
    omega arith

square : (E s q N g m : ℕ) → m ≤ 4 * E * s * (q * q) * N → s * s * (q * q) ≤ g → m * m ≤ 16 * (E * E) * (q * q) * g * (N * N)
square E s q N g m h k =
    let a = mul-le-mul h h in
    let b = mul-le-mul_left (16 * (E * E) * (q * q) * (N * N)) k in
    omega arith

-- c = 4 q^2 W - E^2 q^2 N - 4 g N is at most 0, or its square is at most 16 E^2 q^2 g N^2
pub corner : (E s q N W g m : ℕ) → 4 * W ≤ (E + 2 * s) * (E + 2 * s) * N → s * s * (q * q) ≤ g
    → E * E * (q * q) * N + 4 * g * N + m ≡ 4 * (q * q) * W → m * m ≤ 16 * (E * E) * (q * q) * g * (N * N)
corner E s q N W g m h k e =
    let a = small E s q N W g h k in
    square E s q N g m (omega arith) k
