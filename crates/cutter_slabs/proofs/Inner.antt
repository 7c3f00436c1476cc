-- A place in a slab of the rounded corner is within the corner: the profile rises with the height, so that the distance from the axis,
-- which is at most the profile at the slab's lower end, is at most the profile at every greater height.
use Rattle.std.proofs.Common.{◌≡◌, ℕ, zero, suc, ◌+◌, ◌*◌, ◌-◌, ◌≤◌, ◌<◌, arith, sym, subst}
use Rattle.std.proofs.Math.Nat.{mul-le-mul, mul-le-mul_left, mul-le-mul_right, le_of_mul-le-mul_left}
use Rattle.bern_form.proofs.Roots.{root_le}
use Rattle.cutter_slabs.proofs.Corners.{Corner, InCutter, InSlab, corner}

-- the square of the profile's width rises with the height: x = lo q, x + e = p, x + e + f = r q
pub gain_core : (x e f t g : ℕ) → t + x * x ≤ 2 * x * (x + e + f) → g + (x + e) * (x + e) ≡ 2 * (x + e) * (x + e + f) → t ≤ g
gain_core x e f t g h k = omega arith

gain : (r p q lo s g : ℕ) → lo * q ≤ p → p ≤ r * q → s * s + lo * lo ≤ 2 * r * lo → g + p * p ≡ 2 * r * p * q → s * s * (q * q) ≤ g
gain r p q lo s g h k l e =
    let a = mul-le-mul_left (q * q) l in
    let p' : lo * q + (p - lo * q) ≡ p = omega arith in
    let r' : lo * q + (p - lo * q) + (r * q - p) ≡ r * q = omega arith in
    let one : s * s * (q * q) + (lo * q) * (lo * q) ≤ 2 * (lo * q) * (lo * q + (p - lo * q) + (r * q - p)) =
    subst (λ z. s * s * (q * q) + (lo * q) * (lo * q) ≤ 2 * (lo * q) * z) (sym r') (omega arith) in
    let two : g + (lo * q + (p - lo * q)) * (lo * q + (p - lo * q)) ≡ 2 * (lo * q + (p - lo * q)) * (lo * q + (p - lo * q) + (r * q - p)) =
    subst (λ z. g + (lo * q + (p - lo * q)) * (lo * q + (p - lo * q)) ≡ 2 * (lo * q + (p - lo * q)) * z) (sym r')
    (subst (λ z. g + z * z ≡ 2 * z * (r * q)) (sym p') (omega arith)) in
    gain_core (lo * q) (p - lo * q) (r * q - p) (s * s * (q * q)) g one two

-- a height of at least the point's, which is at least lo, is at least lo
higher : (lo p q u N : ℕ) → 0 < N → (lo * lo) * N ≤ u * u → (q * u) * (q * u) ≤ (p * p) * N → lo * q ≤ p
higher lo p q u N n h k =
    let a = mul-le-mul_left (q * q) h in
    root_le (lo * q) p (le_of_mul-le-mul_left {k = N} (omega arith) n)

corner_holds : (r E lo s u N W : ℕ) → s * s + lo * lo ≤ 2 * r * lo → (lo * lo) * N ≤ u * u → 4 * W ≤ ((E + 2 * s) * (E + 2 * s)) * N → Corner r E u N W
corner_holds r E lo s u zero W l h k = λ p q g m one top low e f.
    let z = mul-le-mul_left (q * q) k in
    let m0 : m ≡ 0 = omega arith in
    subst (λ x. x * x ≤ 16 * (E * E) * (q * q) * g * (0 * 0)) (sym m0) (omega arith)
corner_holds r E lo s u (suc N) W l h k = λ p q g m one top low e f.
    corner E s q (suc N) W g m k (gain r p q lo s g (higher lo p q u (suc N) (omega arith) h low) top l e) f

-- a slab from lo to hi with the diameter E + 2 s
pub slab_inside : (r E h lo hi s u N W : ℕ) → s * s + lo * lo ≤ 2 * r * lo → s ≤ r → hi ≤ h → InSlab lo hi (E + 2 * s) u N W → InCutter r E h u N W
slab_inside r E h lo hi s u N W l m k c =
    let w : E + 2 * s ≤ E + 2 * r = omega arith in
    let a = mul-le-mul_right N (mul-le-mul w w) in
    let b = mul-le-mul_right N (mul-le-mul k k) in
    record { height = omega (arith, c.below); side = omega (arith, c.near); corner = corner_holds r E lo s u N W l c.above c.near }

square_core : (a e t : ℕ) → t + a * a ≤ 2 * (a + e) * a → t ≤ (a + e) * (a + e)
square_core a e t h = omega arith

pub square_within : (r a t : ℕ) → a ≤ r → t + a * a ≤ 2 * r * a → t ≤ r * r
square_within r a t h k =
    let e : a + (r - a) ≡ r = omega arith in
    subst (λ z. t ≤ z * z) e (square_core a (r - a) t (subst (λ z. t + a * a ≤ 2 * z * a) (sym e) k))
