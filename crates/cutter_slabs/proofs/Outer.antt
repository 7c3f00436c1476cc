-- A place within the rounded corner is as near to the axis as a slab that ends above it, by the corner rule at that whole height.
use Rattle.std.proofs.Common.{◌≡◌, ℕ, ◌+◌, ◌*◌, ◌-◌, ◌≤◌, arith, ap, ⊎_elim}
use Rattle.std.proofs.Math.Nat.{mul-le-mul_left, mul-le-mul_right}
use Rattle.std.proofs.lemmas.Bool.{cases_lt}
use Rattle.bern_form.specs.Roots.{ceil_root}
use Rattle.bern_form.proofs.Roots.{ceil_root-reaches, root_le}
use Rattle.cutter_slabs.proofs.Corners.{Corner, InSlab}

-- the corner rule at the whole height z, where c = m is not below 0
bound_of_square : (E s g N m : ℕ) → m * m ≤ 16 * (E * E) * g * (N * N) → g ≤ s * s → m ≤ 4 * E * s * N
bound_of_square E s g N m h k =
    let a = mul-le-mul_left (16 * (E * E) * (N * N)) k in
    root_le m (4 * E * s * N) (omega arith)

-- where c is not below 0
wide_above : (E s g N W m : ℕ) → E * E * N + 4 * g * N + m ≡ 4 * W → m * m ≤ 16 * (E * E) * g * (N * N) → g ≤ s * s
    → 4 * W ≤ ((E + 2 * s) * (E + 2 * s)) * N
wide_above E s g N W m e h k =
    let a = bound_of_square E s g N m h k in
    let b = mul-le-mul_right N k in
    omega arith

-- where it is
wide_below : (E s g N W : ℕ) → 4 * W ≤ E * E * N + 4 * g * N → g ≤ s * s → 4 * W ≤ ((E + 2 * s) * (E + 2 * s)) * N
wide_below E s g N W h k =
    let b = mul-le-mul_right N k in
    omega arith

-- the corner rule at p / q = z gives the width of a slab that ends at z
pub wide : (r E u N W z g s : ℕ) → Corner r E u N W → z ≤ r → u * u ≤ (z * z) * N → g + z * z ≡ 2 * r * z → g ≤ s * s
    → 4 * W ≤ ((E + 2 * s) * (E + 2 * s)) * N
wide r E u N W z g s c l low e k =
    ⊎_elim
    (λ h. wide_below E s g N W (omega arith) k)
    (λ h.
    let m = 4 * W - (E * E * N + 4 * g * N) in
    let f : E * E * N + 4 * g * N + m ≡ 4 * W = omega arith in
    let square = c z 1 g m (omega arith) (omega arith) (omega arith) (omega arith) (omega arith) in
    wide_above E s g N W m f (omega arith) k)
    (cases_lt (4 * W) (E * E * N + 4 * g * N))

-- a slab that begins below the place and ends above it holds it
pub slab_holds : (b r E a z u N W : ℕ) → Corner (b * r) (b * E) u N W → z ≤ r → ((b * a) * (b * a)) * N ≤ u * u → u * u ≤ ((b * z) * (b * z)) * N
    → InSlab (b * a) (b * z) (b * (E + 2 * ceil_root (2 * r * z - z * z))) u N W
slab_holds b r E a z u N W c l low high =
    let s = ceil_root (2 * r * z - z * z) in
    let g = 2 * r * z - z * z in
    let k = ceil_root-reaches g in
    let zz = mul-le-mul_right z l in
    let e : g + z * z ≡ 2 * r * z = omega arith in
    let e2 = ap (λ x. (b * b) * x) e in
    let k2 = mul-le-mul_left (b * b) k in
    let w = wide (b * r) (b * E) u N W (b * z) (b * b * g) (b * s) c (mul-le-mul_left b l) high (omega arith) (omega arith) in
    record { above = low; below = high; near = omega arith }
