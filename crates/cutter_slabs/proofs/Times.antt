-- The cutter is the same for all ways to write one rational time: with all lengths, the offset and the axis times k, a place with u, N
-- and W has k^2 u, k^2 N and k^4 W.
use Rattle.std.proofs.Common.{◌≡◌, ℕ, ◌+◌, ◌*◌, ◌-◌, ◌≤◌, ◌<◌, arith, ap, sym, subst}
use Rattle.std.proofs.Math.Nat.{mul-le-mul, mul-le-mul_left, le_of_mul-le-mul_left}
use Rattle.cutter_slabs.proofs.Cones.{ConeBy, InCone}
use Rattle.cutter_slabs.proofs.Corners.{Corner, InCutter}

square_above : (k : ℕ) → 0 < k → 0 < k * k
square_above k some = let s = mul-le-mul some some in omega (arith, s)

fourth_above : (k : ℕ) → 0 < k → 0 < k * k * (k * k)
fourth_above k some = let s = square_above k some in let t = mul-le-mul s s in omega (arith, t)

scaled_corner : (r E u N W k : ℕ) → 0 < k → Corner r E u N W → Corner (k * r) (k * E) (k * k * u) (k * k * N) (k * k * (k * k) * W)
scaled_corner r E u N W k some c = λ p q g m one top low e f.
    let square = square_above k some in
    let one' : 1 ≤ k * q = let s = mul-le-mul some one in omega (arith, s) in
    let low' : (k * q * u) * (k * q * u) ≤ (p * p) * N = le_of_mul-le-mul_left {k = k * k} (omega (arith, low)) square in
    let below : E * E * (k * q * (k * q)) * N + 4 * g * N ≤ 4 * (k * q * (k * q)) * W = le_of_mul-le-mul_left {k = k * k} (omega (arith, f)) square in
    let m0 = 4 * (k * q * (k * q)) * W - (E * E * (k * q * (k * q)) * N + 4 * g * N) in
    let f' : E * E * (k * q * (k * q)) * N + 4 * g * N + m0 ≡ 4 * (k * q * (k * q)) * W = omega arith in
    let s = c p (k * q) g m0 one' (omega (arith, top)) low' (omega (arith, e)) f' in
    let ff = ap (λ x. k * k * x) f' in
    let same : m ≡ k * k * m0 = omega (arith, f, ff) in
    let w = mul-le-mul_left (k * k * (k * k)) s in
    subst (λ x. x * x ≤ 16 * (k * E * (k * E)) * (q * q) * g * (k * k * N * (k * k * N))) (sym same) (omega (arith, w))

corner_back : (r E u N W k : ℕ) → 0 < k → Corner (k * r) (k * E) (k * k * u) (k * k * N) (k * k * (k * k) * W) → Corner r E u N W
corner_back r E u N W k some c = λ p q g m one top low e f.
    let fourth = fourth_above k some in
    let eighth = mul-le-mul fourth fourth in
    let low4 = mul-le-mul_left (k * k * (k * k)) low in
    let top2 = mul-le-mul_left k top in
    let e2 = ap (λ x. k * k * x) e in
    let f4 = ap (λ x. k * k * (k * k) * x) f in
    let s = c (k * p) q (k * k * g) (k * k * (k * k) * m) one (omega (arith, top2)) (omega (arith, low4)) (omega (arith, e2)) (omega (arith, f4)) in
    le_of_mul-le-mul_left {k = k * k * (k * k) * (k * k * (k * k))} (omega (arith, s)) (omega (arith, eighth))

-- the base
pub scaled_above : (base u N k : ℕ) → (base * base) * N ≤ u * u → (k * base * (k * base)) * (k * k * N) ≤ (k * k * u) * (k * k * u)
scaled_above base u N k h = let w = mul-le-mul_left (k * k * (k * k)) h in omega (arith, w)

pub above_back : (base u N k : ℕ) → 0 < k → (k * base * (k * base)) * (k * k * N) ≤ (k * k * u) * (k * k * u) → (base * base) * N ≤ u * u
above_back base u N k some h = le_of_mul-le-mul_left {k = k * k * (k * k)} (omega (arith, h)) (fourth_above k some)

pub scaled_round : (r E h u N W k : ℕ) → 0 < k → InCutter r E h u N W → InCutter (k * r) (k * E) (k * h) (k * k * u) (k * k * N) (k * k * (k * k) * W)
scaled_round r E h u N W k some inside =
    let high = mul-le-mul_left (k * k * (k * k)) inside.height in
    let side = mul-le-mul_left (k * k * (k * k)) inside.side in
    record { height = omega (arith, high); side = omega (arith, side); corner = scaled_corner r E u N W k some inside.corner }

pub round_back : (r E h u N W k : ℕ) → 0 < k → InCutter (k * r) (k * E) (k * h) (k * k * u) (k * k * N) (k * k * (k * k) * W) → InCutter r E h u N W
round_back r E h u N W k some inside =
    let fourth = fourth_above k some in
    let high = inside.height in let side = inside.side in record {
      height = le_of_mul-le-mul_left {k = k * k * (k * k)} (omega (arith, high)) fourth;
      side = le_of_mul-le-mul_left {k = k * k * (k * k)} (omega (arith, side)) fourth;
      corner = corner_back r E u N W k some inside.corner;
    }

-- K is one number for all
scaled_rule : (K T D u N W k : ℕ) → 0 < k → ConeBy K T D u N W → ConeBy K T (k * D) (k * k * u) (k * k * N) (k * k * (k * k) * W)
scaled_rule K T D u N W k some c = λ m f.
    let below : K * K * (D * D) * N + 4 * (T * T) * (u * u) ≤ 4 * (K * K) * W = le_of_mul-le-mul_left {k = k * k * (k * k)} (omega (arith, f)) (fourth_above k some) in
    let m0 = 4 * (K * K) * W - (K * K * (D * D) * N + 4 * (T * T) * (u * u)) in
    let f' : K * K * (D * D) * N + 4 * (T * T) * (u * u) + m0 ≡ 4 * (K * K) * W = omega arith in
    let s = c m0 f' in
    let ff = ap (λ x. k * k * (k * k) * x) f' in
    let same : m ≡ k * k * (k * k) * m0 = omega (arith, f, ff) in
    let w = mul-le-mul_left (k * k * (k * k) * (k * k * (k * k))) s in
    subst (λ x. x * x ≤ 16 * (K * K) * (T * T) * (k * D * (k * D)) * ((k * k * u * (k * k * u)) * (k * k * N))) (sym same) (omega (arith, w))

rule_back : (K T D u N W k : ℕ) → 0 < k → ConeBy K T (k * D) (k * k * u) (k * k * N) (k * k * (k * k) * W) → ConeBy K T D u N W
rule_back K T D u N W k some c = λ m f.
    let fourth = fourth_above k some in
    let eighth = mul-le-mul fourth fourth in
    let f4 = ap (λ x. k * k * (k * k) * x) f in
    let s = c (k * k * (k * k) * m) (omega (arith, f4)) in
    le_of_mul-le-mul_left {k = k * k * (k * k) * (k * k * (k * k))} (omega (arith, s)) (omega (arith, eighth))

pub scaled_cone : (T D h u N W k : ℕ) → 0 < k → InCone T D h u N W → InCone T (k * D) (k * h) (k * k * u) (k * k * N) (k * k * (k * k) * W)
scaled_cone T D h u N W k some inside =
    let high = mul-le-mul_left (k * k * (k * k)) inside.height in
    record { height = omega (arith, high); cone = scaled_rule 1000000 T D u N W k some inside.cone }

pub cone_back : (T D h u N W k : ℕ) → 0 < k → InCone T (k * D) (k * h) (k * k * u) (k * k * N) (k * k * (k * k) * W) → InCone T D h u N W
cone_back T D h u N W k some inside =
    let high = inside.height in record {
      height = le_of_mul-le-mul_left {k = k * k * (k * k)} (omega (arith, high)) (fourth_above k some);
      cone = rule_back 1000000 T D u N W k some inside.cone;
    }
