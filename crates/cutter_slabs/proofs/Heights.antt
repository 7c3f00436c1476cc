-- Where a place's own height is rational, the corner rule at that height gives the rule at every greater height: the profile rises.
use Rattle.std.proofs.Common.{◌≡◌, ℕ, ◌+◌, ◌*◌, ◌-◌, ◌≤◌, ◌<◌, ℤ, pos, negsuc, ◌*ℤ◌, ◌≤ℤ◌, ◌<ℤ◌, arith, ap, sym, subst}
use Rattle.std.proofs.Math.Nat.{le_of_mul-le-mul_left, mul-le-mul, mul-le-mul_left, mul-le-mul_right}
use Rattle.std.proofs.lemmas.Int.{ints}
use Rattle.bern_form.proofs.Roots.{root_le}
use Rattle.cutter_slabs.specs.Corner.{CornerRule, IsWithinCorner}
use Rattle.cutter_slabs.proofs.Corners.{Corner}
use Rattle.cutter_slabs.proofs.Inner.{gain_core}
use Rattle.cutter_slabs.proofs.Rules.{WithinAt, corner_up, within_down}

-- g rises with the height, from p / q to x / y
rising : (r p q x y g h : ℕ) → p * y ≤ x * q → x ≤ r * y → g + p * p ≡ 2 * r * p * q → h + x * x ≡ 2 * r * x * y → g * (y * y) ≤ h * (q * q)
rising r p q x y g h l k e f =
    let yy = ap (λ z. y * y * z) e in let qq = ap (λ z. q * q * z) f in
    let top = mul-le-mul_right q k in
    let x' : p * y + (x * q - p * y) ≡ x * q = omega arith in
    let r' : p * y + (x * q - p * y) + (r * y * q - x * q) ≡ r * y * q = omega arith in
    let one : g * (y * y) + (p * y) * (p * y) ≤ 2 * (p * y) * (p * y + (x * q - p * y) + (r * y * q - x * q)) =
    subst (λ z. g * (y * y) + (p * y) * (p * y) ≤ 2 * (p * y) * z) (sym r') (omega (arith, yy)) in
    let two : h * (q * q) + (p * y + (x * q - p * y)) * (p * y + (x * q - p * y)) ≡ 2 * (p * y + (x * q - p * y)) * (p * y + (x * q - p * y) + (r * y * q - x * q)) =
    subst (λ z. h * (q * q) + (p * y + (x * q - p * y)) * (p * y + (x * q - p * y)) ≡ 2 * (p * y + (x * q - p * y)) * z) (sym r')
    (subst (λ z. h * (q * q) + z * z ≡ 2 * z * (r * y * q)) (sym x') (omega (arith, qq))) in
    gain_core (p * y) (x * q - p * y) (r * y * q - x * q) (g * (y * y)) (h * (q * q)) one two

-- y^2 c at the one height is at least q^2 c at the other
falling : (E N W q y g h m s : ℕ) → g * (y * y) ≤ h * (q * q) → E * E * (q * q) * N + 4 * g * N + s ≡ 4 * (q * q) * W → E * E * (y * y) * N + 4 * h * N + m ≡ 4 * (y * y) * W
    → m * (q * q) ≤ s * (y * y)
falling E N W q y g h m s k e f =
    let a = ap (λ z. y * y * z) e in let b = ap (λ z. q * q * z) f in
    let c = mul-le-mul_right N k in
    omega (arith, a, b, c)

above_by : (E N W q y g h m : ℕ) → g * (y * y) ≤ h * (q * q) → 0 < y * y → E * E * (y * y) * N + 4 * h * N + m ≡ 4 * (y * y) * W → E * E * (q * q) * N + 4 * g * N ≤ 4 * (q * q) * W
above_by E N W q y g h m k some f =
    let b = ap (λ z. q * q * z) f in
    let c = mul-le-mul_right N k in
    le_of_mul-le-mul_left {k = y * y} (omega (arith, b, c)) some

squared : (E N q y g h m s : ℕ) → g * (y * y) ≤ h * (q * q) → m * (q * q) ≤ s * (y * y) → s * s ≤ 16 * (E * E) * (q * q) * g * (N * N) → 0 < q * q
    → m * m ≤ 16 * (E * E) * (y * y) * h * (N * N)
squared E N q y g h m s k l w some =
    let a = mul-le-mul l l in
    let b = mul-le-mul_left (y * y * (y * y)) w in
    let c = mul-le-mul_left (16 * (E * E) * (q * q) * (y * y) * (N * N)) k in
    let four = mul-le-mul some some in
    le_of_mul-le-mul_left {k = q * q * (q * q)} (omega (arith, a, b, c)) (omega (arith, four))

positive_square : (q : ℕ) → 1 ≤ q → 0 < q * q
positive_square q some = let s = mul-le-mul some some in omega (arith, s)

-- the height x / y is at least p / q
higher : (p q x y u N : ℕ) → 0 < N → (q * u) * (q * u) ≡ (p * p) * N → (y * u) * (y * u) ≤ (x * x) * N → p * y ≤ x * q
higher p q x y u N some own low =
    let a = mul-le-mul_left (q * q) low in
    let b = ap (λ z. y * y * z) own in
    root_le (p * y) (x * q) (le_of_mul-le-mul_left {k = N} (omega (arith, a, b)) some)

-- The rule at a place's own height gives the rule
pub own_height : (r E u N W p q : ℕ) → 0 < N → 1 ≤ q → p ≤ r * q → (q * u) * (q * u) ≡ (p * p) * N → WithinAt r E N W p q → Corner r E u N W
own_height r E u N W p q some one top own rule = λ x y h m one' top' low e f.
    let order = higher p q x y u N some own low in
    let g = 2 * r * p * q - p * p in
    let pp = mul-le-mul_right p top in
    let eg : g + p * p ≡ 2 * r * p * q = omega arith in
    let k = rising r p q x y g h order top' eg e in
    let below = above_by E N W q y g h m k (positive_square y one') f in
    let s = 4 * (q * q) * W - (E * E * (q * q) * N + 4 * g * N) in
    let es : E * E * (q * q) * N + 4 * g * N + s ≡ 4 * (q * q) * W = omega arith in
    squared E N q y g h m s k (falling E N W q y g h m s k es f) (rule g s eg es) (positive_square q one)

-- over whole numbers
own_square : (p q u n : ℕ) → pos (q * q) *ℤ (pos u *ℤ pos u) ≡ pos (p * p) *ℤ pos n → (q * u) * (q * u) ≡ (p * p) * n
own_square p q u n e = omega (arith, ints, e)

above_none : (n : ℕ) → pos 0 <ℤ pos n → 0 < n
above_none n h = omega (arith, ints, h)

not_below : (z : ℤ) → pos 0 <ℤ z → pos 0 ≤ℤ z
not_below z h = omega (arith, ints, h)

own_rule : (r E p q u n w : ℕ) → 0 < n → 1 ≤ q → p ≤ r * q → pos (q * q) *ℤ (pos u *ℤ pos u) ≡ pos (p * p) *ℤ pos n → IsWithinCorner r E (pos n) (pos w) p q → CornerRule r E (pos u) (pos n) (pos w)
own_rule r E p q u n w some one top own rule =
    corner_up r E u n w (own_height r E u n w p q some one top (own_square p q u n own) (within_down r E n w p q rule))

pub own_is_enough : (r E p q : ℕ) (u n w : ℤ) → pos 0 ≤ℤ u → pos 0 <ℤ n → pos 0 ≤ℤ w → 1 ≤ q → p ≤ r * q → pos (q * q) *ℤ (u *ℤ u) ≡ pos (p * p) *ℤ n
    → IsWithinCorner r E n w p q → CornerRule r E u n w
own_is_enough r E p q (pos u) (pos n) (pos w) hu hn hw one top own rule = own_rule r E p q u n w (above_none n hn) one top own rule
own_is_enough r E p q (negsuc u) n w hu hn hw one top own rule = absurd (omega (arith, ints, hu))
own_is_enough r E p q (pos u) (negsuc n) w hu hn hw one top own rule = absurd (omega (arith, ints, hn))
own_is_enough r E p q (pos u) (pos n) (negsuc w) hu hn hw one top own rule = absurd (omega (arith, ints, hw))

own_is_low : (p q : ℕ) (u n : ℤ) → pos (q * q) *ℤ (u *ℤ u) ≡ pos (p * p) *ℤ n → (pos (q * q) *ℤ (u *ℤ u)) ≤ℤ (pos (p * p) *ℤ n)
own_is_low p q u n e = omega (arith, ints, e)

pub own_is_asked : (r E p q : ℕ) (u n w : ℤ) → 1 ≤ q → p ≤ r * q → pos (q * q) *ℤ (u *ℤ u) ≡ pos (p * p) *ℤ n → CornerRule r E u n w → IsWithinCorner r E n w p q
own_is_asked r E p q u n w one top own rule = rule p q one top (own_is_low p q u n own)
