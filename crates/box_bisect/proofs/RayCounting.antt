-- The steps of a search over boxes in time and along a ray, by the weights of the boxes.
use Rattle.std.proofs.Common.{◌≡◌, Bool, true, false, ℕ, zero, suc, ◌+◌, ◌-◌, ◌*◌, ◌^◌, ◌≤◌, ◌<◌, if◌then◌else◌, arith, subst, sym}
use Rattle.std.proofs.lemmas.Bool.Decides.{nat_tests}
use Rattle.box_bisect.specs.RayBoxes.{along, is_long, middle, over_children, weight}

chosen : (b : Bool) (x y : ℕ) → b ≡ true → (if b then x else y) ≡ x
chosen b x y h = cc

other : (b : Bool) (x y : ℕ) → b ≡ false → (if b then x else y) ≡ y
other b x y h = cc

long : (a b : ℕ) → 2 ≤ b - a → is_long a b ≡ true
long a b h = grind (arith, nat_tests)

short : (a b : ℕ) → b - a < 2 → is_long a b ≡ false
short a b h = grind (arith, nat_tests)

-- halves along the ray
pub along_both : (w : ℕ → ℕ → ℕ) (a b : ℕ) → 2 ≤ b - a → along w a b ≡ w a (middle a b) + w (middle a b) b
along_both w a b h = chosen (is_long a b) (w a (middle a b) + w (middle a b) b) (w a b) (long a b h)

pub along_alone : (w : ℕ → ℕ → ℕ) (a b : ℕ) → b - a < 2 → along w a b ≡ w a b
along_alone w a b h = other (is_long a b) (w a (middle a b) + w (middle a b) b) (w a b) (short a b h)

-- an undecided box
weight_undecided : (t : ℕ → ℕ → ℕ → ℕ → Bool) (h n j a b : ℕ) → t n j a b ≡ true → weight t (suc h) n j a b ≡ 1 + over_children (weight t h) n j a b
unfolding weight
weight_undecided t h n j a b undecided = chosen (t n j a b) (1 + over_children (weight t h) n j a b) 0 undecided

-- only the test of the box, or with what its children cost
pub cost_decided : (x y l w : ℕ) → y ≤ x + l → y ≤ x + l * (1 + 4 * w)
cost_decided x y l w h = omega (arith, h)

cost_of : (x y z l c w : ℕ) → y ≤ x + l → z ≤ y + l * (4 * (1 + c)) → w ≡ 1 + c → z ≤ x + l * (1 + 4 * w)
cost_of x y z l c w h g e = subst (λ k. z ≤ x + l * (1 + 4 * k)) (sym e) (omega (arith, h, g))

pub cost_undecided : (t : ℕ → ℕ → ℕ → ℕ → Bool) (halvings n j a b x y z l : ℕ) → 0 < halvings → t n j a b ≡ true → y ≤ x + l
    → z ≤ y + l * (4 * (1 + over_children (weight t (halvings - 1)) n j a b)) → z ≤ x + l * (1 + 4 * weight t halvings n j a b)
cost_undecided t zero n j a b x y z l some undecided h g = absurd (omega arith)
cost_undecided t (suc k) n j a b x y z l some undecided h g =
    let before : suc k - 1 ≡ k = omega arith in
    cost_of x y z l (over_children (weight t k) n j a b) (weight t (suc k) n j a b) h
    (subst (λ i. z ≤ y + l * (4 * (1 + over_children (weight t i) n j a b))) before g) (weight_undecided t k n j a b undecided)

-- a box as one child, and as two
pub cost_alone : (w : ℕ → ℕ → ℕ) (a b x y l : ℕ) → b - a < 2 → y ≤ x + l * (1 + 4 * w a b) → y ≤ x + l * (2 + 4 * along w a b)
cost_alone w a b x y l few h = subst (λ k. y ≤ x + l * (2 + 4 * k)) (sym (along_alone w a b few)) (omega (arith, h))

pub cost_halves : (w : ℕ → ℕ → ℕ) (a b x y z l : ℕ) → 2 ≤ b - a → y ≤ x + l * (1 + 4 * w a (middle a b)) → z ≤ y + l * (1 + 4 * w (middle a b) b) → z ≤ x + l * (2 + 4 * along w a b)
cost_halves w a b x y z l many h g =
    let u = w a (middle a b) in let v = w (middle a b) b in
    subst (λ k. z ≤ x + l * (2 + 4 * k)) (sym (along_both w a b many)) (omega (arith, h, g))

-- the children of a box: none of a point on a cell, whose samples are tested instead, or halves along the ray, or in time
pub cost_samples : (x y l i c : ℕ) → i ≤ l → y ≤ x + 2 * i → y ≤ x + l * (4 * (1 + c))
cost_samples x y l i c few h = omega (arith, few, h)

pub cost_on_cell : (w : ℕ → ℕ → ℕ → ℕ → ℕ) (n j a b x y z l : ℕ) → n ≡ 0 → 2 ≤ b - a → y ≤ x + l * (1 + 4 * w 0 j a (middle a b)) → z ≤ y + l * (1 + 4 * w 0 j (middle a b) b)
    → z ≤ x + l * (4 * (1 + over_children w n j a b))
cost_on_cell w n j a b x y z l e many h g =
    let two : over_children w 0 j a b ≡ along (w 0 j) a b = chosen (is_long a b) (along (w 0 j) a b) 0 (long a b many) in
    let both = cost_halves (w 0 j) a b x y z l many h g in
    subst (λ k. z ≤ x + l * (4 * (1 + over_children w k j a b))) (sym e) (subst (λ k. z ≤ x + l * (4 * (1 + k))) (sym two) (omega (arith, both)))

pub cost_in_time : (w : ℕ → ℕ → ℕ → ℕ → ℕ) (n k j a b x y z l : ℕ) → n ≡ k + 1 → y ≤ x + l * (2 + 4 * along (w k j) a b) → z ≤ y + l * (2 + 4 * along (w k (j + 2 ^ k)) a b)
    → z ≤ x + l * (4 * (1 + over_children w n j a b))
cost_in_time w n k j a b x y z l e h g =
    let more : n ≡ suc k = omega (arith, e) in
    let u = along (w k j) a b in let v = along (w k (j + 2 ^ k)) a b in
    subst (λ i. z ≤ x + l * (4 * (1 + over_children w i j a b))) (sym more) (omega (arith, h, g))
