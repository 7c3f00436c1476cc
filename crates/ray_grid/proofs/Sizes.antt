-- How large the coordinates of a grid's nodes and points are.
use Rattle.std.proofs.Common.{◌≡◌, ℕ, suc, zero, ◌+◌, ◌-◌, ◌*◌, ◌/◌, ◌%◌, ◌<◌, ◌≤◌, ℤ, pos, negsuc, ◌+ℤ◌, ◌*ℤ◌, ◌≤ℤ◌, unsigned_abs, arith, refl, sym, ap, ap₂, ◌∙◌, subst, w32, FitsSigned, to_z, of_z, slice_index}
use Rattle.std.proofs.lemmas.Int.{ints, to_z-of_z, to_z_pos}
use Rattle.std.proofs.Math.IntN.{pos-*ℤ-pos}
use Rattle.std.proofs.Math.Nat.{mul-le-mul, mul-le-mul_right}
use Rattle.ray_grid.specs.Grids.{GridSize}
use Rattle.ray_grid.specs.declared.ray.Family.{Family}
use Rattle.ray_grid.specs.declared.ray.Family.TheVariants.{X, Y, Z}
use Rattle.ray_grid.specs.Lattice.{nodes_of, per_node, points_of, node_at, place_at}
use Rattle.ray_grid.specs.Ranges.{IsGrid, IsGridAxis}
use Rattle.space.specs.Ranges.{metre}
use Rattle.space.specs.Vectors.{at}
use borrow.Author.Differences.{abs_is as size_is}

pub abs_is : (z : ℤ) → pos 1 ≤ℤ z → z ≡ pos (unsigned_abs z)
abs_is (pos n) h = refl
abs_is (negsuc n) h = absurd (omega (arith, ints))

pub times_is : (n : ℕ) (z : ℤ) → pos 1 ≤ℤ z → (pos n *ℤ z) ≡ pos (n * unsigned_abs z)
times_is n z h = ap (λ k. pos n *ℤ k) (abs_is z h) ∙ pos-*ℤ-pos n (unsigned_abs z)

by_case : (q s p : ℕ) → p ≡ q * s → 1 ≤ p → 1 ≤ q
by_case zero s p e le = absurd (omega arith)
by_case (suc q) s p e le = omega arith

-- a ray has a point for each node at least, and the pitch is a whole number of steps
pub some_per_node : (p s : ℕ) → 1 ≤ s → s ≤ p → p % s ≡ 0 → (1 ≤ p / s) × (p ≡ (p / s) * s)
some_per_node p s one le divides =
    let whole : p ≡ (p / s) * s = omega arith in
    let some : 1 ≤ p / s = by_case (p / s) s p whole (omega arith) in
    (some, whole)

pub node_within : (o : ℤ) (p s c n : ℕ) → 1 ≤ s → s ≤ p → p % s ≡ 0 → n < c → (o +ℤ pos ((c * (p / s) - 1) * s)) ≤ℤ pos 1000000 → (o +ℤ pos (n * p)) ≤ℤ pos 1000000
node_within o p s c n one le divides lt last =
    let per = some_per_node p s one le divides in
    let step = mul-le-mul_right (p / s) (let q : n + 1 ≤ c = omega arith in q) in
    let less : n * (p / s) ≤ c * (p / s) - 1 = omega (arith, per.0) in
    let far = mul-le-mul_right s less in
    let same : n * p ≡ n * (p / s) * s = ap (λ k. n * k) per.1 ∙ omega arith in
    omega (arith, ints)

pub place_within : (o : ℤ) (s m l : ℕ) → l < m → (o +ℤ pos ((m - 1) * s)) ≤ℤ pos 1000000 → (o +ℤ pos (l * s)) ≤ℤ pos 1000000
place_within o s m l lt last =
    let far = mul-le-mul_right s (let q : l ≤ m - 1 = omega arith in q) in
    omega (arith, ints)

-- how a coordinate is computed in the code's own 32 bits, and that nothing is lost on the way
pub record Scaled (o z value : ℤ) (k : ℕ) : Type 0 where
  pub product : FitsSigned w32 (to_z w32 k *ℤ to_z w32 (of_z w32 z))
  pub sum : FitsSigned w32 (to_z w32 (of_z w32 o) +ℤ to_z w32 (of_z w32 (to_z w32 k *ℤ to_z w32 (of_z w32 z))))
  pub there : to_z w32 (of_z w32 (to_z w32 (of_z w32 o) +ℤ to_z w32 (of_z w32 (to_z w32 k *ℤ to_z w32 (of_z w32 z))))) ≡ value
  pub near : unsigned_abs (to_z w32 (of_z w32 (to_z w32 (of_z w32 o) +ℤ to_z w32 (of_z w32 (to_z w32 k *ℤ to_z w32 (of_z w32 z)))))) ≤ metre

pub scaled : (o z : ℤ) (k : ℕ) → FitsSigned w32 z → k < 2147483648 → unsigned_abs o ≤ metre → pos 1 ≤ℤ z → (o +ℤ pos (k * unsigned_abs z)) ≤ℤ pos 1000000 → Scaled o z (o +ℤ (pos k *ℤ z)) k
scaled o z k fits small coordinate positive last =
    let whole : to_z w32 (of_z w32 z) ≡ z = to_z-of_z w32 z fits in
    let product : (to_z w32 k *ℤ to_z w32 (of_z w32 z)) ≡ pos (k * unsigned_abs z) = ap₂ (λ a b. a *ℤ b) (to_z_pos w32 k small) whole ∙ times_is k z positive in
    let size = size_is o in
    let fits_o : FitsSigned w32 o = omega (arith, ints) in
    let fits_product : FitsSigned w32 (to_z w32 k *ℤ to_z w32 (of_z w32 z)) = omega (arith, ints) in
    let sum : (to_z w32 (of_z w32 o) +ℤ to_z w32 (of_z w32 (to_z w32 k *ℤ to_z w32 (of_z w32 z)))) ≡ o +ℤ (pos k *ℤ z) =
    ap₂ (λ a b. a +ℤ b) (to_z-of_z w32 o fits_o) (to_z-of_z w32 (to_z w32 k *ℤ to_z w32 (of_z w32 z)) fits_product ∙ product ∙ sym (times_is k z positive)) in
    let known = times_is k z positive in
    let fits_sum : FitsSigned w32 (to_z w32 (of_z w32 o) +ℤ to_z w32 (of_z w32 (to_z w32 k *ℤ to_z w32 (of_z w32 z)))) = omega (arith, ints) in
    let value = to_z-of_z w32 (to_z w32 (of_z w32 o) +ℤ to_z w32 (of_z w32 (to_z w32 k *ℤ to_z w32 (of_z w32 z)))) fits_sum ∙ sum in
    let near : unsigned_abs (o +ℤ (pos k *ℤ z)) ≤ metre = let there = size_is (o +ℤ (pos k *ℤ z)) in omega (arith, ints) in
    record { product = fits_product; sum = fits_sum; there = value; near = subst (λ x. unsigned_abs x ≤ metre) (sym value) near }

pub axis_of : (g : GridSize) (axis : ℕ) → IsGrid g → axis < 3 → IsGridAxis g.pitch g.step (at g.origin axis) (slice_index g.counts axis)
axis_of g zero is three = is.x
axis_of g (suc zero) is three = is.y
axis_of g (suc (suc zero)) is three = is.z
axis_of g (suc (suc (suc axis))) is three = absurd (omega arith)

pub node_scaled : (g : GridSize) (axis n : ℕ) → IsGrid g → FitsSigned w32 g.pitch → axis < 3 → n < nodes_of g axis → Scaled (at g.origin axis) g.pitch (node_at g axis n) n
node_scaled g axis n is fits three lt =
    let one : pos 1 ≤ℤ g.pitch = is.pitch_in.from_least in
    let sp = abs_is g.step is.step_in.from_least in
    let pp = abs_is g.pitch one in
    let a = is.step_in.from_least in
    let b = is.step_in.to_most in
    let ax = axis_of g axis is three in
    let most = ax.most in
    scaled (at g.origin axis) g.pitch n fits (omega arith) ax.origin_in one
    (node_within (at g.origin axis) (unsigned_abs g.pitch) (unsigned_abs g.step) (nodes_of g axis) n (omega (arith, ints)) (omega (arith, ints)) is.divides lt ax.last)

-- each ray has a point
pub some_points : (g : GridSize) (axis : ℕ) → IsGrid g → axis < 3 → 1 ≤ nodes_of g axis * per_node g
some_points g axis is three =
    let pitch = is.pitch_in.from_least in let least = is.step_in.from_least in let most = is.step_in.to_most in
    let sp = abs_is g.step least in let pp = abs_is g.pitch pitch in
    let per = some_per_node (unsigned_abs g.pitch) (unsigned_abs g.step) (omega (arith, ints)) (omega (arith, ints)) is.divides in
    mul-le-mul (axis_of g axis is three).some per.0

pub has_first : (g : GridSize) (f : Family) → IsGrid g → 0 < points_of g f
has_first g X is = some_points g 0 is (omega arith)
has_first g Y is = some_points g 1 is (omega arith)
has_first g Z is = some_points g 2 is (omega arith)

pub few_places : (g : GridSize) (axis : ℕ) → IsGrid g → axis < 3 → nodes_of g axis * per_node g ≤ 400000
few_places g axis is three = mul-le-mul (axis_of g axis is three).most is.fine

pub place_scaled : (g : GridSize) (axis l : ℕ) → IsGrid g → FitsSigned w32 g.step → axis < 3 → l < nodes_of g axis * per_node g → Scaled (at g.origin axis) g.step (place_at g axis l) l
place_scaled g axis l is fits three lt =
    let ax = axis_of g axis is three in
    let most = mul-le-mul ax.most is.fine in
    scaled (at g.origin axis) g.step l fits (omega arith) ax.origin_in is.step_in.from_least
    (place_within (at g.origin axis) (unsigned_abs g.step) (nodes_of g axis * per_node g) l lt ax.last)

-- the same of a grid whose numbers are those of another
pub node_of : (g h : GridSize) (axis n : ℕ) → g ≡ h → IsGrid g → FitsSigned w32 g.pitch → axis < 3 → n < nodes_of h axis → Scaled (at g.origin axis) g.pitch (node_at h axis n) n
node_of g h axis n same is fits three =
    subst (λ (k : GridSize). n < nodes_of k axis → Scaled (at g.origin axis) g.pitch (node_at k axis n) n) same (node_scaled g axis n is fits three)

pub place_of : (g h : GridSize) (axis l : ℕ) → g ≡ h → IsGrid g → FitsSigned w32 g.step → axis < 3 → l < nodes_of h axis * per_node h → Scaled (at g.origin axis) g.step (place_at h axis l) l
place_of g h axis l same is fits three =
    subst (λ (k : GridSize). l < nodes_of k axis * per_node k → Scaled (at g.origin axis) g.step (place_at k axis l) l) same (place_scaled g axis l is fits three)
