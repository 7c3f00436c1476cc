-- Boxes by their indices: what the first ray along each axis says of all rays along it.
use Rattle.std.proofs.Common.{◌≡◌, ◌∙◌, ℕ, ◌+◌, ◌*◌, ◌/◌, ◌%◌, ◌<◌, ◌≤◌, [], ◌∷◌, ⊎_elim, ℤ, pos, ◌+ℤ◌, ◌≤ℤ◌, FitsSigned, to_z, of_z, min, unsigned_abs, arith, ap, subst, sym, w32}
use Rattle.std.proofs.lemmas.Bool.{cases_lt}
use Rattle.std.proofs.lemmas.Grind.{div_ceil_times}
use Rattle.std.specs.Int.{div_ceil}
use Rattle.std.proofs.lemmas.Int.{ints, to_z-of_z}
use Rattle.std.proofs.Math.Nat.{mul-le-mul_right}
use Rattle.space.specs.Ranges.{IsBetween, metre}
use Rattle.space.specs.Vectors.{at}
use Rattle.ray_grid.specs.Families.{first_axis, second_axis}
use Rattle.ray_grid.specs.Grids.{GridSize}
use Rattle.ray_grid.specs.declared.ray.Family.{Family}
use Rattle.ray_grid.specs.declared.ray.Family.TheVariants.{X, Y, Z}
use Rattle.ray_grid.specs.Lattice.{node_at, nodes_of, per_node, place_at, point_at, points_of}
use Rattle.ray_grid.specs.Ranges.{IsGrid}
use Rattle.ray_grid.proofs.Sizes.{some_per_node, times_is}
use Rattle.sweep_boxes.specs.declared.point_box.PointBox.{PointBox}
use Rattle.sweep_boxes.specs.Intervals.{IsAmong}
use Rattle.strip_plan.specs.declared.index_box.IndexBox.{IndexBox}
use Rattle.strip_plan.specs.IndexBoxes.{AreOnAxis, HasPoint, IsBoxOf, IsIndexed}
use Rattle.strip_plan.specs.Ranges.{IsRangeOf}

-- a number is less than another if its multiple is less than the same multiple of the other
fewer : (a b k : ℕ) → a * k < b * k → a < b
fewer a b k lt = ⊎_elim (λ less. less) (λ more. let far = mul-le-mul_right k more in absurd (omega arith)) (cases_lt a b)

-- a number of nodes by the points on the way to it, rounded up
pub rounded_up : (a k n : ℕ) → 1 ≤ k → a ≤ n * k → (a / k + min 1 (a % k)) ≤ n
rounded_up a k n some le =
    let near = div_ceil_times a k (omega arith) in
    let below : (a / k + min 1 (a % k)) * k < (n + 1) * k = omega (arith, near.1) in
    let less = fewer (a / k + min 1 (a % k)) (n + 1) k below in
    omega (arith, less)

pub not_reached : (b k n : ℕ) → 1 ≤ k → n * k < b → n < (b / k + min 1 (b % k))
not_reached b k n some lt =
    let near = div_ceil_times b k (omega arith) in
    fewer n (b / k + min 1 (b % k)) k (omega (arith, near.0))

-- a range of nodes by one of points
pub rounded_range : (a b k count m n : ℕ) → 1 ≤ k → m ≡ div_ceil a k → n ≡ div_ceil b k → IsRangeOf (count * k) (a, b) → IsRangeOf count (m, n)
rounded_range a b k count m n some first last is =
    let near = div_ceil_times b k (omega arith) in let ordered = is.order in
    let order = rounded_up a k (b / k + min 1 (b % k)) some (omega (arith, ordered, near.0)) in
    let within = rounded_up b k count some is.within in
    record { order = omega (arith, first, last, order); within = omega (arith, last, within) }

-- the sizes of a grid, read from their bits
size_read : (z : ℤ) (n : ℕ) → pos 1 ≤ℤ z → z ≤ℤ pos metre → n ≡ unsigned_abs (to_z w32 (of_z w32 z)) → n ≡ unsigned_abs z
size_read z n from to read = let fits : FitsSigned w32 z = omega (arith, ints, from, to) in read ∙ ap unsigned_abs (to_z-of_z w32 z fits)

pub sizes_read : (h g : GridSize) (m n : ℕ) → h ≡ g → IsGrid h → m ≡ unsigned_abs (to_z w32 (of_z w32 h.pitch))
    → n ≡ unsigned_abs (to_z w32 (of_z w32 h.step)) → (m ≡ unsigned_abs g.pitch) × (n ≡ unsigned_abs g.step)
sizes_read h g m n same is pitch step =
    let one = is.pitch_in.from_least in let far = is.pitch_in.to_most in let least = is.step_in.from_least in let most = is.step_in.to_most in (
      size_read h.pitch m one far pitch ∙ ap (λ (k : GridSize). unsigned_abs k.pitch) same,
      size_read h.step n least (omega (arith, ints, most, far)) step ∙ ap (λ (k : GridSize). unsigned_abs k.step) same,
    )

pub some_step : (g : GridSize) → IsGrid g → 0 < unsigned_abs g.step
some_step g is = let a = is.step_in.from_least in omega (arith, ints, a)

pub some_points_per_node : (g : GridSize) → IsGrid g → 1 ≤ per_node g
some_points_per_node g is =
    let one = is.pitch_in.from_least in let a = is.step_in.from_least in let b = is.step_in.to_most in
    (some_per_node (unsigned_abs g.pitch) (unsigned_abs g.step) (omega (arith, ints, a)) (omega (arith, ints, one, a, b)) is.divides).0

-- a node is the point of a ray with as many points as there are for each node before it
pub node_is : (g : GridSize) (axis n : ℕ) → IsGrid g → node_at g axis n ≡ place_at g axis (n * per_node g)
node_is g axis n is =
    let one = is.pitch_in.from_least in let a = is.step_in.from_least in let b = is.step_in.to_most in
    let per = some_per_node (unsigned_abs g.pitch) (unsigned_abs g.step) (omega (arith, ints, a)) (omega (arith, ints, one, a, b)) is.divides in
    let same : n * unsigned_abs g.pitch ≡ n * per_node g * unsigned_abs g.step = ap (λ k. n * k) per.1 ∙ omega arith in
    ap (λ z. at g.origin axis +ℤ z) (times_is n g.pitch one ∙ ap pos same ∙ sym (times_is (n * per_node g) g.step a))

-- the first node lies at the origin
first_node : (g : GridSize) (axis : ℕ) → IsGrid g → node_at g axis 0 ≡ at g.origin axis
first_node g axis is = let none = times_is 0 g.pitch is.pitch_in.from_least in omega (arith, ints, none)

first_between : (g : GridSize) (axis : ℕ) → IsGrid g → IsBetween (at g.origin axis) (at g.origin axis) (node_at g axis 0)
first_between g axis is = let e = first_node g axis is in record { from_least = omega (arith, ints, e); to_most = omega (arith, ints, e) }

ranges : (g : GridSize) (places : PointBox) (box : IndexBox) → AreOnAxis g places X box.x → AreOnAxis g places Y box.y → AreOnAxis g places Z box.z
    → IsBoxOf g box
ranges g places box x y z X = record { first = y.nodes_of_axis; second = z.nodes_of_axis; along = x.points_of_ray }
ranges g places box x y z Y = record { first = x.nodes_of_axis; second = z.nodes_of_axis; along = y.points_of_ray }
ranges g places box x y z Z = record { first = x.nodes_of_axis; second = y.nodes_of_axis; along = z.points_of_ray }

has_at : (g : GridSize) (places : PointBox) (box : IndexBox) (f : Family) (i j l : ℕ) → AreOnAxis g places X box.x → AreOnAxis g places Y box.y
    → AreOnAxis g places Z box.z → i < nodes_of g (first_axis f) → j < nodes_of g (second_axis f) → l < points_of g f
    → IsAmong places.low places.high (point_at g f i j l) → HasPoint box (record { family = f; i = i; j = j }) l
has_at g places box X i j l x y z a b c is = record { first = y.nodes i a is.y; second = z.nodes j b is.z; along = x.points l c is.x }
has_at g places box Y i j l x y z a b c is = record { first = x.nodes i a is.x; second = z.nodes j b is.z; along = y.points l c is.y }
has_at g places box Z i j l x y z a b c is = record { first = x.nodes i a is.x; second = y.nodes j b is.y; along = z.points l c is.z }

-- a place along the first ray of a family is where the box on that ray has it
pub on_x : (h g : GridSize) (a b : ℤ) (l : ℕ) → h ≡ g → IsGrid h → IsBetween a b (place_at g 0 l)
    → IsAmong (a ∷ at h.origin 1 ∷ at h.origin 2 ∷ []) (b ∷ at h.origin 1 ∷ at h.origin 2 ∷ []) (point_at g X 0 0 l)
on_x h g a b l same is between =
    subst (λ (k : GridSize). IsAmong (a ∷ at h.origin 1 ∷ at h.origin 2 ∷ []) (b ∷ at h.origin 1 ∷ at h.origin 2 ∷ []) (point_at k X 0 0 l)) same
    (record { x = subst (λ (k : GridSize). IsBetween a b (place_at k 0 l)) (sym same) between; y = first_between h 1 is; z = first_between h 2 is })

pub on_y : (h g : GridSize) (a b : ℤ) (l : ℕ) → h ≡ g → IsGrid h → IsBetween a b (place_at g 1 l)
    → IsAmong (at h.origin 0 ∷ a ∷ at h.origin 2 ∷ []) (at h.origin 0 ∷ b ∷ at h.origin 2 ∷ []) (point_at g Y 0 0 l)
on_y h g a b l same is between =
    subst (λ (k : GridSize). IsAmong (at h.origin 0 ∷ a ∷ at h.origin 2 ∷ []) (at h.origin 0 ∷ b ∷ at h.origin 2 ∷ []) (point_at k Y 0 0 l)) same
    (record { x = first_between h 0 is; y = subst (λ (k : GridSize). IsBetween a b (place_at k 1 l)) (sym same) between; z = first_between h 2 is })

pub on_z : (h g : GridSize) (a b : ℤ) (l : ℕ) → h ≡ g → IsGrid h → IsBetween a b (place_at g 2 l)
    → IsAmong (at h.origin 0 ∷ at h.origin 1 ∷ a ∷ []) (at h.origin 0 ∷ at h.origin 1 ∷ b ∷ []) (point_at g Z 0 0 l)
on_z h g a b l same is between =
    subst (λ (k : GridSize). IsAmong (at h.origin 0 ∷ at h.origin 1 ∷ a ∷ []) (at h.origin 0 ∷ at h.origin 1 ∷ b ∷ []) (point_at k Z 0 0 l)) same
    (record { x = first_between h 0 is; y = first_between h 1 is; z = subst (λ (k : GridSize). IsBetween a b (place_at k 2 l)) (sym same) between })

-- a node of the grid is among the points
pub fewer_points : (n c k : ℕ) → 1 ≤ k → n < c → n * k < c * k
fewer_points n c k some lt = let step = mul-le-mul_right k (let q : n + 1 ≤ c = omega arith in q) in omega arith

-- what the box has on each axis is what it has of the lattice
pub indexed_is : (g : GridSize) (places : PointBox) (box : IndexBox) → AreOnAxis g places X box.x → AreOnAxis g places Y box.y → AreOnAxis g places Z box.z
    → IsIndexed g places box
indexed_is g places box x y z = record {
  on_grid = ranges g places box x y z;
  has = λ ray l on lt inside. has_at g places box ray.family ray.i ray.j l x y z on.first on.second lt inside;
}
