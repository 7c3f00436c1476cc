-- A plane on a line: its value, its rise, and how large they are.
use Rattle.std.proofs.Common.{◌≡◌, ◌↔◌, ℕ, ◌*◌, ◌<◌, ◌≤◌, ℤ, pos, negsuc, ◌+ℤ◌, ◌*ℤ◌, ◌≤ℤ◌, unsigned_abs, FitsSigned, w32, List, [], ◌∷◌, IsTrue, int_le, arith, sym, ap, subst}
use Rattle.std.proofs.lemmas.Int.{ints}
use Rattle.std.proofs.Math.IntN.{zero-*ℤ}
use Rattle.ray_grid.specs.Grids.{GridSize}
use Rattle.ray_grid.specs.declared.ray.Family.{Family}
use Rattle.ray_grid.specs.declared.ray.Family.TheVariants.{X, Y, Z}
use Rattle.space.specs.Vectors.{at}
use Rattle.space.specs.Ranges.{IsBetween, metre}
use Rattle.ray_grid.specs.Ranges.{IsGrid}
use Rattle.ray_grid.specs.Families.{first_axis, second_axis}
use Rattle.ray_grid.specs.Lattice.{nodes_of, per_node, points_of, node_at, place_at, point_at}
use Rattle.ray_grid.proofs.Sizes.{abs_is, times_is, axis_of, node_within, place_within, some_points}
use Rattle.ray_shapes.specs.declared.plane.Plane.{Plane}
use Rattle.ray_shapes.specs.Sizes.{IsTerm, IsLine}
use Rattle.ray_shapes.specs.Lines.{position}
use Rattle.ray_shapes.specs.Planes.{value_at, coefficient_of, plane_holds}
use borrow.Author.Differences.{abs_is as size_is}
use Rattle.ray_shapes.proofs.Products.{times_longer, product_within}
use Rattle.space.proofs.Ring.{mul_assoc_ℤ}

-- the left side rises with the index by the coefficient times the step
pub value_along : (plane : Plane) (f : Family) (first : List ℤ) (step : ℤ) (l : ℕ)
    → value_at plane (position f first step l) ≡ (((plane.a *ℤ at first 0) +ℤ (plane.b *ℤ at first 1)) +ℤ (plane.c *ℤ at first 2)) +ℤ ((coefficient_of plane f *ℤ step) *ℤ pos l)
value_along plane X first step l = let longer = times_longer plane.a (at first 0) step l in omega (arith, ints)
value_along plane Y first step l = let longer = times_longer plane.b (at first 1) step l in omega (arith, ints)
value_along plane Z first step l = let longer = times_longer plane.c (at first 2) step l in omega (arith, ints)

pub small_product : (a x : ℤ) → FitsSigned w32 a → unsigned_abs x ≤ metre → IsBetween (negsuc 2147483647999999) (pos 2147483648000000) (a *ℤ x)
small_product a x fits x_in =
    let size = size_is x in
    let q = product_within a x 2147483648 1000000 (omega (arith, ints), omega (arith, ints)) (omega (arith, ints), omega (arith, ints)) in
    record { from_least = q.0; to_most = q.1 }

pub small_rise : (a step : ℤ) (l : ℕ) → FitsSigned w32 a → IsBetween (pos 0) (pos 2000000) (step *ℤ pos l) → IsTerm ((a *ℤ step) *ℤ pos l)
small_rise a step l fits span =
    let low = span.from_least in let high = span.to_most in
    let q = product_within a (step *ℤ pos l) 2147483648 2000000 (omega (arith, ints), omega (arith, ints)) (omega (arith, ints), omega (arith, ints)) in
    subst (λ (z : ℤ). IsTerm z) (sym (mul_assoc_ℤ a step (pos l)))
    (let from = q.0 in let to = q.1 in record { from_least = omega (arith, ints); to_most = omega (arith, ints) })

pub small_start : (x y z : ℤ) → IsBetween (negsuc 2147483647999999) (pos 2147483648000000) x → IsBetween (negsuc 2147483647999999) (pos 2147483648000000) y → IsBetween (negsuc 2147483647999999) (pos 2147483648000000) z
    → IsTerm ((x +ℤ y) +ℤ z)
small_start x y z p q r =
    let a = p.from_least in let b = p.to_most in let c = q.from_least in let d = q.to_most in let e = r.from_least in let f = r.to_most in
    record { from_least = omega (arith, ints); to_most = omega (arith, ints) }

-- a ray of a grid is such a line
step_on : (o s : ℤ) (l : ℕ) → ((o +ℤ (pos 0 *ℤ s)) +ℤ (pos l *ℤ s)) ≡ o +ℤ (pos l *ℤ s)
step_on o s l = let none = zero-*ℤ s in omega (arith, ints)

pub position_is : (g : GridSize) (f : Family) (i j l : ℕ) → position f (point_at g f i j 0) g.step l ≡ point_at g f i j l
position_is g X i j l = ap (λ z. z ∷ node_at g 1 i ∷ node_at g 2 j ∷ []) (step_on (at g.origin 0) g.step l)
position_is g Y i j l = ap (λ z. node_at g 0 i ∷ z ∷ node_at g 2 j ∷ []) (step_on (at g.origin 1) g.step l)
position_is g Z i j l = ap (λ z. node_at g 0 i ∷ node_at g 1 j ∷ z ∷ []) (step_on (at g.origin 2) g.step l)

node_coordinate : (g : GridSize) (axis n : ℕ) → IsGrid g → axis < 3 → n < nodes_of g axis → unsigned_abs (node_at g axis n) ≤ metre
node_coordinate g axis n h three lt =
    let ax = axis_of g axis h three in
    let low = ax.origin_in in
    let size = size_is (at g.origin axis) in
    let one : pos 1 ≤ℤ g.pitch = h.pitch_in.from_least in
    let a = h.step_in.from_least in let b = h.step_in.to_most in
    let sp = abs_is g.step a in let pp = abs_is g.pitch one in
    let whole = times_is n g.pitch one in
    let top = node_within (at g.origin axis) (unsigned_abs g.pitch) (unsigned_abs g.step) (nodes_of g axis) n (omega (arith, ints)) (omega (arith, ints)) h.divides lt ax.last in
    let there = size_is (node_at g axis n) in
    omega (arith, ints)

place_coordinate : (g : GridSize) (axis l : ℕ) → IsGrid g → axis < 3 → l < nodes_of g axis * per_node g → unsigned_abs (place_at g axis l) ≤ metre
place_coordinate g axis l h three lt =
    let ax = axis_of g axis h three in
    let low = ax.origin_in in
    let size = size_is (at g.origin axis) in
    let whole = times_is l g.step h.step_in.from_least in
    let top = place_within (at g.origin axis) (unsigned_abs g.step) (nodes_of g axis * per_node g) l lt ax.last in
    let there = size_is (place_at g axis l) in
    omega (arith, ints)

span_within : (g : GridSize) (axis l : ℕ) → IsGrid g → axis < 3 → l < nodes_of g axis * per_node g → IsBetween (pos 0) (pos 2000000) (g.step *ℤ pos l)
span_within g axis l h three lt =
    let ax = axis_of g axis h three in
    let low = ax.origin_in in
    let size = size_is (at g.origin axis) in
    let whole = times_is l g.step h.step_in.from_least in
    let top = place_within (at g.origin axis) (unsigned_abs g.step) (nodes_of g axis * per_node g) l lt ax.last in
    let turned : (g.step *ℤ pos l) ≡ (pos l *ℤ g.step) = omega (arith, ints) in
    record { from_least = omega (arith, ints); to_most = omega (arith, ints) }

pub is_line : (g : GridSize) (f : Family) (i j : ℕ) → IsGrid g → i < nodes_of g (first_axis f) → j < nodes_of g (second_axis f) → IsLine (point_at g f i j 0) g.step (points_of g f)
is_line g X i j h first second =
    let some = some_points g 0 h (omega arith) in
    record { some = some; x = place_coordinate g 0 0 h (omega arith) some; y = node_coordinate g 1 i h (omega arith) first; z = node_coordinate g 2 j h (omega arith) second; span = λ l lt. span_within g 0 l h (omega arith) lt }
is_line g Y i j h first second =
    let some = some_points g 1 h (omega arith) in
    record { some = some; x = node_coordinate g 0 i h (omega arith) first; y = place_coordinate g 1 0 h (omega arith) some; z = node_coordinate g 2 j h (omega arith) second; span = λ l lt. span_within g 1 l h (omega arith) lt }
is_line g Z i j h first second =
    let some = some_points g 2 h (omega arith) in
    record { some = some; x = node_coordinate g 0 i h (omega arith) first; y = node_coordinate g 1 j h (omega arith) second; z = place_coordinate g 2 0 h (omega arith) some; span = λ l lt. span_within g 2 l h (omega arith) lt }

test_is : (x y : ℤ) → (x ≤ℤ y) ↔ IsTrue (int_le x y)
test_is x y = (λ p. grind (arith, ints), λ p. grind (arith, ints))

-- a value on the line within the limit is one that the plane holds
pub held : (plane : Plane) (f : Family) (first : List ℤ) (step start slope : ℤ) (l : ℕ) → value_at plane (position f first step l) ≡ start +ℤ (slope *ℤ pos l)
    → ((start +ℤ (slope *ℤ pos l)) ≤ℤ plane.d) ↔ IsTrue (plane_holds plane (position f first step l))
held plane f first step start slope l is =
    subst (λ (z : ℤ). (z ≤ℤ plane.d) ↔ IsTrue (plane_holds plane (position f first step l))) is (test_is (value_at plane (position f first step l)) plane.d)
