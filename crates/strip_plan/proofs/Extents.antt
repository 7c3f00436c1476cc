-- Where the points of a grid lie along each axis.
use Rattle.std.proofs.Common.{◌≡◌, ◌∙◌, ℕ, ◌-◌, ◌*◌, ◌<◌, ◌≤◌, List, ℤ, pos, ◌+ℤ◌, ◌-ℤ◌, ◌≤ℤ◌, unsigned_abs, arith, ap, sym, subst}
use Rattle.std.proofs.lemmas.Int.{ints}
use Rattle.space.specs.Ranges.{IsBetween}
use Rattle.space.specs.Vectors.{at}
use Rattle.ray_grid.specs.Grids.{GridSize}
use Rattle.ray_grid.specs.declared.ray.Ray.{Ray}
use Rattle.ray_grid.specs.declared.ray.Family.{Family}
use Rattle.ray_grid.specs.declared.ray.Family.TheVariants.{X, Y, Z}
use Rattle.ray_grid.specs.Families.{first_axis, second_axis}
use Rattle.ray_grid.specs.Lattice.{IsRay, node_at, nodes_of, per_node, place_at, point_at, point_of, points_of}
use Rattle.ray_grid.specs.Ranges.{IsGrid}
use Rattle.ray_grid.proofs.Sizes.{axis_of, node_within, place_within, times_is}
use Rattle.sweep_boxes.specs.Intervals.{IsAmong}

pub some_nodes : (g : GridSize) (axis : ℕ) → IsGrid g → axis < 3 → 1 ≤ nodes_of g axis
some_nodes g axis is three = (axis_of g axis is three).some

-- a place along a ray, and a node, are from the first to the last point on their axis
pub place_between : (g : GridSize) (axis l : ℕ) → IsGrid g → axis < 3 → l < nodes_of g axis * per_node g
    → IsBetween (at g.origin axis) (place_at g axis (nodes_of g axis * per_node g - 1)) (place_at g axis l)
place_between g axis l is three lt =
    let a = is.step_in.from_least in
    let m = nodes_of g axis * per_node g in let s = unsigned_abs g.step in
    let here = times_is l g.step a in
    let last = times_is (m - 1) g.step a in
    let far : (pos 1000000 -ℤ pos ((m - 1) * s) +ℤ pos (l * s)) ≤ℤ pos 1000000 = place_within (pos 1000000 -ℤ pos ((m - 1) * s)) s m l lt (omega (arith, ints)) in
    record { from_least = rw here (omega (arith, ints)); to_most = rw (here, last) (omega (arith, ints, far)) }

pub node_between : (g : GridSize) (axis n : ℕ) → IsGrid g → axis < 3 → n < nodes_of g axis
    → IsBetween (at g.origin axis) (place_at g axis (nodes_of g axis * per_node g - 1)) (node_at g axis n)
node_between g axis n is three lt =
    let one = is.pitch_in.from_least in let a = is.step_in.from_least in let b = is.step_in.to_most in
    let c = nodes_of g axis in let p = unsigned_abs g.pitch in let s = unsigned_abs g.step in
    let here = times_is n g.pitch one in
    let last = times_is (c * per_node g - 1) g.step a in
    let far : (pos 1000000 -ℤ pos ((c * per_node g - 1) * s) +ℤ pos (n * p)) ≤ℤ pos 1000000 = node_within (pos 1000000 -ℤ pos ((c * per_node g - 1) * s)) p s c n
    (omega (arith, ints, a)) (omega (arith, ints, one, a, b)) is.divides lt (omega (arith, ints)) in
    record { from_least = rw here (omega (arith, ints)); to_most = rw (here, last) (omega (arith, ints, far)) }

-- the last place on an axis
abbrev pub last_at : GridSize → ℕ → ℤ
last_at g axis = place_at g axis (nodes_of g axis * per_node g - 1)

among : (g : GridSize) (low high : List ℤ) (f : Family) (i j l : ℕ) → IsGrid g → low ≡ g.origin → at high 0 ≡ last_at g 0 → at high 1 ≡ last_at g 1 → at high 2 ≡ last_at g 2
    → i < nodes_of g (first_axis f) → j < nodes_of g (second_axis f) → l < points_of g f → IsAmong low high (point_at g f i j l)
among g low high X i j l is e x y z a b c = rw e record {
  x = subst (λ (k : ℤ). IsBetween (at g.origin 0) k (place_at g 0 l)) (sym x) (place_between g 0 l is (omega arith) c);
  y = subst (λ (k : ℤ). IsBetween (at g.origin 1) k (node_at g 1 i)) (sym y) (node_between g 1 i is (omega arith) a);
  z = subst (λ (k : ℤ). IsBetween (at g.origin 2) k (node_at g 2 j)) (sym z) (node_between g 2 j is (omega arith) b);
}
among g low high Y i j l is e x y z a b c = rw e record {
  x = subst (λ (k : ℤ). IsBetween (at g.origin 0) k (node_at g 0 i)) (sym x) (node_between g 0 i is (omega arith) a);
  y = subst (λ (k : ℤ). IsBetween (at g.origin 1) k (place_at g 1 l)) (sym y) (place_between g 1 l is (omega arith) c);
  z = subst (λ (k : ℤ). IsBetween (at g.origin 2) k (node_at g 2 j)) (sym z) (node_between g 2 j is (omega arith) b);
}
among g low high Z i j l is e x y z a b c = rw e record {
  x = subst (λ (k : ℤ). IsBetween (at g.origin 0) k (node_at g 0 i)) (sym x) (node_between g 0 i is (omega arith) a);
  y = subst (λ (k : ℤ). IsBetween (at g.origin 1) k (node_at g 1 j)) (sym y) (node_between g 1 j is (omega arith) b);
  z = subst (λ (k : ℤ). IsBetween (at g.origin 2) k (place_at g 2 l)) (sym z) (place_between g 2 l is (omega arith) c);
}

-- a point of the lattice lies in the box from the first to the last point
pub in_bounds : (h g : GridSize) (low high : List ℤ) (ray : Ray) (l : ℕ) → h ≡ g → IsGrid h → low ≡ h.origin → at high 0 ≡ last_at g 0 → at high 1 ≡ last_at g 1 → at high 2 ≡ last_at g 2
    → IsRay g ray → l < points_of g ray.family → IsAmong low high (point_of g ray l)
in_bounds h g low high ray l same is e x y z on lt =
    among g low high ray.family ray.i ray.j l (subst IsGrid same is) (e ∙ ap (λ (k : GridSize). k.origin) same) x y z on.first on.second lt

pub grid_like : (h g : GridSize) → h ≡ g → IsGrid h → IsGrid g
grid_like h g same is = subst IsGrid same is

-- the first ray of each family is one of the grid
pub first_ray : (g : GridSize) (f : Family) → IsGrid g → IsRay g (record { family = f; i = 0; j = 0 })
first_ray g X is = record { first = some_nodes g 1 is (omega arith); second = some_nodes g 2 is (omega arith) }
first_ray g Y is = record { first = some_nodes g 0 is (omega arith); second = some_nodes g 2 is (omega arith) }
first_ray g Z is = record { first = some_nodes g 0 is (omega arith); second = some_nodes g 1 is (omega arith) }
