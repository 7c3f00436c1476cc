-- Which points of a ray, and which rays of a strip, lie within reach.
use Rattle.std.proofs.Common.{◌≡◌, ◌↔◌, ℕ, ◌<◌, ◌≤◌, ℤ, List, slice_get, Option, IsSomeAnd, Bool, true, false, IsTrue, arith, sym, subst}
use Rattle.ray_grid.specs.Grids.{GridSize}
use Rattle.ray_grid.specs.declared.ray.Ray.{Ray}
use Rattle.ray_grid.specs.declared.ray.Family.{Family}
use Rattle.ray_grid.specs.declared.ray.Family.TheVariants.{X, Y, Z}
use Rattle.space.specs.Vectors.{at}
use Rattle.ray_grid.specs.Families.{ray_axis, first_axis, second_axis}
use Rattle.ray_grid.specs.Lattice.{nodes_of, points_of, node_at, place_at, point_at}
use Rattle.ray_grid.specs.Strips.{strip_of, strip_at}
use Rattle.ray_grid.proofs.Rows.{ray_in, ray_past}
use native.Mathlib.Decide.{dec_le}
use mathlib.Core.Logic.{dite}
use Rattle.ray_grid.specs.Reach.{Enters}
use Rattle.space.specs.Reach.{is_in_reach, is_near}
use Rattle.space.proofs.ReachLemmas.{in_reach_of, in_reach_parts}

-- a point is within reach where its two nodes and its place along the ray are
pub record NearAll (g : GridSize) (f : Family) (i j l : ℕ) (from to : List ℤ) (reach : ℤ) : Type 0 where
  pub first : IsTrue (is_near reach (at from (first_axis f)) (at to (first_axis f)) (node_at g (first_axis f) i))
  pub second : IsTrue (is_near reach (at from (second_axis f)) (at to (second_axis f)) (node_at g (second_axis f) j))
  pub place : IsTrue (is_near reach (at from (ray_axis f)) (at to (ray_axis f)) (place_at g (ray_axis f) l))

pub reach_of : (g : GridSize) (f : Family) (i j l : ℕ) (from to : List ℤ) (reach : ℤ) → NearAll g f i j l from to reach → IsTrue (is_in_reach reach from to (point_at g f i j l))
reach_of g X i j l from to reach h = in_reach_of reach from to (point_at g X i j l) h.place h.first h.second
reach_of g Y i j l from to reach h = in_reach_of reach from to (point_at g Y i j l) h.first h.place h.second
reach_of g Z i j l from to reach h = in_reach_of reach from to (point_at g Z i j l) h.first h.second h.place

pub reach_parts : (g : GridSize) (f : Family) (i j l : ℕ) (from to : List ℤ) (reach : ℤ) → IsTrue (is_in_reach reach from to (point_at g f i j l)) → NearAll g f i j l from to reach
reach_parts g X i j l from to reach h =
    let parts = in_reach_parts reach from to (point_at g X i j l) h in record { first = parts.1; second = parts.2; place = parts.0 }
reach_parts g Y i j l from to reach h =
    let parts = in_reach_parts reach from to (point_at g Y i j l) h in record { first = parts.0; second = parts.2; place = parts.1 }
reach_parts g Z i j l from to reach h =
    let parts = in_reach_parts reach from to (point_at g Z i j l) h in record { first = parts.0; second = parts.1; place = parts.2 }

-- what the divisions gave by the numbers of a grid, at the axis of the ray and its number of points, and at an axis and its nodes
pub points_are : (g h : GridSize) (f : Family) (from to : List ℤ) (reach : ℤ) (axis lo hi count l : ℕ) → g ≡ h → axis ≡ ray_axis f → count ≡ points_of h f
    → ((lo ≤ l) × (l < hi)) ↔ ((l < count) × IsTrue (is_near reach (at from axis) (at to axis) (place_at g axis l)))
    → ((lo ≤ l) × (l < hi)) ↔ ((l < points_of h f) × IsTrue (is_near reach (at from (ray_axis f)) (at to (ray_axis f)) (place_at h (ray_axis f) l)))
points_are g h f from to reach axis lo hi count l same along many exact =
    subst (λ (k : GridSize). ((lo ≤ l) × (l < hi)) ↔ ((l < points_of h f) × IsTrue (is_near reach (at from (ray_axis f)) (at to (ray_axis f)) (place_at k (ray_axis f) l)))) same
    (subst (λ (k : ℕ). ((lo ≤ l) × (l < hi)) ↔ ((l < points_of h f) × IsTrue (is_near reach (at from k) (at to k) (place_at g k l)))) along
    (subst (λ (k : ℕ). ((lo ≤ l) × (l < hi)) ↔ ((l < k) × IsTrue (is_near reach (at from axis) (at to axis) (place_at g axis l)))) many exact))

pub nodes_are : (g h : GridSize) (from to : List ℤ) (reach : ℤ) (axis lo hi count n : ℕ) → g ≡ h → count ≡ nodes_of h axis
    → ((lo ≤ n) × (n < hi)) ↔ ((n < count) × IsTrue (is_near reach (at from axis) (at to axis) (node_at g axis n)))
    → ((lo ≤ n) × (n < hi)) ↔ ((n < nodes_of h axis) × IsTrue (is_near reach (at from axis) (at to axis) (node_at h axis n)))
nodes_are g h from to reach axis lo hi count n same many exact =
    subst (λ (k : GridSize). ((lo ≤ n) × (n < hi)) ↔ ((n < nodes_of h axis) × IsTrue (is_near reach (at from axis) (at to axis) (node_at k axis n)))) same
    (subst (λ (k : ℕ). ((lo ≤ n) × (n < hi)) ↔ ((n < k) × IsTrue (is_near reach (at from axis) (at to axis) (node_at g axis n)))) many exact)

pub window_is : (g : GridSize) (f : Family) (i j : ℕ) (from to : List ℤ) (reach : ℤ) (a b lo hi l : ℕ) → a ≡ first_axis f → b ≡ second_axis f
    → IsTrue (is_near reach (at from a) (at to a) (node_at g a i)) → IsTrue (is_near reach (at from b) (at to b) (node_at g b j))
    → ((lo ≤ l) × (l < hi)) ↔ ((l < points_of g f) × IsTrue (is_near reach (at from (ray_axis f)) (at to (ray_axis f)) (place_at g (ray_axis f) l)))
    → ((lo ≤ l) × (l < hi)) ↔ ((l < points_of g f) × IsTrue (is_in_reach reach from to (point_at g f i j l)))
window_is g f i j from to reach a b lo hi l ea eb first second exact =
    let first' = subst (λ (k : ℕ). IsTrue (is_near reach (at from k) (at to k) (node_at g k i))) ea first in
    let second' = subst (λ (k : ℕ). IsTrue (is_near reach (at from k) (at to k) (node_at g k j))) eb second in (
      λ p. let q = exact.0 p in (q.0, reach_of g f i j l from to reach (record { first = first'; second = second'; place = q.1 })),
      λ p. exact.1 (p.0, (reach_parts g f i j l from to reach p.1).place),
    )

pub none_first : (g : GridSize) (f : Family) (i j : ℕ) (from to : List ℤ) (reach : ℤ) (a l : ℕ) → a ≡ first_axis f
    → ¬ IsTrue (is_near reach (at from a) (at to a) (node_at g a i)) → ((0 ≤ l) × (l < 0)) ↔ ((l < points_of g f) × IsTrue (is_in_reach reach from to (point_at g f i j l)))
none_first g f i j from to reach a l ea far = (
  λ p. absurd (let q = p.1 in omega arith),
  λ p.
      let parts = reach_parts g f i j l from to reach p.1 in
      absurd (far (subst (λ (k : ℕ). IsTrue (is_near reach (at from k) (at to k) (node_at g k i))) (sym ea) parts.first)),
)

pub none_second : (g : GridSize) (f : Family) (i j : ℕ) (from to : List ℤ) (reach : ℤ) (b l : ℕ) → b ≡ second_axis f
    → ¬ IsTrue (is_near reach (at from b) (at to b) (node_at g b j)) → ((0 ≤ l) × (l < 0)) ↔ ((l < points_of g f) × IsTrue (is_in_reach reach from to (point_at g f i j l)))
none_second g f i j from to reach b l eb far = (
  λ p. absurd (let q = p.1 in omega arith),
  λ p.
      let parts = reach_parts g f i j l from to reach p.1 in
      absurd (far (subst (λ (k : ℕ). IsTrue (is_near reach (at from k) (at to k) (node_at g k j))) (sym eb) parts.second)),
)

-- what the test of a node's coordinate said
pub told_near : (r : Bool) (from to reach x y : ℤ) → r ≡ is_near reach from to x → x ≡ y → r ≡ true → IsTrue (is_near reach from to y)
told_near r from to reach x y test same is = cc

pub told_far : (r : Bool) (from to reach x y : ℤ) → r ≡ is_near reach from to x → x ≡ y → r ≡ false → ¬ IsTrue (is_near reach from to y)
told_far r from to reach x y test same is near = cc

-- a ray of a strip that enters: its number, the point, and what is near
record EntersAt (g : GridSize) (f : Family) (i n : ℕ) (from to : List ℤ) (reach : ℤ) : Type 0 where
  below : n < nodes_of g (second_axis f)
  l : ℕ
  point : l < points_of g f
  near : NearAll g f i n l from to reach

enters_at : (g : GridSize) (f : Family) (i n : ℕ) (from to : List ℤ) (reach : ℤ) → IsSomeAnd (slice_get (strip_of g f i) n) (Enters g from to reach) → EntersAt g f i n from to reach
enters_at g f i n from to reach h =
    dite (dec_le (nodes_of g (second_axis f)) n)
    (λ le. absurd (subst (λ (o : Option Ray). IsSomeAnd o (Enters g from to reach)) (ray_past g f i n le) h))
    (λ no.
    let lt : n < nodes_of g (second_axis f) = omega arith in
    let enters : Enters g from to reach record { family = f; i = i; j = n } = subst (λ (o : Option Ray). IsSomeAnd o (Enters g from to reach)) (ray_in g f i n lt) h in
    record { below = lt; l = enters.0; point = enters.1; near = reach_parts g f i n enters.0 from to reach enters.2 })

pub strip_is : (g : GridSize) (strip : ℕ) (f : Family) (i : ℕ) (from to : List ℤ) (reach : ℤ) (a b start end lo hi n : ℕ) → strip_at g strip ≡ strip_of g f i
    → a ≡ first_axis f → b ≡ second_axis f → IsTrue (is_near reach (at from a) (at to a) (node_at g a i))
    → ((l : ℕ) → ((start ≤ l) × (l < end)) ↔ ((l < points_of g f) × IsTrue (is_near reach (at from (ray_axis f)) (at to (ray_axis f)) (place_at g (ray_axis f) l))))
    → start ≤ end → ¬ (start ≡ end)
    → ((lo ≤ n) × (n < hi)) ↔ ((n < nodes_of g b) × IsTrue (is_near reach (at from b) (at to b) (node_at g b n)))
    → ((lo ≤ n) × (n < hi)) ↔ IsSomeAnd (slice_get (strip_at g strip) n) (Enters g from to reach)
strip_is g strip f i from to reach a b start end lo hi n row ea eb first points order some exact =
    let first' = subst (λ (k : ℕ). IsTrue (is_near reach (at from k) (at to k) (node_at g k i))) ea first in
    let exact' = subst (λ (k : ℕ). ((lo ≤ n) × (n < hi)) ↔ ((n < nodes_of g k) × IsTrue (is_near reach (at from k) (at to k) (node_at g k n)))) eb exact in
    subst (λ (rays : List Ray). ((lo ≤ n) × (n < hi)) ↔ IsSomeAnd (slice_get rays n) (Enters g from to reach)) (sym row) (
      λ p.
          let near = exact'.0 p in
          let there = (points start).0 (omega arith, (let q : start < end = omega arith in q)) in
          subst (λ (o : Option Ray). IsSomeAnd o (Enters g from to reach)) (sym (ray_in g f i n near.0))
          (start, there.0, reach_of g f i n start from to reach (record { first = first'; second = near.1; place = there.1 })),
      λ h. let found = enters_at g f i n from to reach h in exact'.1 (found.below, found.near.second),
    )

pub strip_far : (g : GridSize) (strip : ℕ) (f : Family) (i : ℕ) (from to : List ℤ) (reach : ℤ) (a n : ℕ) → strip_at g strip ≡ strip_of g f i → a ≡ first_axis f
    → ¬ IsTrue (is_near reach (at from a) (at to a) (node_at g a i)) → ((0 ≤ n) × (n < 0)) ↔ IsSomeAnd (slice_get (strip_at g strip) n) (Enters g from to reach)
strip_far g strip f i from to reach a n row ea far = (
  λ p. absurd (let q = p.1 in omega arith),
  λ h.
      let found = enters_at g f i n from to reach (subst (λ (rays : List Ray). IsSomeAnd (slice_get rays n) (Enters g from to reach)) row h) in
      absurd (far (subst (λ (k : ℕ). IsTrue (is_near reach (at from k) (at to k) (node_at g k i))) (sym ea) found.near.first)),
)

pub strip_beside : (g : GridSize) (strip : ℕ) (f : Family) (i : ℕ) (from to : List ℤ) (reach : ℤ) (start end n : ℕ) → strip_at g strip ≡ strip_of g f i
    → ((l : ℕ) → ((start ≤ l) × (l < end)) ↔ ((l < points_of g f) × IsTrue (is_near reach (at from (ray_axis f)) (at to (ray_axis f)) (place_at g (ray_axis f) l)))) → start ≡ end
    → ((0 ≤ n) × (n < 0)) ↔ IsSomeAnd (slice_get (strip_at g strip) n) (Enters g from to reach)
strip_beside g strip f i from to reach start end n row points none = (
  λ p. absurd (let q = p.1 in omega arith),
  λ h.
      let found = enters_at g f i n from to reach (subst (λ (rays : List Ray). IsSomeAnd (slice_get rays n) (Enters g from to reach)) row h) in
      absurd (let q = (points found.l).1 (found.point, found.near.place) in let r = q.0 in let t = q.1 in omega arith),
)
