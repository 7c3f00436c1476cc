-- The points of the rays of a strip against a cylinder: from ray to ray and from point to point their axis offsets grow evenly.
use Rattle.std.proofs.Common.{◌≡◌, ℕ, ◌*◌, ◌^◌, ◌≤◌, ◌<◌, List, [], ◌∷◌, ℤ, pos, ◌+ℤ◌, ◌*ℤ◌, ◌-ℤ◌, ◌≤ℤ◌, unsigned_abs, arith, refl, sym, ap, ap₂, subst, ◌∙◌}
use Rattle.std.proofs.lemmas.Int.{ints}
use borrow.Author.Differences.{abs_is as size_is}
use Rattle.space.specs.Ranges.{IsPoint, IsWithin, metre, vector_limit}
use Rattle.space.specs.Vectors.{at, cross, dot}
use Rattle.space.proofs.Solver.{Term, var, num, add, mul, ring}
use Rattle.space.proofs.Terms.{dots, from, square, sub}
use Rattle.space.proofs.Naturals.{abs_mul, abs_sub}
use Rattle.bern_form.proofs.Sizes.{dot_small}
use Rattle.ray_grid.specs.Grids.{GridSize}
use Rattle.ray_grid.specs.declared.ray.Family.{Family}
use Rattle.ray_grid.specs.declared.ray.Family.TheVariants.{X, Y, Z}
use Rattle.ray_grid.specs.Families.{first_axis, ray_axis, second_axis}
use Rattle.ray_grid.specs.Lattice.{node_at, nodes_of, per_node, place_at, point_at, points_of}
use Rattle.ray_grid.specs.Ranges.{IsGrid}
use Rattle.ray_grid.proofs.Sizes.{abs_is, axis_of, few_places, has_first, node_within, place_within, times_is}
use Rattle.sweep_boxes.specs.declared.cylinder.BoundingCylinder.{BoundingCylinder}
use Rattle.sweep_boxes.specs.Limits.{place_limit, side_component_limit}
use Rattle.near_points.specs.declared.axis_offset.AxisOffset.{AxisOffset}
use Rattle.near_points.specs.declared.cylinder_test.CylinderTest.{CylinderTest}
use Rattle.near_points.specs.declared.ray_step.RayStep.{RayStep}
use Rattle.near_points.specs.AxisOffsets.{IsAxisOffset, IsRayStep, IsRayStepOf}
use Rattle.near_points.specs.AxisOrder.{ray_axis_first, way_across, way_along}
use Rattle.near_points.specs.Limits.{moment_limit, tilt_limit}
use Rattle.near_points.specs.Lines.{FitsMoved, IsMoved, height_at, second_at, side_at, third_at}
use Rattle.near_points.specs.Rays.{CylinderStripOf, cylinder_ray_at}
use Rattle.near_points.specs.Ready.{IsReadyRay, IsReadyStrip, offset_of}

-- the points of a grid
node_coordinate : (g : GridSize) (axis n : ℕ) → IsGrid g → axis < 3 → n < nodes_of g axis → unsigned_abs (node_at g axis n) ≤ metre
node_coordinate g axis n h three lt =
    let ax = axis_of g axis h three in
    let low = ax.origin_in in
    let size = size_is (at g.origin axis) in
    let one : pos 1 ≤ℤ g.pitch = h.pitch_in.from_least in
    let a = h.step_in.from_least in let b = h.step_in.to_most in
    let sp = abs_is g.step a in let pp = abs_is g.pitch one in
    let whole = times_is n g.pitch one in
    let top = node_within (at g.origin axis) (unsigned_abs g.pitch) (unsigned_abs g.step) (nodes_of g axis) n (omega (arith, ints)) (omega (arith, ints)) h.divides lt ax.last in
    let there = size_is (node_at g axis n) in
    omega (arith, ints)

place_coordinate : (g : GridSize) (axis l : ℕ) → IsGrid g → axis < 3 → l < nodes_of g axis * per_node g → unsigned_abs (place_at g axis l) ≤ metre
place_coordinate g axis l h three lt =
    let ax = axis_of g axis h three in
    let low = ax.origin_in in
    let size = size_is (at g.origin axis) in
    let whole = times_is l g.step h.step_in.from_least in
    let top = place_within (at g.origin axis) (unsigned_abs g.step) (nodes_of g axis * per_node g) l lt ax.last in
    let there = size_is (place_at g axis l) in
    omega (arith, ints)

point_near : (g : GridSize) (f : Family) (i j l : ℕ) → IsGrid g → i < nodes_of g (first_axis f) → j < nodes_of g (second_axis f) → l < points_of g f → IsPoint (point_at g f i j l)
point_near g X i j l h first second lt = (place_coordinate g 0 l h (omega arith) lt, node_coordinate g 1 i h (omega arith) first, node_coordinate g 2 j h (omega arith) second)
point_near g Y i j l h first second lt = (node_coordinate g 0 i h (omega arith) first, place_coordinate g 1 l h (omega arith) lt, node_coordinate g 2 j h (omega arith) second)
point_near g Z i j l h first second lt = (node_coordinate g 0 i h (omega arith) first, node_coordinate g 1 j h (omega arith) second, place_coordinate g 2 l h (omega arith) lt)

axis_below : (f : Family) → ray_axis f < 3
axis_below X = omega arith
axis_below Y = omega arith
axis_below Z = omega arith

second_below : (f : Family) → second_axis f < 3
second_below X = omega arith
second_below Y = omega arith
second_below Z = omega arith

pub has_second : (g : GridSize) (f : Family) → IsGrid g → 0 < nodes_of g (second_axis f)
has_second g f h = (axis_of g (second_axis f) h (second_below f)).some

-- the offsets of the points of a strip, turned
pub record IsMovedOffset (p v e w : List ℤ) (j l : ℤ) : Type 0 where
  pub first : at p 0 ≡ (at v 0 +ℤ j *ℤ at e 0) +ℤ l *ℤ at w 0
  pub second : at p 1 ≡ (at v 1 +ℤ j *ℤ at e 1) +ℤ l *ℤ at w 1
  pub third : at p 2 ≡ (at v 2 +ℤ j *ℤ at e 2) +ℤ l *ℤ at w 2

place_moves : (s o w t j l : ℤ) → s *ℤ (o +ℤ (l *ℤ w)) -ℤ t ≡ ((s *ℤ (o +ℤ (pos 0 *ℤ w)) -ℤ t) +ℤ j *ℤ pos 0) +ℤ l *ℤ (s *ℤ w)
place_moves s o w t j l =
    let S = var 0 in let O = var 1 in let W = var 2 in let T = var 3 in let J = var 4 in let L = var 5 in let none = num (pos 0) in
    ring (s ∷ o ∷ w ∷ t ∷ j ∷ l ∷ []) (sub (mul S (add O (mul L W))) T) (add (add (sub (mul S (add O (mul none W))) T) (mul J none)) (mul L (mul S W))) refl

node_moves : (s o w t j l : ℤ) → s *ℤ (o +ℤ (j *ℤ w)) -ℤ t ≡ ((s *ℤ (o +ℤ (pos 0 *ℤ w)) -ℤ t) +ℤ j *ℤ (s *ℤ w)) +ℤ l *ℤ pos 0
node_moves s o w t j l =
    let S = var 0 in let O = var 1 in let W = var 2 in let T = var 3 in let J = var 4 in let L = var 5 in let none = num (pos 0) in
    ring (s ∷ o ∷ w ∷ t ∷ j ∷ l ∷ []) (sub (mul S (add O (mul J W))) T) (add (add (sub (mul S (add O (mul none W))) T) (mul J (mul S W))) (mul L none)) refl

node_stays : (z j l : ℤ) → z ≡ (z +ℤ j *ℤ pos 0) +ℤ l *ℤ pos 0
node_stays z j l = let Z = var 0 in let J = var 1 in let L = var 2 in let none = num (pos 0) in ring (z ∷ j ∷ l ∷ []) Z (add (add Z (mul J none)) (mul L none)) refl

abbrev offset_in : BoundingCylinder → GridSize → Family → ℕ → ℕ → ℕ → List ℤ
offset_in c g f i j l = ray_axis_first f (offset_of c (point_at g f i j l))

offset_moves : (c : BoundingCylinder) (g : GridSize) (f : Family) (i j l : ℕ)
    → IsMovedOffset (offset_in c g f i j l) (offset_in c g f i 0 0) (way_across f (pos c.scale *ℤ g.pitch)) (way_along (pos c.scale *ℤ g.step)) (pos j) (pos l)
offset_moves c g X i j l =
    let s = pos c.scale in record {
      first = place_moves s (at g.origin 0) g.step (at c.tip 0) (pos j) (pos l);
      second = node_stays (s *ℤ node_at g 1 i -ℤ at c.tip 1) (pos j) (pos l);
      third = node_moves s (at g.origin 2) g.pitch (at c.tip 2) (pos j) (pos l);
    }
offset_moves c g Y i j l =
    let s = pos c.scale in record {
      first = place_moves s (at g.origin 1) g.step (at c.tip 1) (pos j) (pos l);
      second = node_moves s (at g.origin 2) g.pitch (at c.tip 2) (pos j) (pos l);
      third = node_stays (s *ℤ node_at g 0 i -ℤ at c.tip 0) (pos j) (pos l);
    }
offset_moves c g Z i j l =
    let s = pos c.scale in record {
      first = place_moves s (at g.origin 2) g.step (at c.tip 2) (pos j) (pos l);
      second = node_stays (s *ℤ node_at g 0 i -ℤ at c.tip 0) (pos j) (pos l);
      third = node_moves s (at g.origin 1) g.pitch (at c.tip 1) (pos j) (pos l);
    }

-- moments and heights of offsets that grow evenly
minor_moves : (p q v1 v2 e1 e2 w1 w2 a1 a2 j l : ℤ) → p ≡ (v1 +ℤ j *ℤ e1) +ℤ l *ℤ w1 → q ≡ (v2 +ℤ j *ℤ e2) +ℤ l *ℤ w2
    → p *ℤ a2 -ℤ q *ℤ a1 ≡ ((v1 *ℤ a2 -ℤ v2 *ℤ a1) +ℤ j *ℤ (e1 *ℤ a2 -ℤ e2 *ℤ a1)) +ℤ l *ℤ (w1 *ℤ a2 -ℤ w2 *ℤ a1)
minor_moves p q v1 v2 e1 e2 w1 w2 a1 a2 j l hp hq =
    let V = from 0 in let E = from 2 in let W = from 4 in let A = from 6 in let J = var 8 in let L = var 9 in
    let moved = λ (k : ℕ). add (add (V k) (mul J (E k))) (mul L (W k)) in
    let minor = λ (u : ℕ → Term). sub (mul (u 0) (A 1)) (mul (u 1) (A 0)) in
    ap₂ (λ x y. x *ℤ a2 -ℤ y *ℤ a1) hp hq
    ∙ ring (v1 ∷ v2 ∷ e1 ∷ e2 ∷ w1 ∷ w2 ∷ a1 ∷ a2 ∷ j ∷ l ∷ []) (minor moved) (add (add (minor V) (mul J (minor E))) (mul L (minor W))) refl

dot_by : (a : List ℤ) (p q r x y z : ℤ) → p ≡ x → q ≡ y → r ≡ z → (p *ℤ at a 0 +ℤ q *ℤ at a 1) +ℤ r *ℤ at a 2 ≡ (x *ℤ at a 0 +ℤ y *ℤ at a 1) +ℤ z *ℤ at a 2
dot_by a p q r x y z e f g = ap₂ (λ u v. (u *ℤ at a 0 +ℤ v *ℤ at a 1) +ℤ r *ℤ at a 2) e f ∙ ap (λ u. (x *ℤ at a 0 +ℤ y *ℤ at a 1) +ℤ u *ℤ at a 2) g

dot_moves : (p v e w a : List ℤ) (j l : ℤ) → IsMovedOffset p v e w j l → dot p a ≡ (dot v a +ℤ j *ℤ dot e a) +ℤ l *ℤ dot w a
dot_moves p v e w a j l h =
    let V = from 0 in let E = from 3 in let W = from 6 in let A = from 9 in let J = var 12 in let L = var 13 in
    let moved = λ (k : ℕ). add (add (V k) (mul J (E k))) (mul L (W k)) in
    dot_by a (at p 0) (at p 1) (at p 2) _ _ _ h.first h.second h.third
    ∙ ring (at v 0 ∷ at v 1 ∷ at v 2 ∷ at e 0 ∷ at e 1 ∷ at e 2 ∷ at w 0 ∷ at w 1 ∷ at w 2 ∷ at a 0 ∷ at a 1 ∷ at a 2 ∷ j ∷ l ∷ []) (dots moved A) (add (add (dots V A) (mul J (dots E A))) (mul L (dots W A))) refl

-- what is along a side grows as evenly
side_by : (d : List ℤ) (p q r x y z : ℤ) → p ≡ x → q ≡ y → r ≡ z → (at d 0 *ℤ p +ℤ at d 1 *ℤ q) +ℤ at d 2 *ℤ r ≡ (at d 0 *ℤ x +ℤ at d 1 *ℤ y) +ℤ at d 2 *ℤ z
side_by d p q r x y z e f g = ap₂ (λ u v. (at d 0 *ℤ u +ℤ at d 1 *ℤ v) +ℤ at d 2 *ℤ r) e f ∙ ap (λ u. (at d 0 *ℤ x +ℤ at d 1 *ℤ y) +ℤ at d 2 *ℤ u) g

side_moves : (d p v e w : List ℤ) (j l : ℤ) → IsMovedOffset p v e w j l → dot d p ≡ (dot d v +ℤ j *ℤ dot d e) +ℤ l *ℤ dot d w
side_moves d p v e w j l h =
    let V = from 0 in let E = from 3 in let W = from 6 in let D = from 9 in let J = var 12 in let L = var 13 in
    let moved = λ (k : ℕ). add (add (V k) (mul J (E k))) (mul L (W k)) in
    side_by d (at p 0) (at p 1) (at p 2) _ _ _ h.first h.second h.third
    ∙ ring (at v 0 ∷ at v 1 ∷ at v 2 ∷ at e 0 ∷ at e 1 ∷ at e 2 ∷ at w 0 ∷ at w 1 ∷ at w 2 ∷ at d 0 ∷ at d 1 ∷ at d 2 ∷ j ∷ l ∷ []) (dots D moved) (add (add (dots D V) (mul J (dots D E))) (mul L (dots D W))) refl

moments_move : (p v e w a : List ℤ) (j l : ℤ) → IsMovedOffset p v e w j l → IsMovedOffset (cross p a) (cross v a) (cross e a) (cross w a) j l
moments_move p v e w a j l o = record {
  first = minor_moves (at p 1) (at p 2) (at v 1) (at v 2) (at e 1) (at e 2) (at w 1) (at w 2) (at a 1) (at a 2) j l o.second o.third;
  second = minor_moves (at p 2) (at p 0) (at v 2) (at v 0) (at e 2) (at e 0) (at w 2) (at w 0) (at a 2) (at a 0) j l o.third o.first;
  third = minor_moves (at p 0) (at p 1) (at v 0) (at v 1) (at e 0) (at e 1) (at w 0) (at w 1) (at a 0) (at a 1) j l o.first o.second;
}

combined : (s t u x y z j l r : ℤ) → s ≡ x → t ≡ y → u ≡ z → r ≡ (x +ℤ j *ℤ y) +ℤ l *ℤ z → (s +ℤ j *ℤ t) +ℤ l *ℤ u ≡ r
combined s t u x y z j l r e f g h = ap₂ (λ a b. (a +ℤ j *ℤ b) +ℤ l *ℤ u) e f ∙ ap (λ a. (x +ℤ j *ℤ y) +ℤ l *ℤ a) g ∙ sym h

-- a step has no moment along the ray
no_along : (w a : List ℤ) (z : ℤ) → z ≡ pos 0 *ℤ at a 2 -ℤ pos 0 *ℤ at a 1 → z ≡ pos 0
no_along w a z e = e ∙ ring (at a 1 ∷ at a 2 ∷ []) (sub (mul (num (pos 0)) (var 1)) (mul (num (pos 0)) (var 0))) (num (pos 0)) refl

-- so the axis offset on the ray
pub record HasAxisOffset (first : AxisOffset) (step : RayStep) (l : ℤ) (p a d : List ℤ) : Type 0 where
  pub along : first.along ≡ at (cross p a) 0
  pub second : second_at first step l ≡ at (cross p a) 1
  pub third : third_at first step l ≡ at (cross p a) 2
  pub side : side_at first step l ≡ dot d (cross p a)
  pub height : height_at first step l ≡ dot p a

stays : (x l y : ℤ) → y ≡ pos 0 → (x +ℤ l *ℤ y) ≡ x
stays x l y e = ap (λ z. x +ℤ l *ℤ z) e ∙ ring (x ∷ l ∷ []) (add (var 0) (mul (var 1) (num (pos 0)))) (var 0) refl

has_axis_offset : (start across first : AxisOffset) (step : RayStep) (p v e a d : List ℤ) (w j l : ℤ) → IsAxisOffset start v a d → IsAxisOffset across e a d → IsRayStep step (way_along w) a d → IsMoved first start across j
    → IsMovedOffset p v e (way_along w) j l → HasAxisOffset first step l p a d
has_axis_offset start across first step p v e a d w j l s t u moved o =
    let none = no_along (way_along w) a (at (cross (way_along w) a) 0) refl in record {
      along = moved.along ∙ sym (stays (start.along +ℤ j *ℤ across.along) l (at (cross (way_along w) a) 0) none)
          ∙ combined start.along across.along (at (cross (way_along w) a) 0) _ _ _ j l _ s.along t.along refl (minor_moves (at p 1) (at p 2) (at v 1) (at v 2) (at e 1) (at e 2) (pos 0) (pos 0) (at a 1) (at a 2) j l o.second o.third);
      second = ap (λ z. z +ℤ l *ℤ step.second) moved.second
          ∙ combined start.second across.second step.second _ _ _ j l _ s.second t.second u.second (minor_moves (at p 2) (at p 0) (at v 2) (at v 0) (at e 2) (at e 0) (pos 0) w (at a 2) (at a 0) j l o.third o.first);
      third = ap (λ z. z +ℤ l *ℤ step.third) moved.third
          ∙ combined start.third across.third step.third _ _ _ j l _ s.third t.third u.third (minor_moves (at p 0) (at p 1) (at v 0) (at v 1) (at e 0) (at e 1) w (pos 0) (at a 0) (at a 1) j l o.first o.second);
      side = ap (λ z. z +ℤ l *ℤ step.side) moved.side
          ∙ combined start.side across.side step.side _ _ _ j l _ s.side t.side u.side (side_moves d (cross p a) (cross v a) (cross e a) (cross (way_along w) a) j l (moments_move p v e (way_along w) a j l o));
      height = ap (λ z. z +ℤ l *ℤ step.height) moved.height
          ∙ combined start.height across.height step.height _ _ _ j l _ s.height t.height u.height (dot_moves p v e (way_along w) a j l o);
    }

-- the first point of a ray
by_none : (x y r : ℤ) → x +ℤ pos 0 *ℤ y ≡ r → x ≡ r
by_none x y r e = ring (x ∷ y ∷ []) (var 0) (add (var 0) (mul (num (pos 0)) (var 1))) refl ∙ e

-- how large they are
pub ray_axis_first_within : (f : Family) (m : ℕ) (v : List ℤ) → IsWithin m v → IsWithin m (ray_axis_first f v)
ray_axis_first_within X m v h = (h.0, h.1, h.2)
ray_axis_first_within Y m v h = (h.1, h.2, h.0)
ray_axis_first_within Z m v h = (h.2, h.0, h.1)

offset_small : (s : ℕ) (x t : ℤ) → s ≤ 128 → unsigned_abs x ≤ metre → unsigned_abs t ≤ 128 * place_limit → unsigned_abs (pos s *ℤ x -ℤ t) ≤ vector_limit
offset_small s x t few hx ht =
    let a = abs_mul (pos s) x 128 metre (omega arith) hx in let b = abs_sub (pos s *ℤ x) t in omega (arith, a, b, ht)

offset_within : (c : BoundingCylinder) (p : List ℤ) → IsPoint p → IsWithin vector_limit (offset_of c p)
offset_within c p h = (
  offset_small c.scale (at p 0) (at c.tip 0) c.scaled.1 h.0 c.tip_within.0,
  offset_small c.scale (at p 1) (at c.tip 1) c.scaled.1 h.1 c.tip_within.1,
  offset_small c.scale (at p 2) (at c.tip 2) c.scaled.1 h.2 c.tip_within.2,
)

minor_small : (p q a b : ℤ) → unsigned_abs p ≤ vector_limit → unsigned_abs q ≤ vector_limit → unsigned_abs a ≤ vector_limit → unsigned_abs b ≤ vector_limit → unsigned_abs (p *ℤ b -ℤ q *ℤ a) ≤ 2 * (vector_limit * vector_limit)
minor_small p q a b hp hq ha hb =
    let x = abs_mul p b vector_limit vector_limit hp hb in let y = abs_mul q a vector_limit vector_limit hq ha in let s = abs_sub (p *ℤ b) (q *ℤ a) in omega (arith, x, y, s)

record AreSmall (p a d : List ℤ) : Type 0 where
  along : unsigned_abs (at (cross p a) 0) ≤ moment_limit
  second : unsigned_abs (at (cross p a) 1) ≤ moment_limit
  third : unsigned_abs (at (cross p a) 2) ≤ moment_limit
  side : unsigned_abs (dot d (cross p a)) ≤ tilt_limit
  height : unsigned_abs (dot p a) ≤ moment_limit

moment_small : (p a : List ℤ) → IsWithin vector_limit p → IsWithin vector_limit a → IsWithin (2 * (vector_limit * vector_limit)) (cross p a)
moment_small p a hp ha = (
  minor_small (at p 1) (at p 2) (at a 1) (at a 2) hp.1 hp.2 ha.1 ha.2,
  minor_small (at p 2) (at p 0) (at a 2) (at a 0) hp.2 hp.0 ha.2 ha.0,
  minor_small (at p 0) (at p 1) (at a 0) (at a 1) hp.0 hp.1 ha.0 ha.1,
)

less_small : (z : ℤ) → unsigned_abs z ≤ 2 * (vector_limit * vector_limit) → unsigned_abs z ≤ moment_limit
less_small z h = omega (arith, h)

are_small : (p a d : List ℤ) → IsWithin vector_limit p → IsWithin vector_limit a → IsWithin side_component_limit d → AreSmall p a d
are_small p a d hp ha hd = let m = moment_small p a hp ha in record {
  along = less_small (at (cross p a) 0) m.0;
  second = less_small (at (cross p a) 1) m.1;
  third = less_small (at (cross p a) 2) m.2;
  side = dot_small d (cross p a) side_component_limit (2 * (vector_limit * vector_limit)) hd m;
  height = dot_small p a vector_limit vector_limit hp ha;
}

small_by : (x y : ℤ) → x ≡ y → unsigned_abs y ≤ moment_limit → unsigned_abs x ≤ moment_limit
small_by x y e h = subst (λ (z : ℤ). unsigned_abs z ≤ moment_limit) (sym e) h

strip_small : (start across : AxisOffset) (step : RayStep) (test : CylinderTest) (s : CylinderStripOf) (j l : ℕ) → IsReadyStrip start across step test s → j < nodes_of s.grid (second_axis s.family) → l < points_of s.grid s.family
    → AreSmall (offset_in s.cylinder s.grid s.family s.i j l) (ray_axis_first s.family s.cylinder.axis) (ray_axis_first s.family s.cylinder.side)
strip_small start across step test s j l ready there within =
    let p = point_at s.grid s.family s.i j l in
    are_small (ray_axis_first s.family (offset_of s.cylinder p)) (ray_axis_first s.family s.cylinder.axis) (ray_axis_first s.family s.cylinder.side)
    (ray_axis_first_within s.family vector_limit (offset_of s.cylinder p) (offset_within s.cylinder p (point_near s.grid s.family s.i j l ready.sized ready.first there within)))
    (ray_axis_first_within s.family vector_limit s.cylinder.axis s.cylinder.axis_within)
    (ray_axis_first_within s.family side_component_limit s.cylinder.side s.cylinder.side_within)

tilted_by : (x y : ℤ) → x ≡ y → unsigned_abs y ≤ tilt_limit → unsigned_abs x ≤ tilt_limit
tilted_by x y e h = subst (λ (z : ℤ). unsigned_abs z ≤ tilt_limit) (sym e) h

first_fits : (start across : AxisOffset) (step : RayStep) (test : CylinderTest) (s : CylinderStripOf) (j : ℕ) → IsReadyStrip start across step test s → j < nodes_of s.grid (second_axis s.family) → FitsMoved start across (pos j)
first_fits start across step test s j ready there =
    let c = s.cylinder in let f = s.family in let a = ray_axis_first f c.axis in let d = ray_axis_first f c.side in let w = pos c.scale *ℤ s.grid.step in
    let p = offset_in c s.grid f s.i j 0 in let v = offset_in c s.grid f s.i 0 0 in let e = way_across f (pos c.scale *ℤ s.grid.pitch) in
    let o = offset_moves c s.grid f s.i j 0 in
    let small = strip_small start across step test s j 0 ready there (has_first s.grid f ready.sized) in
    let b = ready.start_is in let t = ready.across_is in record {
      along = small_by (start.along +ℤ pos j *ℤ across.along) (at (cross p a) 0)
          (by_none (start.along +ℤ pos j *ℤ across.along) (at (cross (way_along w) a) 0) (at (cross p a) 0)
          (combined start.along across.along (at (cross (way_along w) a) 0) _ _ _ (pos j) (pos 0) _ b.along t.along refl (minor_moves (at p 1) (at p 2) (at v 1) (at v 2) (at e 1) (at e 2) (pos 0) (pos 0) (at a 1) (at a 2) (pos j) (pos 0) o.second o.third))) small.along;
      second = small_by (start.second +ℤ pos j *ℤ across.second) (at (cross p a) 1)
          (by_none (start.second +ℤ pos j *ℤ across.second) (at (cross (way_along w) a) 1) (at (cross p a) 1)
          (combined start.second across.second (at (cross (way_along w) a) 1) _ _ _ (pos j) (pos 0) _ b.second t.second refl (minor_moves (at p 2) (at p 0) (at v 2) (at v 0) (at e 2) (at e 0) (pos 0) w (at a 2) (at a 0) (pos j) (pos 0) o.third o.first))) small.second;
      third = small_by (start.third +ℤ pos j *ℤ across.third) (at (cross p a) 2)
          (by_none (start.third +ℤ pos j *ℤ across.third) (at (cross (way_along w) a) 2) (at (cross p a) 2)
          (combined start.third across.third (at (cross (way_along w) a) 2) _ _ _ (pos j) (pos 0) _ b.third t.third refl (minor_moves (at p 0) (at p 1) (at v 0) (at v 1) (at e 0) (at e 1) w (pos 0) (at a 0) (at a 1) (pos j) (pos 0) o.first o.second))) small.third;
      side = tilted_by (start.side +ℤ pos j *ℤ across.side) (dot d (cross p a))
          (by_none (start.side +ℤ pos j *ℤ across.side) (dot d (cross (way_along w) a)) (dot d (cross p a))
          (combined start.side across.side (dot d (cross (way_along w) a)) _ _ _ (pos j) (pos 0) _ b.side t.side refl (side_moves d (cross p a) (cross v a) (cross e a) (cross (way_along w) a) (pos j) (pos 0) (moments_move p v e (way_along w) a (pos j) (pos 0) o)))) small.side;
      height = small_by (start.height +ℤ pos j *ℤ across.height) (dot p a)
          (by_none (start.height +ℤ pos j *ℤ across.height) (dot (way_along w) a) (dot p a)
          (combined start.height across.height (dot (way_along w) a) _ _ _ (pos j) (pos 0) _ b.height t.height refl (dot_moves p v e (way_along w) a (pos j) (pos 0) o))) small.height;
    }

-- turning changes neither the square of a moment nor a height
squares_by : (a b c x y z : ℤ) → a ≡ x → b ≡ y → c ≡ z → (a *ℤ a +ℤ b *ℤ b) +ℤ c *ℤ c ≡ (x *ℤ x +ℤ y *ℤ y) +ℤ z *ℤ z
squares_by a b c x y z e f g = ap₂ (λ u v. (u *ℤ u +ℤ v *ℤ v) +ℤ c *ℤ c) e f ∙ ap (λ u. (x *ℤ x +ℤ y *ℤ y) +ℤ u *ℤ u) g

abbrev squares : Term → Term → Term → Term
squares x y z = add (add (square x) (square y)) (square z)

width_turned : (f : Family) (v a : List ℤ) → dot (cross (ray_axis_first f v) (ray_axis_first f a)) (cross (ray_axis_first f v) (ray_axis_first f a)) ≡ dot (cross v a) (cross v a)
width_turned X v a = refl
width_turned Y v a = ring (at (cross v a) 0 ∷ at (cross v a) 1 ∷ at (cross v a) 2 ∷ []) (squares (var 1) (var 2) (var 0)) (squares (var 0) (var 1) (var 2)) refl
width_turned Z v a = ring (at (cross v a) 0 ∷ at (cross v a) 1 ∷ at (cross v a) 2 ∷ []) (squares (var 2) (var 0) (var 1)) (squares (var 0) (var 1) (var 2)) refl

side_turned : (f : Family) (d v a : List ℤ) → dot (ray_axis_first f d) (cross (ray_axis_first f v) (ray_axis_first f a)) ≡ dot d (cross v a)
side_turned X d v a = refl
side_turned Y d v a =
    let D = from 0 in let C = from 3 in
    ring (at d 0 ∷ at d 1 ∷ at d 2 ∷ at (cross v a) 0 ∷ at (cross v a) 1 ∷ at (cross v a) 2 ∷ []) (add (add (mul (D 1) (C 1)) (mul (D 2) (C 2))) (mul (D 0) (C 0))) (dots D C) refl
side_turned Z d v a =
    let D = from 0 in let C = from 3 in
    ring (at d 0 ∷ at d 1 ∷ at d 2 ∷ at (cross v a) 0 ∷ at (cross v a) 1 ∷ at (cross v a) 2 ∷ []) (add (add (mul (D 2) (C 2)) (mul (D 0) (C 0))) (mul (D 1) (C 1))) (dots D C) refl

height_turned : (f : Family) (v a : List ℤ) → dot (ray_axis_first f v) (ray_axis_first f a) ≡ dot v a
height_turned X v a = refl
height_turned Y v a =
    let V = from 0 in let A = from 3 in
    ring (at v 0 ∷ at v 1 ∷ at v 2 ∷ at a 0 ∷ at a 1 ∷ at a 2 ∷ []) (add (add (mul (V 1) (A 1)) (mul (V 2) (A 2))) (mul (V 0) (A 0))) (dots V A) refl
height_turned Z v a =
    let V = from 0 in let A = from 3 in
    ring (at v 0 ∷ at v 1 ∷ at v 2 ∷ at a 0 ∷ at a 1 ∷ at a 2 ∷ []) (add (add (mul (V 2) (A 2)) (mul (V 0) (A 0))) (mul (V 1) (A 1))) (dots V A) refl

few_points : (g : GridSize) (f : Family) → IsGrid g → points_of g f < 2 ^ 32
few_points g f h = let few = few_places g (ray_axis f) h (axis_below f) in omega (arith, few)

pub ready_ray : (start across first : AxisOffset) (step : RayStep) (test : CylinderTest) (s : CylinderStripOf) (j : ℕ) → IsReadyStrip start across step test s → j < nodes_of s.grid (second_axis s.family) → IsMoved first start across (pos j)
    → IsReadyRay first step test (cylinder_ray_at s j)
ready_ray start across first step test s j ready there moved =
    let c = s.cylinder in let f = s.family in let a = ray_axis_first f c.axis in let d = ray_axis_first f c.side in let w = pos c.scale *ℤ s.grid.step in let e = way_across f (pos c.scale *ℤ s.grid.pitch) in
    let has = λ (l : ℕ). has_axis_offset start across first step (offset_in c s.grid f s.i j l) (offset_in c s.grid f s.i 0 0) e a d w (pos j) (pos l) ready.start_is ready.across_is ready.step_is moved (offset_moves c s.grid f s.i j l) in
    record {
      few = few_points s.grid f ready.sized;
      test_is = ready.test_is;
      fits = λ l within.
          let small = strip_small start across step test s j l ready there within in record {
            second = small_by (second_at first step (pos l)) (at (cross (offset_in c s.grid f s.i j l) a) 1) (has l).second small.second;
            third = small_by (third_at first step (pos l)) (at (cross (offset_in c s.grid f s.i j l) a) 2) (has l).third small.third;
            side = tilted_by (side_at first step (pos l)) (dot d (cross (offset_in c s.grid f s.i j l) a)) (has l).side small.side;
            height = small_by (height_at first step (pos l)) (dot (offset_in c s.grid f s.i j l) a) (has l).height small.height;
          };
      widths = λ l within.
          squares_by first.along (second_at first step (pos l)) (third_at first step (pos l)) _ _ _ (has l).along (has l).second (has l).third
          ∙ width_turned f (offset_of c (point_at s.grid f s.i j l)) c.axis;
      sides = λ l within. (has l).side ∙ side_turned f c.side (offset_of c (point_at s.grid f s.i j l)) c.axis;
      heights = λ l within. (has l).height ∙ height_turned f (offset_of c (point_at s.grid f s.i j l)) c.axis;
    }

-- a step by the axis offset of its way
pub step_by : (t : RayStep) (way : AxisOffset) (v a d : List ℤ) → IsRayStepOf t way → IsAxisOffset way v a d → IsRayStep t v a d
step_by t way v a d like is = record { second = like.second ∙ is.second; third = like.third ∙ is.third; side = like.side ∙ is.side; height = like.height ∙ is.height }

-- the same of a strip by what its caller sees of it
pub ready_on : (start across first : AxisOffset) (step : RayStep) (test : CylinderTest) (s z : CylinderStripOf) (j : ℕ) → s ≡ z → IsReadyStrip start across step test s → j < nodes_of z.grid (second_axis z.family)
    → IsMoved first start across (pos j) → IsReadyRay first step test (cylinder_ray_at z j)
ready_on start across first step test s z j e ready node moved =
    subst (λ (y : CylinderStripOf). IsReadyRay first step test (cylinder_ray_at y j)) e
    (ready_ray start across first step test s j ready (subst (λ (y : CylinderStripOf). j < nodes_of y.grid (second_axis y.family)) (sym e) node) moved)

pub first_fits_on : (start across : AxisOffset) (step : RayStep) (test : CylinderTest) (s z : CylinderStripOf) (j : ℕ) → s ≡ z → IsReadyStrip start across step test s
    → j < nodes_of z.grid (second_axis z.family) → FitsMoved start across (pos j)
first_fits_on start across step test s z j e ready node =
    first_fits start across step test s j ready (subst (λ (y : CylinderStripOf). j < nodes_of y.grid (second_axis y.family)) (sym e) node)
