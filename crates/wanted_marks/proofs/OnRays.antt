-- The points of a ray lie on a line, and between its first and its last.
use Rattle.std.proofs.Common.{◌≡◌, ℕ, suc, ◌+◌, ◌*◌, ◌^◌, ◌≤◌, ◌<◌, [], ◌∷◌, List, ℤ, pos, negsuc, ◌+ℤ◌, ◌*ℤ◌, ◌-ℤ◌, ◌≤ℤ◌, unsigned_abs, arith, refl, subst, sym}
use Rattle.std.specs.List.{All}
use Rattle.std.proofs.lemmas.Int.{ints}
use Rattle.std.proofs.Math.Nat.{mul-le-mul}
use borrow.Author.Differences.{abs_is}
use Rattle.space.specs.Ranges.{IsPoint, IsWithin, metre}
use Rattle.space.specs.Sweeps.{IsSweep, SweepOf, axis_at, offset_at}
use Rattle.space.specs.Vectors.{at, spread}
use Rattle.space.proofs.Naturals.{spread_natural}
use Rattle.space.proofs.Solver.{var, num, add, mul, ring}
use Rattle.space.proofs.Terms.{sub}
use Rattle.bern_form.specs.Between.{n_between, u_between}
use Rattle.bern_form.specs.Forms.{IsSmall}
use Rattle.bern_form.specs.Sizes.{IsBounded2, axis_limit, offset_limit, scale_limit}
use Rattle.bern_form.proofs.Sizes.{axis_within, offset_within, small_as}
use Rattle.axis_cells.proofs.Bounds.{between_fits, cross_bounded}
use Rattle.moment_forms.specs.Moments.{moment, vector_sum}
use Rattle.moment_forms.specs.Sizes.{moments_limit, part_limit}
use Rattle.moment_forms.proofs.Fits.{minor_small, two_small}
use Rattle.ray_grid.specs.Grids.{GridSize}
use Rattle.ray_grid.specs.declared.ray.Family.{Family}
use Rattle.ray_grid.specs.declared.ray.Family.TheVariants.{X, Y, Z}
use Rattle.ray_grid.specs.Lattice.{node_at, place_at, point_at, point_of, points_of}
use Rattle.wanted_marks.specs.Ways.{IsAlong, scaled_way}
use Rattle.wanted_marks.specs.Rays.{RayOf}
use Rattle.ray_runs.specs.declared.clear.OpenStretch.{OpenStretch}
use Rattle.width_bisect.specs.Forms.{AreWidthForms, width_between}
use Rattle.wanted_marks.specs.declared.line.Line.{Line}
use Rattle.wanted_marks.specs.declared.on_stretch.StretchLine.{StretchLine}
use Rattle.wanted_marks.specs.declared.sheet.Sheet.{Sheet}
use Rattle.wanted_marks.specs.Lines.{FitsAt, HasForms, HasFormsBetween, IsLineOf, IsThrough, d_step, heights_at, u_step, width_at}
use Rattle.wanted_marks.specs.StretchLines.{IsStretchLineOf, IsThroughOn}
use Rattle.wanted_marks.specs.Sheets.{FitsOn}
use Rattle.wanted_marks.proofs.Bending.{bend_small}
use Rattle.wanted_marks.proofs.Fitting.{spread_fits}
use Rattle.wanted_marks.proofs.Stepping.{HasRay, forms_are, forms_between, same3}

moves : (o s : ℤ) (l : ℕ) → o +ℤ (pos l *ℤ s) ≡ (o +ℤ (pos 0 *ℤ s)) +ℤ pos l *ℤ ((o +ℤ (pos 1 *ℤ s)) -ℤ (o +ℤ (pos 0 *ℤ s)))
moves o s l =
    let O = var 0 in let S = var 1 in let L = var 2 in let first = add O (mul (num (pos 0)) S) in
    ring (o ∷ s ∷ pos l ∷ []) (add O (mul L S)) (add first (mul L (sub (add O (mul (num (pos 1)) S)) first))) refl

stays : (z x l : ℤ) → z ≡ z +ℤ l *ℤ (x -ℤ x)
stays z x l = let Z = var 0 in let X = var 1 in let L = var 2 in ring (z ∷ x ∷ l ∷ []) Z (add Z (mul L (sub X X))) refl

-- from the first point of ray j of a strip on, by the step of the first ray
along_family : (r : RayOf) (f : Family) (i j k l : ℕ) → IsAlong (point_at r.grid f i j 0) (point_at r.grid f i k 0) (point_at r.grid f i k 1) (point_at r.grid f i j l) (pos l)
along_family r X i j k l = record { x = moves (at r.grid.origin 0) r.grid.step l; y = stays (node_at r.grid 1 i) (node_at r.grid 1 i) (pos l); z = stays (node_at r.grid 2 j) (node_at r.grid 2 k) (pos l) }
along_family r Y i j k l = record { x = stays (node_at r.grid 0 i) (node_at r.grid 0 i) (pos l); y = moves (at r.grid.origin 1) r.grid.step l; z = stays (node_at r.grid 2 j) (node_at r.grid 2 k) (pos l) }
along_family r Z i j k l = record { x = stays (node_at r.grid 0 i) (node_at r.grid 0 i) (pos l); y = stays (node_at r.grid 1 j) (node_at r.grid 1 k) (pos l); z = moves (at r.grid.origin 2) r.grid.step l }

pub along_ray : (r : RayOf) (k l : ℕ) → IsAlong (point_of r.grid r.ray 0) (point_at r.grid r.ray.family r.ray.i k 0) (point_at r.grid r.ray.family r.ray.i k 1) (point_of r.grid r.ray l) (pos l)
along_ray r k l = along_family r r.ray.family r.ray.i r.ray.j k l

-- the first points of the rays of a strip
pub across_rays : (r : RayOf) (f : Family) (i j : ℕ) → IsAlong (point_at r.grid f i 0 0) (point_at r.grid f i 0 0) (point_at r.grid f i 1 0) (point_at r.grid f i j 0) (pos j)
across_rays r X i j = record { x = stays (place_at r.grid 0 0) (place_at r.grid 0 0) (pos j); y = stays (node_at r.grid 1 i) (node_at r.grid 1 i) (pos j); z = moves (at r.grid.origin 2) r.grid.pitch j }
across_rays r Y i j = record { x = stays (node_at r.grid 0 i) (node_at r.grid 0 i) (pos j); y = stays (place_at r.grid 1 0) (place_at r.grid 1 0) (pos j); z = moves (at r.grid.origin 2) r.grid.pitch j }
across_rays r Z i j = record { x = stays (node_at r.grid 0 i) (node_at r.grid 0 i) (pos j); y = moves (at r.grid.origin 1) r.grid.pitch j; z = stays (place_at r.grid 2 0) (place_at r.grid 2 0) (pos j) }

no_way : (s z x : ℤ) → s *ℤ z -ℤ s *ℤ z ≡ s *ℤ x -ℤ s *ℤ x
no_way s z x = let S = var 0 in let Z = var 1 in let X = var 2 in ring (s ∷ z ∷ x ∷ []) (sub (mul S Z) (mul S Z)) (sub (mul S X) (mul S X)) refl

-- on each strip of a family the way from its first point to another is the same
pub same_way : (grid : GridSize) (f : Family) (i j l S : ℕ) → scaled_way (pos S) (point_at grid f 0 0 0) (point_at grid f 0 j l) ≡ scaled_way (pos S) (point_at grid f i 0 0) (point_at grid f i j l)
same_way grid X i j l S = same3 _ _ _ _ _ _ refl (no_way (pos S) (node_at grid 1 0) (node_at grid 1 i)) refl
same_way grid Y i j l S = same3 _ _ _ _ _ _ (no_way (pos S) (node_at grid 0 0) (node_at grid 0 i)) refl refl
same_way grid Z i j l S = same3 _ _ _ _ _ _ (no_way (pos S) (node_at grid 0 0) (node_at grid 0 i)) refl refl

part_between : (x w : ℤ) (l n : ℕ) → l ≤ n → unsigned_abs x ≤ metre → unsigned_abs (x +ℤ pos n *ℤ w) ≤ metre → unsigned_abs (x +ℤ pos l *ℤ w) ≤ metre
part_between x (pos a) l n h first last =
    let less : l * a ≤ n * a = mul-le-mul h (omega arith) in
    omega (arith, ints, less, first, last, abs_is x, abs_is (x +ℤ pos l *ℤ pos a), abs_is (x +ℤ pos n *ℤ pos a))
part_between x (negsuc a) l n h first last =
    let less : l * suc a ≤ n * suc a = mul-le-mul h (omega arith) in
    omega (arith, ints, less, first, last, abs_is x, abs_is (x +ℤ pos l *ℤ negsuc a), abs_is (x +ℤ pos n *ℤ negsuc a))

component_between : (x w p q : ℤ) (l n : ℕ) → l ≤ n → p ≡ x +ℤ pos l *ℤ w → q ≡ x +ℤ pos n *ℤ w → unsigned_abs x ≤ metre → unsigned_abs q ≤ metre → unsigned_abs p ≤ metre
component_between x w p q l n h ep eq first last =
    subst (λ z. unsigned_abs z ≤ metre) (sym ep) (part_between x w l n h first (subst (λ z. unsigned_abs z ≤ metre) eq last))

pub point_between : (s first next p last : List ℤ) (l n : ℕ) → l ≤ n → IsAlong s first next p (pos l) → IsAlong s first next last (pos n) → IsPoint s → IsPoint last → IsPoint p
point_between s first next p last l n h here there f t = (
  component_between (at s 0) (at next 0 -ℤ at first 0) (at p 0) (at last 0) l n h here.x there.x f.0 t.0,
  component_between (at s 1) (at next 1 -ℤ at first 1) (at p 1) (at last 1) l n h here.y there.y f.1 t.1,
  component_between (at s 2) (at next 2 -ℤ at first 2) (at p 2) (at last 2) l n h here.z there.z f.2 t.2,
)

pub width_small : (m : SweepOf) (p : List ℤ) (j k S : ℕ) → IsSweep m → IsPoint p → j ≤ S → k ≤ S → S ≤ scale_limit → All IsSmall (width_between m p j k S)
width_small m p j k S sweep point first last few =
    (between_fits (offset_at m p (pos j) (pos S)) (offset_at m p (pos k) (pos S)) (axis_at m (pos j) (pos S)) (axis_at m (pos k) (pos S))
    (offset_within m p j S sweep point first few) (offset_within m p k S sweep point last few) (axis_within m j S sweep first few) (axis_within m k S sweep last few)).width

pub heights_bounded : (m : SweepOf) (p : List ℤ) (j k S : ℕ) → IsSweep m → IsPoint p → j ≤ S → k ≤ S → S ≤ scale_limit → IsBounded2 (3 * (offset_limit * axis_limit)) (u_between m p j k S)
heights_bounded m p j k S sweep point first last few =
    cross_bounded (offset_at m p (pos j) (pos S)) (offset_at m p (pos k) (pos S)) (axis_at m (pos j) (pos S)) (axis_at m (pos k) (pos S)) offset_limit axis_limit
    (offset_within m p j S sweep point first few) (offset_within m p k S sweep point last few) (axis_within m j S sweep first few) (axis_within m k S sweep last few)

-- what a line has at a point fits
forms_fit : (line : Line) (l : ℤ) (m : SweepOf) (p : List ℤ) (j k S : ℕ) → HasFormsBetween line l m p j k S → IsSweep m → IsPoint p → j ≤ S → k ≤ S → S ≤ scale_limit → FitsAt line l
forms_fit line l m p j k S forms sweep point first last few = record {
  width = small_as forms.width (width_small m p j k S sweep point first last few);
  height = subst (IsBounded2 (3 * (offset_limit * axis_limit))) (sym forms.height) (heights_bounded m p j k S sweep point first last few);
}

-- moments
pub moment_small : (p a : List ℤ) → IsWithin offset_limit p → IsWithin axis_limit a → IsWithin (2 * part_limit) (moment p a)
moment_small p a hp ha = (
  minor_small (at p 1) (at p 2) (at a 1) (at a 2) offset_limit axis_limit hp.1 hp.2 ha.1 ha.2,
  minor_small (at p 2) (at p 0) (at a 2) (at a 0) offset_limit axis_limit hp.2 hp.0 ha.2 ha.0,
  minor_small (at p 0) (at p 1) (at a 0) (at a 1) offset_limit axis_limit hp.0 hp.1 ha.0 ha.1,
)

pub outer_small : (x : List ℤ) → IsWithin (2 * part_limit) x → IsWithin moments_limit x
outer_small x h = let h0 = h.0 in let h1 = h.1 in let h2 = h.2 in (omega (arith, h0), omega (arith, h1), omega (arith, h2))

pub sum_small : (x y : List ℤ) → IsWithin (2 * part_limit) x → IsWithin (2 * part_limit) y → IsWithin moments_limit (vector_sum x y)
sum_small x y h k = (
  two_small (at x 0) (at y 0) (2 * part_limit) h.0 k.0,
  two_small (at x 1) (at y 1) (2 * part_limit) h.1 k.1,
  two_small (at x 2) (at y 2) (2 * part_limit) h.2 k.2,
)

-- what is kept for the rays of a strip fits at each of them
pub ray_fits : (sheet : Sheet) (m : SweepOf) (o v : List ℤ) (S : ℕ) (j : ℤ) → HasRay sheet m o v S j → IsSweep m → IsPoint o → S ≤ scale_limit → IsWithin offset_limit v → FitsOn sheet j
ray_fits sheet m o v S j ray sweep point few within =
    let P = offset_at m o (pos 0) (pos S) in let Q = offset_at m o (pos S) (pos S) in let A = axis_at m (pos 0) (pos S) in let C = axis_at m (pos S) (pos S) in
    let hP = offset_within m o 0 S sweep point (omega arith) few in let hQ = offset_within m o S S sweep point (omega arith) few in
    let hA = axis_within m 0 S sweep (omega arith) few in let hC = axis_within m S S sweep (omega arith) few in
    let height = heights_bounded m o 0 S S sweep point (omega arith) (omega arith) few in record {
      start = subst (λ (x : List ℤ). IsWithin moments_limit x) (sym ray.start) (outer_small (moment P A) (moment_small P A hP hA));
      middle = subst (λ (x : List ℤ). IsWithin moments_limit x) (sym ray.middle) (sum_small (moment P C) (moment Q A) (moment_small P C hP hC) (moment_small Q A hQ hA));
      end = subst (λ (x : List ℤ). IsWithin moments_limit x) (sym ray.end) (outer_small (moment Q C) (moment_small Q C hQ hC));
      first = small_as ray.first
          (spread_fits (pos 8) (d_step m o v S) (n_between m 0 S S) (u_between m o 0 S S) (u_step m v S)
          (cross_bounded P Q v v offset_limit offset_limit hP hQ within within) (cross_bounded A C A C axis_limit axis_limit hA hC hA hC) height
          (cross_bounded v v A C offset_limit axis_limit within within hA hC) (omega arith)).whole;
      height = subst (IsBounded2 (3 * (offset_limit * axis_limit))) (sym ray.height) height;
    }

four_times : (z : ℤ) → pos 0 ≤ℤ z → pos 0 ≤ℤ (pos 4 *ℤ z)
four_times z h = omega (arith, ints, h)

-- the width form at an end of the move goes with the square of the step across the axis there
bends_up : (line : Line) (m : SweepOf) (o v : List ℤ) (S : ℕ) → IsThrough line m o v S → (pos 0 ≤ℤ at line.second.c 0) × (pos 0 ≤ℤ at line.second.c 4)
bends_up line m o v S is =
    let up = λ (a : List ℤ). four_times (spread v a) (spread_natural v a) in (
      subst (λ (c : List ℤ). pos 0 ≤ℤ at c 0) (sym is.second_is) (up (axis_at m (pos 0) (pos S))),
      subst (λ (c : List ℤ). pos 0 ≤ℤ at c 4) (sym is.second_is) (up (axis_at m (pos S) (pos S))),
    )

-- the points of a ray whose ends lie within a metre
ray_point : (r : RayOf) (l n : ℕ) → l < points_of r.grid r.ray.family → points_of r.grid r.ray.family ≤ n + 1 → IsPoint (point_of r.grid r.ray 0) → IsPoint (point_of r.grid r.ray n)
    → IsPoint (point_of r.grid r.ray l)
ray_point r l n below all first last =
    let o = point_of r.grid r.ray 0 in let y = point_of r.grid r.ray 1 in let j = r.ray.j in
    point_between o o y (point_of r.grid r.ray l) (point_of r.grid r.ray n) l n (omega (arith, below, all)) (along_ray r j l) (along_ray r j n) first last

-- their forms
pub line_of_ray : (line : Line) (r : RayOf) (k n S : ℕ) → S ≡ 2 ^ r.sweep.depth → S ≤ scale_limit → IsSweep r.sweep.sweep
    → IsThrough line r.sweep.sweep (point_of r.grid r.ray 0) (scaled_way (pos S) (point_at r.grid r.ray.family r.ray.i k 0) (point_at r.grid r.ray.family r.ray.i k 1)) S
    → IsPoint (point_of r.grid r.ray 0) → IsPoint (point_of r.grid r.ray n) → points_of r.grid r.ray.family ≤ n + 1 → IsLineOf line r
line_of_ray line r k n S e few sweep is first last all =
    let m = r.sweep.sweep in let o = point_of r.grid r.ray 0 in let x = point_at r.grid r.ray.family r.ray.i k 0 in let y = point_at r.grid r.ray.family r.ray.i k 1 in
    let forms = λ (l : ℕ). forms_are line m o x y (point_of r.grid r.ray l) S (pos l) is (along_ray r k l) in
    let point = λ (l : ℕ) (below : l < points_of r.grid r.ray.family). ray_point r l n below all first last in
    let up = bends_up line m o (scaled_way (pos S) x y) S is in record {
      fits = λ l below. forms_fit line (pos l) m (point_of r.grid r.ray l) 0 S S (forms l) sweep (point l below) (omega arith) (omega arith) few;
      bends = λ h below. bend_small line m o x y (point_of r.grid r.ray h) S (pos h) is (along_ray r k h) sweep first (point h below) few;
      forms = λ l below. subst (λ z. HasForms line (pos l) m (point_of r.grid r.ray l) z) e (forms l);
      first_convex = up.0;
      last_convex = up.1;
    }

-- on a stretch of the move
pub stretch_line_of_ray : (x : StretchLine) (s : OpenStretch) (r : RayOf) (n S : ℕ) → S ≡ 2 ^ r.sweep.depth → S ≤ scale_limit → IsSweep r.sweep.sweep → s.first + 2 ^ s.levels ≤ S
    → IsThroughOn x s r.sweep.sweep (point_of r.grid r.ray 0) (scaled_way (pos S) (point_of r.grid r.ray 0) (point_of r.grid r.ray 1)) S
    → IsPoint (point_of r.grid r.ray 0) → IsPoint (point_of r.grid r.ray n) → points_of r.grid r.ray.family ≤ n + 1 → IsStretchLineOf x s r
stretch_line_of_ray x s r n S e few sweep within is first last all =
    let m = r.sweep.sweep in let o = point_of r.grid r.ray 0 in let y = point_of r.grid r.ray 1 in let j = s.first in let k = s.first + 2 ^ s.levels in
    let forms = λ (l : ℕ). forms_between x.line m o o y (point_of r.grid r.ray l) j k S (pos l) is.line_is (along_ray r r.ray.j l) in record {
      fits = λ l below.
          forms_fit x.line (pos l) m (point_of r.grid r.ray l) j k S (forms l) sweep (ray_point r l n below all first last) (omega (arith, within)) within few;
      forms = λ l below. subst (λ z. AreWidthForms (heights_at x.line (pos l)) x.n.c (width_at x.line (pos l)) m (point_of r.grid r.ray l) j k z) e
          record { u_is = (forms l).height; n_is = is.n_is; width_is = (forms l).width };
    }
