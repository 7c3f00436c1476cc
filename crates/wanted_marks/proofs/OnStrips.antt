-- The sheets of the strips of a family, from the forms of a grid's points.
use Rattle.std.proofs.Common.{◌≡◌, ℕ, ◌*◌, ◌^◌, ◌≤◌, ◌<◌, [], ◌∷◌, List, ℤ, pos, ◌+ℤ◌, ◌*ℤ◌, ◌-ℤ◌, unsigned_abs, arith, refl, ap, ap₂, subst, sym, ◌∙◌}
use Rattle.std.proofs.lemmas.Int.{ints}
use Rattle.std.proofs.Math.IntN.{pos-*ℤ-pos}
use Rattle.std.proofs.Math.Nat.{mul-le-mul}
use Rattle.space.specs.Ranges.{IsPoint, IsWithin}
use Rattle.space.specs.Sweeps.{IsSweep, SweepOf, axis_at}
use Rattle.space.specs.Vectors.{at}
use Rattle.space.proofs.Naturals.{abs_mul}
use Rattle.space.proofs.Solver.{Term, var, num, add, mul, ring}
use Rattle.space.proofs.Terms.{sub}
use Rattle.bern_form.specs.Between.{n_between}
use Rattle.bern_form.specs.Cells.{dot_on_cell}
use Rattle.bern_form.specs.Forms.{scaled4}
use Rattle.bern_form.specs.Sizes.{IsBounded2, axis_limit, offset_limit, scale_limit}
use Rattle.bern_form.proofs.Sizes.{axis_within, small_as}
use Rattle.bern_form.specs.declared.form.Form4.{Form4}
use Rattle.axis_cells.proofs.Bounds.{cross_bounded}
use Rattle.moment_forms.specs.Moments.{middle_moment, moment}
use Rattle.moment_forms.specs.Sizes.{moments_limit}
use Rattle.ray_grid.specs.Grids.{GridSize}
use Rattle.ray_grid.specs.declared.ray.Family.{Family}
use Rattle.ray_grid.specs.declared.ray.Family.TheVariants.{X, Y, Z}
use Rattle.ray_grid.specs.Families.{first_axis, second_axis}
use Rattle.ray_grid.specs.Lattice.{IsRay, node_at, nodes_of, per_node, place_at, point_at}
use Rattle.ray_grid.specs.Ranges.{IsGrid}
use Rattle.ray_grid.proofs.Sizes.{abs_is, axis_of, some_per_node}
use Rattle.wanted_marks.specs.declared.grid_forms.GridForms.{GridForms}
use Rattle.wanted_marks.specs.declared.sheet.Sheet.{Sheet}
use Rattle.wanted_marks.specs.declared.step_forms.StepForms.{StepForms}
use Rattle.wanted_marks.specs.GridForms.{AreGridForms, FitsStrip, IsStep, IsStripSheet, beside_of, crossed_form, crossed_of, first_rays, rays_by, step_way}
use Rattle.wanted_marks.specs.Lines.{u_step}
use Rattle.wanted_marks.specs.Rays.{MoveOf}
use Rattle.wanted_marks.specs.Sheets.{IsSheet}
use Rattle.wanted_marks.specs.Strips.{IsSheetOf}
use Rattle.wanted_marks.specs.Ways.{IsAlong, scaled_vector, scaled_way}
use Rattle.wanted_marks.specs.Widths.{spread_form}
use Rattle.wanted_marks.proofs.Fitting.{spread_fits}
use Rattle.wanted_marks.proofs.OnRays.{moment_small, outer_small, ray_fits, same_way, sum_small}
use Rattle.wanted_marks.proofs.Pitches.{crossed_turned, dot_times, middle_times, moment_times, spread_times}
use Rattle.wanted_marks.proofs.Stepping.{HasRay, ray_by, same3}

-- the families whose rays run across the strips of a family, and along the way from ray to ray of a strip
abbrev across : Family → Family
across X = Y
across Y = X
across Z = X

abbrev beside : Family → Family
beside X = Z
beside Y = Z
beside Z = Y

-- the pitch is k steps
pub pitch_is : (grid : GridSize) → IsGrid grid → grid.pitch ≡ pos (per_node grid) *ℤ grid.step
pitch_is grid is =
    let one = is.step_in.from_least in let more = is.pitch_in.from_least in
    let p = abs_is grid.pitch more in let s = abs_is grid.step one in let top = is.step_in.to_most in
    let whole = (some_per_node (unsigned_abs grid.pitch) (unsigned_abs grid.step) (omega (arith, ints)) (omega (arith, ints)) is.divides).1 in
    p ∙ ap pos whole ∙ sym (pos-*ℤ-pos (per_node grid) (unsigned_abs grid.step)) ∙ ap (λ z. pos (per_node grid) *ℤ z) (sym s)

few_steps : (i n k : ℕ) → i < n → n ≤ 400 → k ≤ 1000 → i * k < 2 ^ 32
few_steps i n k lt some few = let below : i ≤ 400 = omega (arith, lt, some) in let h : i * k ≤ 400 * 1000 = mul-le-mul below few in omega (arith, h)

-- where the strips begin
rests : (o s l x : ℤ) → o +ℤ (pos 0 *ℤ s) ≡ o +ℤ l *ℤ (x -ℤ x)
rests o s l x =
    let O = var 0 in let S = var 1 in let L = var 2 in let N = var 3 in
    ring (o ∷ s ∷ l ∷ x ∷ []) (add O (mul (num (pos 0)) S)) (add O (mul L (sub N N))) refl

goes : (o s i k : ℤ) → o +ℤ (i *ℤ (k *ℤ s)) ≡ o +ℤ (i *ℤ k) *ℤ ((o +ℤ (pos 1 *ℤ s)) -ℤ (o +ℤ (pos 0 *ℤ s)))
goes o s i k =
    let O = var 0 in let S = var 1 in let I = var 2 in let K = var 3 in
    ring (o ∷ s ∷ i ∷ k ∷ []) (add O (mul I (mul K S))) (add O (mul (mul I K) (sub (add O (mul (num (pos 1)) S)) (add O (mul (num (pos 0)) S))))) refl

node_is : (o p s : ℤ) (i k : ℕ) → p ≡ pos k *ℤ s → o +ℤ (pos i *ℤ p) ≡ o +ℤ pos (i * k) *ℤ ((o +ℤ (pos 1 *ℤ s)) -ℤ (o +ℤ (pos 0 *ℤ s)))
node_is o p s i k e =
    ap (λ z. o +ℤ (pos i *ℤ z)) e ∙ goes o s (pos i) (pos k) ∙ ap (λ z. o +ℤ z *ℤ ((o +ℤ (pos 1 *ℤ s)) -ℤ (o +ℤ (pos 0 *ℤ s)))) (pos-*ℤ-pos i k)

strips_begin : (grid : GridSize) (f : Family) (i k : ℕ) → grid.pitch ≡ pos k *ℤ grid.step
    → IsAlong grid.origin (point_at grid (across f) 0 0 0) (point_at grid (across f) 0 0 1) (point_at grid f i 0 0) (pos (i * k))
strips_begin grid X i k e = record {
  x = rests (at grid.origin 0) grid.step (pos (i * k)) (node_at grid 0 0);
  y = node_is (at grid.origin 1) grid.pitch grid.step i k e;
  z = rests (at grid.origin 2) grid.pitch (pos (i * k)) (node_at grid 2 0);
}
strips_begin grid Y i k e = record {
  x = node_is (at grid.origin 0) grid.pitch grid.step i k e;
  y = rests (at grid.origin 1) grid.step (pos (i * k)) (node_at grid 1 0);
  z = rests (at grid.origin 2) grid.pitch (pos (i * k)) (node_at grid 2 0);
}
strips_begin grid Z i k e = record {
  x = node_is (at grid.origin 0) grid.pitch grid.step i k e;
  y = rests (at grid.origin 1) grid.pitch (pos (i * k)) (node_at grid 1 0);
  z = rests (at grid.origin 2) grid.step (pos (i * k)) (node_at grid 2 0);
}

-- the way from ray to ray of a strip
nothing : (s z k x : ℤ) → s *ℤ z -ℤ s *ℤ z ≡ k *ℤ (s *ℤ x -ℤ s *ℤ x)
nothing s z k x =
    let S = var 0 in let N = var 1 in let K = var 2 in let M = var 3 in
    ring (s ∷ z ∷ k ∷ x ∷ []) (sub (mul S N) (mul S N)) (mul K (sub (mul S M) (mul S M))) refl

pitch_way : (s o t k : ℤ) → s *ℤ (o +ℤ (pos 1 *ℤ (k *ℤ t))) -ℤ s *ℤ (o +ℤ (pos 0 *ℤ (k *ℤ t))) ≡ k *ℤ (s *ℤ (o +ℤ (pos 1 *ℤ t)) -ℤ s *ℤ (o +ℤ (pos 0 *ℤ t)))
pitch_way s o t k =
    let S = var 0 in let O = var 1 in let T = var 2 in let K = var 3 in
    let way = λ (z : Term). sub (mul S (add O (mul (num (pos 1)) z))) (mul S (add O (mul (num (pos 0)) z))) in
    ring (s ∷ o ∷ t ∷ k ∷ []) (way (mul K T)) (mul K (way T)) refl

pitched : (s o p t k : ℤ) → p ≡ k *ℤ t → s *ℤ (o +ℤ (pos 1 *ℤ p)) -ℤ s *ℤ (o +ℤ (pos 0 *ℤ p)) ≡ k *ℤ (s *ℤ (o +ℤ (pos 1 *ℤ t)) -ℤ s *ℤ (o +ℤ (pos 0 *ℤ t)))
pitched s o p t k e = ap (λ z. s *ℤ (o +ℤ (pos 1 *ℤ z)) -ℤ s *ℤ (o +ℤ (pos 0 *ℤ z))) e ∙ pitch_way s o t k

side_way : (grid : GridSize) (f : Family) (i k S : ℕ) → grid.pitch ≡ pos k *ℤ grid.step
    → scaled_way (pos S) (point_at grid f i 0 0) (point_at grid f i 1 0) ≡ scaled_vector (pos k) (step_way grid (beside f) S)
side_way grid X i k S e =
    same3 _ _ _ _ _ _ (nothing (pos S) (place_at grid 0 0) (pos k) (node_at grid 0 0)) (nothing (pos S) (node_at grid 1 i) (pos k) (node_at grid 1 0))
    (pitched (pos S) (at grid.origin 2) grid.pitch grid.step (pos k) e)
side_way grid Y i k S e =
    same3 _ _ _ _ _ _ (nothing (pos S) (node_at grid 0 i) (pos k) (node_at grid 0 0)) (nothing (pos S) (place_at grid 1 0) (pos k) (node_at grid 1 0))
    (pitched (pos S) (at grid.origin 2) grid.pitch grid.step (pos k) e)
side_way grid Z i k S e =
    same3 _ _ _ _ _ _ (nothing (pos S) (node_at grid 0 i) (pos k) (node_at grid 0 0)) (pitched (pos S) (at grid.origin 1) grid.pitch grid.step (pos k) e)
    (nothing (pos S) (place_at grid 2 0) (pos k) (node_at grid 2 0))

-- how long a step is, and a pitch
pub way_is : (s o t : ℤ) → s *ℤ t ≡ s *ℤ (o +ℤ (pos 1 *ℤ t)) -ℤ s *ℤ (o +ℤ (pos 0 *ℤ t))
way_is s o t =
    let S = var 0 in let O = var 1 in let T = var 2 in
    ring (s ∷ o ∷ t ∷ []) (mul S T) (sub (mul S (add O (mul (num (pos 1)) T))) (mul S (add O (mul (num (pos 0)) T)))) refl

pub none_is : (s z : ℤ) → pos 0 ≡ s *ℤ z -ℤ s *ℤ z
none_is s z = let S = var 0 in let N = var 1 in ring (s ∷ z ∷ []) (num (pos 0)) (sub (mul S N) (mul S N)) refl

far : (S : ℕ) (o t : ℤ) → S ≤ scale_limit → unsigned_abs t ≤ 1000000 → unsigned_abs (pos S *ℤ (o +ℤ (pos 1 *ℤ t)) -ℤ pos S *ℤ (o +ℤ (pos 0 *ℤ t))) ≤ offset_limit
far S o t few h =
    let product = abs_mul (pos S) t scale_limit 1000000 few h in
    let short : unsigned_abs (pos S *ℤ t) ≤ offset_limit = omega (arith, product) in
    subst (λ z. unsigned_abs z ≤ offset_limit) (way_is (pos S) o t) short

near : (S : ℕ) (z : ℤ) → unsigned_abs (pos S *ℤ z -ℤ pos S *ℤ z) ≤ offset_limit
near S z = let none : unsigned_abs (pos 0) ≤ offset_limit = omega arith in subst (λ x. unsigned_abs x ≤ offset_limit) (none_is (pos S) z) none

pub short_step : (grid : GridSize) → IsGrid grid → unsigned_abs grid.step ≤ 1000000
short_step grid is =
    let one = is.step_in.from_least in let more = is.pitch_in.from_least in let top = is.step_in.to_most in let most = is.pitch_in.to_most in
    let p = abs_is grid.pitch more in let s = abs_is grid.step one in omega (arith, ints)

short_pitch : (grid : GridSize) → IsGrid grid → unsigned_abs grid.pitch ≤ 1000000
short_pitch grid is =
    let more = is.pitch_in.from_least in let most = is.pitch_in.to_most in let p = abs_is grid.pitch more in omega (arith, ints)

step_within : (grid : GridSize) (f : Family) (S : ℕ) → IsGrid grid → S ≤ scale_limit → IsWithin offset_limit (step_way grid f S)
step_within grid X S is few = (far S (at grid.origin 0) grid.step few (short_step grid is), near S (node_at grid 1 0), near S (node_at grid 2 0))
step_within grid Y S is few = (near S (node_at grid 0 0), far S (at grid.origin 1) grid.step few (short_step grid is), near S (node_at grid 2 0))
step_within grid Z S is few = (near S (node_at grid 0 0), near S (node_at grid 1 0), far S (at grid.origin 2) grid.step few (short_step grid is))

pitch_within : (grid : GridSize) (f : Family) (i S : ℕ) → IsGrid grid → S ≤ scale_limit → IsWithin offset_limit (scaled_way (pos S) (point_at grid f i 0 0) (point_at grid f i 1 0))
pitch_within grid X i S is few = (near S (place_at grid 0 0), near S (node_at grid 1 i), far S (at grid.origin 2) grid.pitch few (short_pitch grid is))
pitch_within grid Y i S is few = (near S (node_at grid 0 i), near S (place_at grid 1 0), far S (at grid.origin 2) grid.pitch few (short_pitch grid is))
pitch_within grid Z i S is few = (near S (node_at grid 0 i), far S (at grid.origin 1) grid.pitch few (short_pitch grid is), near S (place_at grid 2 0))

-- what is kept for the strips of one family
record HasFamily (forms : GridForms) (m : SweepOf) (grid : GridSize) (f : Family) (S : ℕ) : Type 0 where
  rays : IsSheet (first_rays forms f) m grid.origin (step_way grid f S) (step_way grid (across f) S) S
  side : IsStep (beside_of forms f) m grid.origin (step_way grid (beside f) S) S
  crossed : (crossed_of forms f).c ≡ crossed_form m (step_way grid (beside f) S) (step_way grid f S) S

turned : (m : SweepOf) (t v : List ℤ) (S : ℕ) → crossed_form m t v S ≡ crossed_form m v t S
turned m t v S = crossed_turned t v (n_between m 0 S S) (u_step m t S) (u_step m v S)

rays_are : (forms : GridForms) (along across : StepForms) (crossed : Form4) (m : SweepOf) (grid : GridSize) (v t : List ℤ) (S : ℕ) → AreGridForms forms m grid S
    → IsStep along m grid.origin v S → IsStep across m grid.origin t S → crossed.c ≡ crossed_form m t v S → IsSheet (rays_by forms along across crossed) m grid.origin v t S
rays_are forms along across crossed m grid v t S are on beside e = record {
  start = are.start;
  side = beside.moments;
  first_is = on.first_is;
  first_side_is = e;
  second_is = on.second_is;
  height_is = are.height_is;
  height_step_is = on.height_is;
  height_side_is = beside.height_is;
}

has_family : (forms : GridForms) (m : SweepOf) (grid : GridSize) (f : Family) (S : ℕ) → AreGridForms forms m grid S → HasFamily forms m grid f S
has_family forms m grid X S are = let x = step_way grid X S in let y = step_way grid Y S in record {
  rays = rays_are forms forms.x forms.y forms.xy m grid x y S are are.x are.y (are.xy_is ∙ turned m x y S);
  side = are.z;
  crossed = are.zx_is;
}
has_family forms m grid Y S are = let x = step_way grid X S in let y = step_way grid Y S in record {
  rays = rays_are forms forms.y forms.x forms.xy m grid y x S are are.y are.x are.xy_is;
  side = are.z;
  crossed = are.yz_is ∙ turned m y (step_way grid Z S) S;
}
has_family forms m grid Z S are = let x = step_way grid X S in let z = step_way grid Z S in record {
  rays = rays_are forms forms.z forms.x forms.zx m grid z x S are are.z are.x (are.zx_is ∙ turned m z x S);
  side = are.y;
  crossed = are.yz_is;
}

-- the first ray of strip i
first_ray : (forms : GridForms) (m : SweepOf) (grid : GridSize) (f : Family) (i S : ℕ) → AreGridForms forms m grid S → IsGrid grid
    → HasRay (first_rays forms f) m (point_at grid f i 0 0) (step_way grid f S) S (pos (i * forms.per_node))
first_ray forms m grid f i S are is =
    let g = across f in let pitch = pitch_is grid is ∙ ap (λ k. pos k *ℤ grid.step) (sym are.per_node_is) in
    ray_by (first_rays forms f) m grid.origin (point_at grid g 0 0 0) (point_at grid g 0 0 1) (step_way grid f S) (point_at grid f i 0 0) S (pos (i * forms.per_node))
    (has_family forms m grid f S are).rays (strips_begin grid f i forms.per_node pitch)

-- k steps add k times what one adds
record AddsTimes (step : StepForms) (crossed : Form4) (m : SweepOf) (t v : List ℤ) (k S : ℕ) : Type 0 where
  start : scaled_vector (pos k) step.moments.start ≡ moment t (axis_at m (pos 0) (pos S))
  middle : scaled_vector (pos k) step.moments.middle ≡ middle_moment t t (axis_at m (pos 0) (pos S)) (axis_at m (pos S) (pos S))
  end : scaled_vector (pos k) step.moments.end ≡ moment t (axis_at m (pos S) (pos S))
  first_side : scaled4 (pos k) crossed.c ≡ crossed_form m t v S
  height : scaled_vector (pos k) step.height ≡ u_step m t S

adds_times : (step : StepForms) (crossed : Form4) (m : SweepOf) (s w v : List ℤ) (k S : ℕ) → IsStep step m s w S → crossed.c ≡ crossed_form m w v S
    → AddsTimes step crossed m (scaled_vector (pos k) w) v k S
adds_times step crossed m s w v k S is across_is =
    let K = pos k in let A = axis_at m (pos 0) (pos S) in let C = axis_at m (pos S) (pos S) in record {
      start = ap (scaled_vector K) is.moments.start_is ∙ sym (moment_times K w A);
      middle = ap (scaled_vector K) is.moments.middle_is ∙ sym (middle_times K w A C);
      end = ap (scaled_vector K) is.moments.end_is ∙ sym (moment_times K w C);
      first_side = ap (scaled4 K) across_is ∙ sym (spread_times K (dot_on_cell w w v v) (n_between m 0 S S) (u_step m w S) (u_step m v S))
          ∙ ap₂ (λ d u. spread_form (pos 8) d (n_between m 0 S S) u (u_step m v S)) (sym (dot_times K w v v)) (sym (dot_times K w A C));
      height = ap (scaled_vector K) is.height_is ∙ sym (dot_times K w A C);
    }

side_adds : (forms : GridForms) (m : SweepOf) (grid : GridSize) (f : Family) (i S : ℕ) → AreGridForms forms m grid S → IsGrid grid
    → AddsTimes (beside_of forms f) (crossed_of forms f) m (scaled_way (pos S) (point_at grid f i 0 0) (point_at grid f i 1 0)) (step_way grid f S) forms.per_node S
side_adds forms m grid f i S are is =
    let k = forms.per_node in let pitch = pitch_is grid is ∙ ap (λ n. pos n *ℤ grid.step) (sym are.per_node_is) in
    let has = has_family forms m grid f S are in
    subst (λ (t : List ℤ). AddsTimes (beside_of forms f) (crossed_of forms f) m t (step_way grid f S) k S) (sym (side_way grid f i k S pitch))
    (adds_times (beside_of forms f) (crossed_of forms f) m grid.origin (step_way grid (beside f) S) (step_way grid f S) k S has.side has.crossed)

-- what is kept of them fits
times_fit : (step : StepForms) (crossed : Form4) (rays : Sheet) (m : SweepOf) (o t v : List ℤ) (k i S : ℕ) → AddsTimes step crossed m t v k S → HasRay rays m o v S (pos (i * k))
    → IsSweep m → IsPoint o → S ≤ scale_limit → IsWithin offset_limit t → IsWithin offset_limit v → i * k < 2 ^ 32 → FitsStrip rays step crossed k i
times_fit step crossed rays m o t v k i S adds ray sweep point few ht hv steps =
    let A = axis_at m (pos 0) (pos S) in let C = axis_at m (pos S) (pos S) in
    let hA = axis_within m 0 S sweep (omega arith) few in let hC = axis_within m S S sweep (omega arith) few in
    let height = cross_bounded t t A C offset_limit axis_limit ht ht hA hC in record {
      few = steps;
      first_ray = ray_fits rays m o v S (pos (i * k)) ray sweep point few hv;
      side_start = subst (λ (x : List ℤ). IsWithin moments_limit x) (sym adds.start) (outer_small (moment t A) (moment_small t A ht hA));
      side_middle = subst (λ (x : List ℤ). IsWithin moments_limit x) (sym adds.middle) (sum_small (moment t C) (moment t A) (moment_small t C ht hC) (moment_small t A ht hA));
      side_end = subst (λ (x : List ℤ). IsWithin moments_limit x) (sym adds.end) (outer_small (moment t C) (moment_small t C ht hC));
      first_side = small_as adds.first_side
          (spread_fits (pos 8) (dot_on_cell t t v v) (n_between m 0 S S) (u_step m t S) (u_step m v S)
          (cross_bounded t t v v offset_limit offset_limit ht ht hv hv) (cross_bounded A C A C axis_limit axis_limit hA hC hA hC) height
          (cross_bounded v v A C offset_limit axis_limit hv hv hA hC) (omega arith)).whole;
      height_side = subst (IsBounded2 (3 * (offset_limit * axis_limit))) (sym adds.height) height;
    }

axis_is : (f : Family) → first_axis f < 3
axis_is X = omega arith
axis_is Y = omega arith
axis_is Z = omega arith

pub strip_fits : (forms : GridForms) (m : SweepOf) (grid : GridSize) (f : Family) (i S : ℕ) → AreGridForms forms m grid S → IsGrid grid → i < nodes_of grid (first_axis f)
    → IsSweep m → IsPoint (point_at grid f i 0 0) → S ≤ scale_limit → FitsStrip (first_rays forms f) (beside_of forms f) (crossed_of forms f) forms.per_node i
strip_fits forms m grid f i S are is node sweep point few =
    let most = (axis_of grid (first_axis f) is (axis_is f)).most in
    let steps = few_steps i (nodes_of grid (first_axis f)) forms.per_node node most (subst (λ k. k ≤ 1000) (sym are.per_node_is) is.fine) in
    times_fit (beside_of forms f) (crossed_of forms f) (first_rays forms f) m (point_at grid f i 0 0) (scaled_way (pos S) (point_at grid f i 0 0) (point_at grid f i 1 0))
    (step_way grid f S) forms.per_node i S (side_adds forms m grid f i S are is) (first_ray forms m grid f i S are is) sweep point few
    (pitch_within grid f i S is few) (step_within grid f S is few) steps

second_is : (f : Family) → second_axis f < 3
second_is X = omega arith
second_is Y = omega arith
second_is Z = omega arith

-- each strip has a ray
pub has_ray : (grid : GridSize) (f : Family) (i : ℕ) → IsGrid grid → i < nodes_of grid (first_axis f) → IsRay grid record { family = f; i = i; j = 0 }
has_ray grid f i is node = let some = (axis_of grid (second_axis f) is (second_is f)).some in record { first = node; second = omega (arith, some) }

-- sheet i runs through the points of strip i
sheet_is : (sheet rays : Sheet) (step : StepForms) (crossed : Form4) (m : SweepOf) (start w o t v : List ℤ) (k i S : ℕ) → IsStripSheet sheet rays step crossed k i
    → IsSheet rays m start v w S → HasRay rays m o v S (pos (i * k)) → AddsTimes step crossed m t v k S → IsSheet sheet m o v t S
sheet_is sheet rays step crossed m start w o t v k i S on is ray adds = record {
  start = record { start_is = on.start_is ∙ ray.start; middle_is = on.middle_is ∙ ray.middle; end_is = on.end_is ∙ ray.end };
  side = record { start_is = on.side_start_is ∙ adds.start; middle_is = on.side_middle_is ∙ adds.middle; end_is = on.side_end_is ∙ adds.end };
  first_is = on.first_is ∙ ray.first;
  first_side_is = on.first_side_is ∙ adds.first_side;
  second_is = on.second_is ∙ is.second_is;
  height_is = on.height_is ∙ ray.height;
  height_step_is = on.height_step_is ∙ is.height_step_is;
  height_side_is = on.height_side_is ∙ adds.height;
}

pub strip_is : (sheet : Sheet) (forms : GridForms) (v : MoveOf) (grid : GridSize) (f : Family) (i : ℕ) → AreGridForms forms v.sweep grid (2 ^ v.depth) → IsGrid grid → 2 ^ v.depth ≤ scale_limit
    → IsStripSheet sheet (first_rays forms f) (beside_of forms f) (crossed_of forms f) forms.per_node i → IsSheetOf sheet record { sweep = v; grid = grid; family = f; i = i }
strip_is sheet forms v grid f i are grid_is few on =
    let S = 2 ^ v.depth in let m = v.sweep in let o = point_at grid f i 0 0 in
    let is = sheet_is sheet (first_rays forms f) (beside_of forms f) (crossed_of forms f) m grid.origin (step_way grid (across f) S) o (scaled_way (pos S) o (point_at grid f i 1 0)) (step_way grid f S)
    forms.per_node i S on (has_family forms m grid f S are).rays (first_ray forms m grid f i S are grid_is) (side_adds forms m grid f i S are grid_is) in
    record {
      forms = subst (λ (x : List ℤ). IsSheet sheet m o x (scaled_way (pos S) o (point_at grid f i 1 0)) S) (same_way grid f i 0 1 S) is;
      within = subst (IsWithin offset_limit) (same_way grid f i 0 1 S) (step_within grid f S grid_is few);
    }
