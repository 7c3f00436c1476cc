-- What the numbers of an interval say of each place that some slab is left of.
use Rattle.std.proofs.Common.{◌≡◌, true, ℕ, ◌+◌, ◌*◌, ◌≤◌, List, [], ◌∷◌, ℤ, pos, ◌*ℤ◌, ◌≤ℤ◌, unsigned_abs, arith, refl, sym, subst, ap, ◌∙◌}
use Rattle.std.proofs.lemmas.Int.{ints}
use Rattle.space.specs.Sweeps.{SweepOf, axis_at, offset_at}
use Rattle.space.specs.Vectors.{cross, dot}
use Rattle.space.proofs.Naturals.{dot_natural, square_not_negative}
use Rattle.space.proofs.Solver.{var, num, mul, ring}
use Rattle.bern_form.specs.Between.{is_unexcluded_between}
use Rattle.bern_form.specs.Cells.{scaled_square}
use Rattle.bern_form.specs.Slab.{SlabSize}
use Rattle.sweep_boxes.specs.declared.sweep_interval.SweepInterval.{SweepInterval}
use Rattle.sweep_boxes.specs.Held.{IsGrown, IsHeightSlack}
use Rattle.sweep_boxes.specs.Intervals.{AreAsLarge, IsNearer, middle_axis, middle_offset, moment_change, height_change, offset_change_of, axis_change_of}
use Rattle.sweep_boxes.specs.Made.{IsSweepInterval}
use Rattle.sweep_boxes.proofs.Kept.{IsNear, held_with, some_left, under_of}
use Rattle.sweep_boxes.proofs.Sweeps.{axes_step, axes_sum, offsets_step, offsets_sum}
use Rattle.sweep_boxes.proofs.Triangle.{square_of_abs}

doubled_square : (S : ℕ) (z : ℤ) → scaled_square (2 * S) z ≡ pos 4 *ℤ scaled_square S z
doubled_square S z = ap (λ (y : ℤ). (y *ℤ z) *ℤ (y *ℤ z)) (even S) ∙ fourfold (pos S) z where
  even : (S : ℕ) → pos (2 * S) ≡ pos 2 *ℤ pos S
  even S = omega (arith, ints)

  fourfold : (s z : ℤ) → ((pos 2 *ℤ s) *ℤ z) *ℤ ((pos 2 *ℤ s) *ℤ z) ≡ pos 4 *ℤ ((s *ℤ z) *ℤ (s *ℤ z))
  fourfold s z = ring (s ∷ z ∷ []) (mul (mul (mul (num (pos 2)) (var 0)) (var 1)) (mul (mul (num (pos 2)) (var 0)) (var 1))) (mul (num (pos 4)) (mul (mul (var 0) (var 1)) (mul (var 0) (var 1)))) refl

pub held_on : (interval : SweepInterval) (m : SweepOf) (k S : ℕ) (slabs : List SlabSize) (p : List ℤ) (widest highest height_slack grow top : ℤ) (far : List ℤ)
    → IsSweepInterval interval m k S → AreAsLarge widest highest slabs → is_unexcluded_between slabs m p k (k + 1) S ≡ true → IsNearer (middle_offset m p k S) far
    → (l : IsHeightSlack height_slack interval far) → (g : IsGrown grow interval widest far) → pos 0 ≤ℤ top
    → (((pos (2 * interval.scale) *ℤ highest) *ℤ (pos (2 * interval.scale) *ℤ highest)) *ℤ interval.longest) ≤ℤ (top *ℤ top)
    → IsNear (middle_offset m p k S) (middle_axis m k S) (l.v + l.b) (unsigned_abs top + (l.v + l.b)) (g.r + (g.m + g.n))
held_on interval m k S slabs p widest highest height_slack grow top far of large left near l g some tall =
    let one = some_left slabs m p k (k + 1) S left in
    let size = large one.slab one.among in
    let P = offset_at m p (pos k) (pos S) in let Q = offset_at m p (pos (k + 1)) (pos S) in let A = axis_at m (pos k) (pos S) in let C = axis_at m (pos (k + 1)) (pos S) in
    let v = middle_offset m p k S in let x = middle_axis m k S in
    let tall_of : (n : ℤ) → pos 0 ≤ℤ n → n ≤ℤ interval.longest → (pos 4 *ℤ ((pos 4 *ℤ scaled_square S one.slab.hi) *ℤ n)) ≤ℤ pos (unsigned_abs top * unsigned_abs top) = λ n natural most.
    subst (λ (y : ℤ). (pos 4 *ℤ (y *ℤ n)) ≤ℤ pos (unsigned_abs top * unsigned_abs top)) (doubled_square S one.slab.hi)
    (under_of (2 * interval.scale) (2 * S) one.slab.hi highest interval.longest n (pos (unsigned_abs top * unsigned_abs top)) (omega (arith, of.scale)) size.tall size.height natural most
    (subst (λ (y : ℤ). (((pos (2 * interval.scale) *ℤ highest) *ℤ (pos (2 * interval.scale) *ℤ highest)) *ℤ interval.longest) ≤ℤ y) (sym (square_of_abs top)) tall)) in
    held_with P Q A C v x (offset_change_of m) (axis_change_of m) S one.slab g.r (unsigned_abs top) g.m g.n l.v l.b (offsets_sum m p k S) (axes_sum m k S) (offsets_step m p k S) (axes_step m k S)
    record {
      wide = record {
        some = square_not_negative (pos S *ℤ one.slab.dia);
        first = under_of interval.scale S one.slab.dia widest interval.longest (dot A A) (pos (g.r * g.r)) of.scale size.thick size.width (dot_natural A) of.first g.wide;
        last = under_of interval.scale S one.slab.dia widest interval.longest (dot C C) (pos (g.r * g.r)) of.scale size.thick size.width (dot_natural C) of.last g.wide;
      };
      tall = record {
        some = four_some (scaled_square S one.slab.hi) (square_not_negative (pos S *ℤ one.slab.hi));
        first = tall_of (dot A A) (dot_natural A) of.first;
        last = tall_of (dot C C) (dot_natural C) of.last;
      };
      change =
          subst (λ (y : List ℤ). dot (moment_change v y (offset_change_of m) (axis_change_of m)) (moment_change v y (offset_change_of m) (axis_change_of m)) ≤ℤ pos (g.m * g.m)) of.axis
          (subst (λ (y : List ℤ). dot (moment_change v interval.axis y (axis_change_of m)) (moment_change v interval.axis y (axis_change_of m)) ≤ℤ pos (g.m * g.m)) of.offset_change
          (subst (λ (y : List ℤ). dot (moment_change v interval.axis interval.offset_change y) (moment_change v interval.axis interval.offset_change y) ≤ℤ pos (g.m * g.m)) of.axis_change (g.change v near)));
      bend =
          subst (λ (y : List ℤ). dot (cross y (axis_change_of m)) (cross y (axis_change_of m)) ≤ℤ pos (g.n * g.n)) of.offset_change
          (subst (λ (y : List ℤ). dot (cross interval.offset_change y) (cross interval.offset_change y) ≤ℤ pos (g.n * g.n)) of.axis_change g.bend);
      slope =
          subst (λ (y : List ℤ). unsigned_abs (height_change v y (offset_change_of m) (axis_change_of m)) ≤ l.v) of.axis
          (subst (λ (y : List ℤ). unsigned_abs (height_change v interval.axis y (axis_change_of m)) ≤ l.v) of.offset_change
          (subst (λ (y : List ℤ). unsigned_abs (height_change v interval.axis interval.offset_change y) ≤ l.v) of.axis_change (l.change v near)));
      bow =
          subst (λ (y : List ℤ). unsigned_abs (dot y (axis_change_of m)) ≤ l.b) of.offset_change
          (subst (λ (y : List ℤ). unsigned_abs (dot interval.offset_change y) ≤ l.b) of.axis_change l.bend);
    } one.left where
      four_some : (z : ℤ) → pos 0 ≤ℤ z → pos 0 ≤ℤ (pos 4 *ℤ z)
      four_some z h = omega (arith, ints, h)
