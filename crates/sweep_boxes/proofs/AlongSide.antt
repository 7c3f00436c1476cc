-- How far to either side of a piece's way each place is that some slab is left of.
use Rattle.std.proofs.Common.{◌≡◌, true, ℕ, zero, suc, ◌+◌, ◌*◌, ◌≤◌, ◌<◌, List, [], ◌∷◌, ℤ, pos, negsuc, ◌+ℤ◌, ◌*ℤ◌, ◌≤ℤ◌, unsigned_abs, inr, ⊎_elim, arith, refl, sym, subst, ◌∙◌}
use Rattle.std.proofs.lemmas.Int.{ints}
use Rattle.std.proofs.lemmas.Bool.{cases_lt}
use borrow.Author.Differences.{abs_is}
use Rattle.space.specs.Sweeps.{SweepOf, axis_at, offset_at}
use Rattle.space.specs.Vectors.{at, cross, difference, dot, sum}
use Rattle.space.proofs.Naturals.{abs_add, abs_mul, dot_natural, square_not_negative}
use Rattle.space.proofs.Solver.{Term, var, num, add, mul, ring}
use Rattle.space.proofs.Terms.{dots, from, sub}
use Rattle.bern_form.specs.Between.{is_unexcluded_between}
use Rattle.bern_form.specs.Cells.{dot_on_cell, scaled_square}
use Rattle.bern_form.specs.Slab.{SlabSize}
use Rattle.bern_form.proofs.Finer.{ExcludedWith}
use Rattle.sweep_boxes.specs.declared.sweep_interval.SweepInterval.{SweepInterval}
use Rattle.sweep_boxes.specs.BandTerms.{IsHalfWidth, IsNoLonger, IsSideSlack, IsThirdOfSquare}
use Rattle.sweep_boxes.specs.Held.{IsSpread}
use Rattle.sweep_boxes.specs.Intervals.{AreAsLarge, IsBeside, IsNearer, middle_axis, middle_offset, moment_change}
use Rattle.sweep_boxes.specs.Made.{IsSweepInterval}
use Rattle.sweep_boxes.proofs.Across.{all_far_along}
use Rattle.sweep_boxes.proofs.Intervals.{IsUnder, beside_by}
use Rattle.sweep_boxes.proofs.Kept.{some_left, under_of}
use Rattle.sweep_boxes.proofs.Numbers.{most_or_more}
use Rattle.sweep_boxes.proofs.Sweeps.{axes_step, axes_sum, offsets_step, offsets_sum}
use Rattle.sweep_boxes.proofs.Triangle.{square_of_abs}

-- the numbers of a place, by the offset and the axis in the middle, the offset change and the axis change
pub record AlongSide (v x d e side : List ℤ) (r y m n t q s : ℕ) : Type 0 where
  pub root : (dot side side *ℤ pos (r * r + y)) ≤ℤ pos (t * t)
  pub spare : (m + 2 * n) * (m + 2 * n) ≤ 3 * y
  pub change : dot (moment_change v x d e) (moment_change v x d e) ≤ℤ pos (m * m)
  pub bend : dot (cross d e) (cross d e) ≤ℤ pos (n * n)
  pub side_change : unsigned_abs (dot side (moment_change v x d e)) ≤ q
  pub side_bend : unsigned_abs (dot side (cross d e)) ≤ s

along_by : (p q a c side : List ℤ) (S : ℕ) (slab : SlabSize) (r y m n t w s : ℕ) → IsUnder (scaled_square S slab.dia) a c r
    → ¬ ExcludedWith slab S (dot_on_cell p q a c) (dot_on_cell a c a c) (dot_on_cell p q p q)
    → AlongSide (sum p q) (sum a c) (difference q p) (difference c a) side r y m n t w s → unsigned_abs (dot side (cross (sum p q) (sum a c))) ≤ t + (w + s)
along_by p q a c side S slab r y m n t w s under left z =
    let P = sum p q in let A = sum a c in let D = difference q p in let E = difference c a in
    ⊎_elim
    (λ (far : t + (w + s) < unsigned_abs (dot side (cross P A))).
    absurd (left (inr (inr (inr (beside_by p q a c (scaled_square S slab.dia) r under (all_far_along side (cross P A) (moment_change P A D E) (cross D E) r y m n t w s record {
      root = z.root;
      spare = z.spare;
      change = z.change;
      bend = z.bend;
      side_change = z.side_change;
      side_bend = z.side_bend;
      far = far;
    })))))))
    (λ near. near) (cases_lt (t + (w + s)) (unsigned_abs (dot side (cross P A))))

pub along_with : (p q a c v x d e side : List ℤ) (S : ℕ) (slab : SlabSize) (r y m n t w s : ℕ) → sum p q ≡ v → sum a c ≡ x → difference q p ≡ d → difference c a ≡ e
    → IsUnder (scaled_square S slab.dia) a c r → ¬ ExcludedWith slab S (dot_on_cell p q a c) (dot_on_cell a c a c) (dot_on_cell p q p q)
    → AlongSide v x d e side r y m n t w s → unsigned_abs (dot side (cross v x)) ≤ t + (w + s)
along_with p q a c v x d e side S slab r y m n t w s ev ex ed ee under left =
    let held : List ℤ → List ℤ → List ℤ → List ℤ → Type 0 = λ v x d e. AlongSide v x d e side r y m n t w s → unsigned_abs (dot side (cross v x)) ≤ t + (w + s) in
    subst (λ (z : List ℤ). held z x d e) ev (subst (λ (z : List ℤ). held (sum p q) z d e) ex (subst (λ (z : List ℤ). held (sum p q) (sum a c) z e) ed
    (subst (λ (z : List ℤ). held (sum p q) (sum a c) (difference q p) z) ee (along_by p q a c side S slab r y m n t w s under left))))

pub beside_on : (interval : SweepInterval) (m : SweepOf) (k S : ℕ) (slabs : List SlabSize) (p : List ℤ) (widest highest across : ℤ) (side far : List ℤ)
    → IsSweepInterval interval m k S → AreAsLarge widest highest slabs → is_unexcluded_between slabs m p k (k + 1) S ≡ true → IsNearer (middle_offset m p k S) far
    → (g : IsSpread across side interval widest far) → unsigned_abs (dot side (cross (middle_offset m p k S) (middle_axis m k S))) ≤ g.t + (g.q + g.s)
beside_on interval m k S slabs p widest highest across side far of large left near g =
    let one = some_left slabs m p k (k + 1) S left in
    let size = large one.slab one.among in
    let P = offset_at m p (pos k) (pos S) in let Q = offset_at m p (pos (k + 1)) (pos S) in let A = axis_at m (pos k) (pos S) in let C = axis_at m (pos (k + 1)) (pos S) in
    let v = middle_offset m p k S in
    let under : IsUnder (scaled_square S one.slab.dia) A C g.r = record {
      some = square_not_negative (pos S *ℤ one.slab.dia);
      first = under_of interval.scale S one.slab.dia widest interval.longest (dot A A) (pos (g.r * g.r)) of.scale size.thick size.width (dot_natural A) of.first g.wide;
      last = under_of interval.scale S one.slab.dia widest interval.longest (dot C C) (pos (g.r * g.r)) of.scale size.thick size.width (dot_natural C) of.last g.wide;
    } in
    subst (λ (a : List ℤ). unsigned_abs (dot side (cross v a)) ≤ g.t + (g.q + g.s)) of.axis
    (along_with P Q A C v interval.axis interval.offset_change interval.axis_change side S one.slab g.r g.e g.m g.n g.t g.q g.s (offsets_sum m p k S) (axes_sum m k S ∙ sym of.axis) (offsets_step m p k S ∙ sym of.offset_change) (axes_step m k S ∙ sym of.axis_change)
    under one.left record { root = g.root; spare = g.spare; change = g.change v near; bend = g.bend; side_change = g.side_change v near; side_bend = g.side_bend })

-- a third of a number, rounded up
pub third_up : (q n : ℤ) → ((p : ℤ) → (p *ℤ pos 3) ≤ℤ n → p ≤ℤ q) → n ≤ℤ (pos 3 *ℤ (q +ℤ pos 1))
third_up q n last = ⊎_elim (λ most. most) (λ more. absurd (one_less q (last (q +ℤ pos 1) (omega (arith, ints, more))))) (most_or_more n (pos 3 *ℤ (q +ℤ pos 1))) where
  one_less : (q : ℤ) → (q +ℤ pos 1) ≤ℤ q → ⊥
  one_less q h = omega (arith, ints, h)

-- by how far from zero the components are
pub reach_below : (p far w : List ℤ) → IsNearer p far
    → unsigned_abs (dot p w) ≤ (unsigned_abs (at far 0) * unsigned_abs (at w 0) + unsigned_abs (at far 1) * unsigned_abs (at w 1)) + unsigned_abs (at far 2) * unsigned_abs (at w 2)
reach_below p far w near =
    let x = abs_mul (at p 0) (at w 0) (unsigned_abs (at far 0)) (unsigned_abs (at w 0)) (nearer (at p 0) (at far 0) near.x) (omega arith) in
    let y = abs_mul (at p 1) (at w 1) (unsigned_abs (at far 1)) (unsigned_abs (at w 1)) (nearer (at p 1) (at far 1) near.y) (omega arith) in
    let z = abs_mul (at p 2) (at w 2) (unsigned_abs (at far 2)) (unsigned_abs (at w 2)) (nearer (at p 2) (at far 2) near.z) (omega arith) in
    omega (arith, x, y, z, abs_add (at p 0 *ℤ at w 0) (at p 1 *ℤ at w 1), abs_add (at p 0 *ℤ at w 0 +ℤ at p 1 *ℤ at w 1) (at p 2 *ℤ at w 2)) where
      nearer : (x f : ℤ) → pos (unsigned_abs x) ≤ℤ f → unsigned_abs x ≤ unsigned_abs f
      nearer x f h = omega (arith, ints, h, abs_is f)

-- what a moment's change has along the side
abbrev crossed : (ℕ → Term) → (ℕ → Term) → ℕ → Term
crossed p a zero = sub (mul (p 1) (a 2)) (mul (p 2) (a 1))
crossed p a (suc zero) = sub (mul (p 2) (a 0)) (mul (p 0) (a 2))
crossed p a (suc (suc k)) = sub (mul (p 0) (a 1)) (mul (p 1) (a 0))

side_change_is : (side d v e : List ℤ) → dot side (sum d (cross v e)) ≡ dot side d +ℤ dot v (cross e side)
side_change_is side d v e =
    ring (at side 0 ∷ at side 1 ∷ at side 2 ∷ at d 0 ∷ at d 1 ∷ at d 2 ∷ at v 0 ∷ at v 1 ∷ at v 2 ∷ at e 0 ∷ at e 1 ∷ at e 2 ∷ [])
    (dots (from 0) (λ k. add (from 3 k) (crossed (from 6) (from 9) k))) (add (dots (from 0) (from 3)) (dots (from 6) (crossed (from 9) (from 0)))) refl

side_change_below : (w x y s t : ℤ) → w ≡ x +ℤ y → s ≡ pos (unsigned_abs x) → pos (unsigned_abs y) ≤ℤ t → unsigned_abs w ≤ unsigned_abs (s +ℤ t)
side_change_below w x y s t is e h = omega (arith, ints, is, e, h, abs_is w, abs_is x, abs_is y, abs_is (s +ℤ t))

spare_of : (spare change bent third : ℤ) → spare ≡ change +ℤ (bent +ℤ bent) → pos 0 ≤ℤ change → pos 0 ≤ℤ bent → pos 0 ≤ℤ third → (spare *ℤ spare) ≤ℤ (pos 3 *ℤ third)
    → (unsigned_abs change + 2 * unsigned_abs bent) * (unsigned_abs change + 2 * unsigned_abs bent) ≤ 3 * unsigned_abs third
spare_of spare change bent third is c b t h =
    let e : spare ≡ pos (unsigned_abs change + 2 * unsigned_abs bent) = omega (arith, ints, is, c, b, abs_is change, abs_is bent) in
    natural_of (unsigned_abs change + 2 * unsigned_abs bent) third t (subst (λ (z : ℤ). (z *ℤ z) ≤ℤ (pos 3 *ℤ third)) e h) where
      natural_of : (k : ℕ) (third : ℤ) → pos 0 ≤ℤ third → (pos k *ℤ pos k) ≤ℤ (pos 3 *ℤ third) → k * k ≤ 3 * unsigned_abs third
      natural_of k third t h = omega (arith, ints, t, h, abs_is third)

root_by : (square half third reach : ℤ) → pos 0 ≤ℤ third → (square *ℤ (half *ℤ half +ℤ third)) ≤ℤ (reach *ℤ reach)
    → (square *ℤ pos (unsigned_abs half * unsigned_abs half + unsigned_abs third)) ≤ℤ pos (unsigned_abs reach * unsigned_abs reach)
root_by square half third reach t h =
    let e : half *ℤ half +ℤ third ≡ pos (unsigned_abs half * unsigned_abs half + unsigned_abs third) = omega (arith, ints, t, square_of_abs half, abs_is third) in
    subst (λ (z : ℤ). (square *ℤ z) ≤ℤ pos (unsigned_abs reach * unsigned_abs reach)) e (subst (λ (z : ℤ). (square *ℤ (half *ℤ half +ℤ third)) ≤ℤ z) (sym (square_of_abs reach)) h)

-- what a moment changes by along the side in all, from what its computation gives
pub side_slack_by : (side_slack share reached side_bend : ℤ) (interval : SweepInterval) (side far drift bend around : List ℤ) → side_slack ≡ (share +ℤ reached) +ℤ side_bend
    → drift ≡ cross interval.offset_change interval.axis → bend ≡ cross interval.offset_change interval.axis_change → around ≡ cross interval.axis_change side → share ≡ pos (unsigned_abs (dot side drift)) → pos 0 ≤ℤ reached
    → ((p : List ℤ) → IsNearer p far → pos (unsigned_abs (dot p around)) ≤ℤ reached) → side_bend ≡ pos (unsigned_abs (dot side bend)) → IsSideSlack side_slack side interval far
side_slack_by side_slack share reached side_bend interval side far drift bend around is drift_is bend_is around_is share_is some reaches side_bend_is = record {
  q = unsigned_abs (share +ℤ reached);
  s = unsigned_abs (dot side bend);
  total_is = all_of side_slack share reached side_bend (dot side drift) (dot side bend) is share_is some side_bend_is;
  side_change = λ v nearer.
      subst (λ (d : List ℤ). unsigned_abs (dot side (sum d (cross v interval.axis_change))) ≤ unsigned_abs (share +ℤ reached)) drift_is
      (side_change_below (dot side (sum drift (cross v interval.axis_change))) (dot side drift) (dot v (cross interval.axis_change side)) share reached (side_change_is side drift v interval.axis_change) share_is
      (subst (λ (w : List ℤ). pos (unsigned_abs (dot v w)) ≤ℤ reached) around_is (reaches v nearer)));
  side_bend = subst (λ (d : List ℤ). unsigned_abs (dot side d) ≤ unsigned_abs (dot side bend)) bend_is (omega arith);
} where
  all_of : (side_slack share reached side_bend x y : ℤ) → side_slack ≡ (share +ℤ reached) +ℤ side_bend → share ≡ pos (unsigned_abs x) → pos 0 ≤ℤ reached → side_bend ≡ pos (unsigned_abs y) → side_slack ≡ pos (unsigned_abs (share +ℤ reached) + unsigned_abs y)
  all_of side_slack share reached side_bend x y is e some f = omega (arith, ints, is, e, some, f, abs_is (share +ℤ reached))

-- the numbers that a breadth is computed from, for slabs of a half width
pub record Spreading (across half change bent third reach side_slack : ℤ) (interval : SweepInterval) (widest : ℤ) (side far : List ℤ) : Type 0 where
  pub across_is : across ≡ reach +ℤ side_slack
  pub change_some : pos 0 ≤ℤ change
  pub bent_some : pos 0 ≤ℤ bent
  pub third_some : pos 0 ≤ℤ third
  pub reach_some : pos 0 ≤ℤ reach
  pub wide : IsHalfWidth half widest interval
  pub changes : (v : List ℤ) → IsNearer v far → IsNoLonger (moment_change v interval.axis interval.offset_change interval.axis_change) change
  pub bends : IsNoLonger (cross interval.offset_change interval.axis_change) bent
  pub thirds : IsThirdOfSquare third (change +ℤ (bent +ℤ bent))
  pub root : (dot side side *ℤ (half *ℤ half +ℤ third)) ≤ℤ (reach *ℤ reach)
  pub side_slacks : IsSideSlack side_slack side interval far

pub spread_by : (across half change bent third reach side_slack : ℤ) (interval : SweepInterval) (widest : ℤ) (side far : List ℤ)
    → Spreading across half change bent third reach side_slack interval widest side far → IsSpread across side interval widest far
spread_by across half change bent third reach side_slack interval widest side far h = record {
  r = unsigned_abs half;
  m = unsigned_abs change;
  n = unsigned_abs bent;
  e = unsigned_abs third;
  t = unsigned_abs reach;
  q = h.side_slacks.q;
  s = h.side_slacks.s;
  across_is = across_of across reach side_slack (h.side_slacks.q + h.side_slacks.s) h.across_is h.reach_some h.side_slacks.total_is;
  wide = subst (λ (z : ℤ). (((pos interval.scale *ℤ widest) *ℤ (pos interval.scale *ℤ widest)) *ℤ interval.longest) ≤ℤ z) (sym (square_of_abs half)) h.wide;
  change = λ v nearer.
      subst (λ (z : ℤ). dot (moment_change v interval.axis interval.offset_change interval.axis_change) (moment_change v interval.axis interval.offset_change interval.axis_change) ≤ℤ z) (sym (square_of_abs change)) (h.changes v nearer);
  bend = subst (λ (z : ℤ). dot (cross interval.offset_change interval.axis_change) (cross interval.offset_change interval.axis_change) ≤ℤ z) (sym (square_of_abs bent)) h.bends;
  spare = spare_of (change +ℤ (bent +ℤ bent)) change bent third refl h.change_some h.bent_some h.third_some h.thirds;
  root = root_by (dot side side) half third reach h.third_some h.root;
  side_change = h.side_slacks.side_change;
  side_bend = h.side_slacks.side_bend;
} where
  across_of : (across reach side_slack : ℤ) (n : ℕ) → across ≡ reach +ℤ side_slack → pos 0 ≤ℤ reach → side_slack ≡ pos n → across ≡ pos (unsigned_abs reach + n)
  across_of across (pos t) side_slack n is some e = omega (arith, ints, is, e)
  across_of across (negsuc t) side_slack n is some e = absurd (omega (arith, ints, some))

-- along no side there is nothing
pub along_none : (v a : List ℤ) → IsBeside (pos 0 ∷ pos 0 ∷ pos 0 ∷ []) (pos 0) v a
along_none v a = none (at (cross v a) 0) (at (cross v a) 1) (at (cross v a) 2) where
  none : (x y z : ℤ) → pos (unsigned_abs ((pos 0 *ℤ x +ℤ pos 0 *ℤ y) +ℤ pos 0 *ℤ z)) ≤ℤ pos 0
  none x y z =
      let e : (pos 0 *ℤ x +ℤ pos 0 *ℤ y) +ℤ pos 0 *ℤ z ≡ pos 0 = ring (x ∷ y ∷ z ∷ []) (add (add (mul (num (pos 0)) (var 0)) (mul (num (pos 0)) (var 1))) (mul (num (pos 0)) (var 2))) (num (pos 0)) refl in
      subst (λ (w : ℤ). pos (unsigned_abs w) ≤ℤ pos 0) (sym e) (omega (arith, ints))
