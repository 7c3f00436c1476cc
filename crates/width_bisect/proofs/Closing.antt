-- The bounds of a point's forms on a whole move, and the mark of the point by the stacks of a cutter.
use Rattle.std.proofs.Common.{◌≡◌, Bool, true, false, ℕ, ◌+◌, ◌*◌, ◌^◌, ◌<◌, ◌≤◌, List, ℤ, pos, ◌+ℤ◌, ◌*ℤ◌, ◌-ℤ◌, unsigned_abs, arith, subst, sym, ap, ◌∙◌, ⊎_elim}
use Rattle.std.proofs.lemmas.Bool.{cases_Bool}
use Rattle.space.specs.Ranges.{IsPoint}
use Rattle.space.specs.Reach.{is_in_reach}
use Rattle.space.specs.Sweeps.{IsSweep, SweepOf, axis_at, offset_at}
use Rattle.space.specs.Vectors.{at}
use Rattle.space.proofs.Naturals.{abs_add, abs_mul, abs_sub}
use Rattle.bern_form.specs.Between.{d_between, n_between, u_between}
use Rattle.bern_form.specs.Forms.{all_negative, product22}
use Rattle.bern_form.specs.Marks.{held_at_sample, some_holds}
use Rattle.bern_form.specs.Sizes.{IsBounded2, axis_limit, offset_limit, scale_limit}
use Rattle.bern_form.specs.Slab.{SlabSize}
use Rattle.bern_form.proofs.Decided.{none_below}
use Rattle.bern_form.proofs.Sizes.{axis_within, offset_within}
use Rattle.axis_cells.specs.declared.mark.Mark.{Mark}
use Rattle.axis_cells.specs.declared.mark.Mark.TheVariants.{Clear}
use Rattle.axis_cells.specs.Marked.{mark_from}
use Rattle.axis_cells.proofs.Bounds.{cross_bounded}
use Rattle.cutter_slabs.specs.Cutter.{CutterSize}
use Rattle.cutter_slabs.specs.Stacks.{inner_stack, outer_stack, reach_of}
use Rattle.cutter_marks.specs.MarkBy.{mark_by}
use Rattle.box_bisect.specs.Between.{IsMarkBetween}
use Rattle.box_bisect.specs.SlabTests.{width_of}
use Rattle.box_bisect.proofs.Marking.{far_mark, mark_is}
use Rattle.box_bisect.proofs.Searching.{dropped}
use Rattle.width_bisect.specs.Forms.{AreWidthForms}
use Rattle.width_bisect.specs.Sizes.{IsWeighted4, height_limit, width_limit}
use Rattle.width_bisect.proofs.Searching.{behind_none, forms_by}

-- products of forms, weighted
sum_small : (a b : ℤ) (m n : ℕ) → unsigned_abs a ≤ m → unsigned_abs b ≤ n → unsigned_abs (a +ℤ b) ≤ m + n
sum_small a b m n h k = let s = abs_add a b in omega arith

product_weighted : (a b : List ℤ) (m n : ℕ) → IsBounded2 m a → IsBounded2 n b → IsWeighted4 (m * n) (product22 a b)
product_weighted a b m n h k =
    let x01 = abs_mul (at a 0) (at b 1) m (2 * n) h.first k.middle in let x10 = abs_mul (at a 1) (at b 0) (2 * m) n h.middle k.first in
    let x02 = abs_mul (at a 0) (at b 2) m n h.first k.last in let x11 = abs_mul (at a 1) (at b 1) (2 * m) (2 * n) h.middle k.middle in let x20 = abs_mul (at a 2) (at b 0) m n h.last k.first in
    let x12 = abs_mul (at a 1) (at b 2) (2 * m) n h.middle k.last in let x21 = abs_mul (at a 2) (at b 1) m (2 * n) h.last k.middle in
    let y1 = sum_small (at a 0 *ℤ at b 1) (at a 1 *ℤ at b 0) (m * (2 * n)) (2 * m * n) x01 x10 in
    let y2 = sum_small (at a 0 *ℤ at b 2) (at a 1 *ℤ at b 1) (m * n) (2 * m * (2 * n)) x02 x11 in
    let z2 = sum_small (at a 0 *ℤ at b 2 +ℤ at a 1 *ℤ at b 1) (at a 2 *ℤ at b 0) (m * n + 2 * m * (2 * n)) (m * n) y2 x20 in
    let y3 = sum_small (at a 1 *ℤ at b 2) (at a 2 *ℤ at b 1) (2 * m * n) (m * (2 * n)) x12 x21 in record {
      c0 = abs_mul (at a 0) (at b 0) m n h.first k.first;
      c1 = omega (arith, y1);
      c2 = omega (arith, z2);
      c3 = omega (arith, y3);
      c4 = abs_mul (at a 2) (at b 2) m n h.last k.last;
    }

four_small : (x y : ℤ) (m : ℕ) → unsigned_abs x ≤ m → unsigned_abs y ≤ m → unsigned_abs (pos 4 *ℤ (x -ℤ y)) ≤ 4 * (m + m)
four_small x y m h k = let s = abs_sub x y in abs_mul (pos 4) (x -ℤ y) 4 (m + m) (omega arith) (omega (arith, s, h, k))

width_weighted : (u n d : List ℤ) (m : ℕ) → IsWeighted4 m (product22 d n) → IsWeighted4 m (product22 u u) → IsWeighted4 (8 * m) (width_of u n d)
width_weighted u n d m h k =
    let x = product22 d n in let y = product22 u u in
    let w0 = four_small (at x 0) (at y 0) m h.c0 k.c0 in let w1 = four_small (at x 1) (at y 1) (4 * m) h.c1 k.c1 in let w2 = four_small (at x 2) (at y 2) (6 * m) h.c2 k.c2 in
    let w3 = four_small (at x 3) (at y 3) (4 * m) h.c3 k.c3 in let w4 = four_small (at x 4) (at y 4) m h.c4 k.c4 in record {
      c0 = omega (arith, w0);
      c1 = omega (arith, w1);
      c2 = omega (arith, w2);
      c3 = omega (arith, w3);
      c4 = omega (arith, w4);
    }

pub record AreSmall (u n width : List ℤ) : Type 0 where
  pub u_small : IsBounded2 height_limit u
  pub n_small : IsBounded2 (3 * (axis_limit * axis_limit)) n
  pub width_small : IsWeighted4 width_limit width

pub forms_small : (u n width : List ℤ) (m : SweepOf) (p : List ℤ) (j k S : ℕ) → IsSweep m → IsPoint p → j ≤ k → k ≤ S → S ≤ scale_limit → AreWidthForms u n width m p j k S → AreSmall u n width
forms_small u n width m p j k S sweep point order within few f =
    let P = offset_at m p (pos j) (pos S) in let Q = offset_at m p (pos k) (pos S) in let A = axis_at m (pos j) (pos S) in let C = axis_at m (pos k) (pos S) in
    let hP = offset_within m p j S sweep point (omega (arith, order, within)) few in let hQ = offset_within m p k S sweep point within few in
    let hA = axis_within m j S sweep (omega (arith, order, within)) few in let hC = axis_within m k S sweep within few in
    let hu = cross_bounded P Q A C offset_limit axis_limit hP hQ hA hC in
    let hn = cross_bounded A C A C axis_limit axis_limit hA hC hA hC in
    let hd = cross_bounded P Q P Q offset_limit offset_limit hP hQ hP hQ in
    let u' = u_between m p j k S in let n' = n_between m j k S in let d' = d_between m p j k S in
    let e : 3 * (offset_limit * offset_limit) * (3 * (axis_limit * axis_limit)) ≡ height_limit * height_limit = omega arith in
    let both = subst (λ k. IsWeighted4 k (product22 d' n')) e (product_weighted d' n' (3 * (offset_limit * offset_limit)) (3 * (axis_limit * axis_limit)) hd hn) in
    let square = product_weighted u' u' height_limit height_limit hu hu in record {
      u_small = subst (IsBounded2 height_limit) (sym f.u_is) hu;
      n_small = subst (IsBounded2 (3 * (axis_limit * axis_limit))) (sym f.n_is) hn;
      width_small = subst (IsWeighted4 width_limit) (sym f.width_is) (width_weighted u' n' d' (height_limit * height_limit) both square);
    }

-- a clear point is clear whether or not it is in reach
no_both : (b : Bool) → b ≡ true → b ≡ false → ⊥
no_both b e f = cc

pub clear_is : (inner outer : List SlabSize) (reach : ℤ) (m : SweepOf) (p : List ℤ) (S : ℕ) → IsMarkBetween Clear inner outer m p 0 S S → Clear ≡ mark_from inner outer reach m p S
clear_is inner outer reach m p S found =
    let none : held_at_sample inner m p S ≡ false = none_below (λ k. some_holds inner m p k S) (S + 1) (λ k l. found.0.none k (omega arith) (omega (arith, l))) in
    ⊎_elim (λ near. mark_is Clear inner outer reach m p S near found)
    (λ far. far_mark inner outer reach m p S far (λ held. absurd (no_both (held_at_sample inner m p S) held none))) (cases_Bool (is_in_reach reach m.from m.to p))

-- the mark by the stacks of a cutter
pub marked_by : (mark : Mark) (c : CutterSize) (slabs : ℕ) (inner : List SlabSize) (m : SweepOf) (p : List ℤ) (S : ℕ) → inner ≡ inner_stack c slabs
    → mark ≡ mark_from inner (outer_stack c slabs) (pos (reach_of c)) m p S → mark ≡ mark_by c slabs m p S
unfolding mark_by
marked_by mark c slabs inner m p S stack is = is ∙ ap (λ l. mark_from l (outer_stack c slabs) (pos (reach_of c)) m p S) stack

-- where the point is behind the tip throughout a stretch no slab of either list holds it or is left there
pub behind_dropped : (inner outer : List SlabSize) (u n width : List ℤ) (m : SweepOf) (p : List ℤ) (S levels j : ℕ) → 0 < S → AreWidthForms u n width m p j (j + 2 ^ levels) S → all_negative u ≡ true
    → IsMarkBetween Clear inner outer m p j (j + 2 ^ levels) S
behind_dropped inner outer u n width m p S levels j some f behind =
    let k = j + 2 ^ levels in let d = d_between m p j k S in let forms = forms_by u n width m p j k S f in
    let one = dropped inner inner u n d m p S levels j some forms (λ i h. h) (behind_none inner S u n d behind) in
    let two = dropped outer outer u n d m p S levels j some forms (λ i h. h) (behind_none outer S u n d behind) in
    (one.0, two.1)
