use Rattle.std.proofs.Common.{◌≡◌, true, ◌+◌, ◌^◌, ◌<◌, ◌++◌, ◌∷◌, [], ℕ, ℤ, List, length, take, get_or, arith, subst, sym}
use Rattle.bern_form.specs.Between.{is_unexcluded_between}
use Rattle.bern_form.specs.Slab.{SlabSize}
use Rattle.sweep_boxes.specs.declared.point_box.PointBox.{PointBox}
use Rattle.sweep_boxes.specs.Boxes.{IsInBox}
use Rattle.sweep_boxes.specs.Intervals.{AreAsLarge, AreFrom}
use Rattle.sweep_boxes.proofs.Largest.{one_box}
use Rattle.sweep_boxes.proofs.boxes.push_parts.Goals as goal

pub loop-cell-preserved : goal.loop-cell-preserved
loop-cell-preserved c =
    let holds : ℕ → PointBox → Type 0 = λ n box. (slabs : List SlabSize) (p : List ℤ) → AreAsLarge c.args.size.now.widest c.args.size.now.highest slabs → AreFrom c.args.size.now.lowest slabs → IsInBox c.args.region.now p
    → is_unexcluded_between slabs c.args.sweep.now p n (n + 1) (2 ^ c.args.level) ≡ true → IsInBox box p in
    let before = c.loop-cell.invariant in
    let items : c.push.new.self.items ≡ c.loop-cell.boxes.items ++ c.part_box.result ∷ [] = c.in_ok-push.ensures.items in
    let after = one_box c.loop-cell.boxes.items c.args.boxes.now.items c.loop-cell.cell c.part_box.result holds before.0 before.1
    (λ n d l slabs p large begin inside left. before.2 slabs n p d large begin l inside left)
    (λ slabs p large begin inside left. c.part_box.ensures.kept slabs p large begin inside left) in
    let moved = subst (λ (list : List PointBox). (length list ≡ length c.args.boxes.now.items + (c.loop-cell.cell + 1)) × (take (length c.args.boxes.now.items) list ≡ c.args.boxes.now.items)
    × ((n : ℕ) (d : PointBox) → n < c.loop-cell.cell + 1 → holds n (get_or list (length c.args.boxes.now.items + n) d))) (sym items) after in
    (moved.0, moved.1, λ slabs n p d large begin l inside left. moved.2 n d l slabs p large begin inside left)

pub returns-clause-cover : goal.returns-clause-cover
returns-clause-cover c slabs large begin =
    let all = c.loop-cell.invariant in
    let whole : c.loop-cell.cell ≡ 2 ^ c.args.level = omega (arith, c.loop-cell-test.false, c.parts_of-cell-end.ensures.parts, c.loop-cell.auto.cell-end) in
    record {
      long = subst (λ (n : ℕ). length c.loop-cell.boxes.items ≡ length c.args.boxes.now.items + n) whole all.0;
      each = λ n p d l inside left. all.2 slabs n p d large begin (subst (λ (k : ℕ). n < k) (sym whole) l) inside left;
    }
