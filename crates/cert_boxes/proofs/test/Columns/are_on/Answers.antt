use Rattle.std.proofs.Common.{◌≡◌, ℤ, ◌+◌, ◌*ℤ◌, [], true, take, arith, ap, subst, sym, ◌∙◌}
use Rattle.std.specs.List.{list_all}
use Rattle.std.proofs.lemmas.Bool.{and_from}
use Rattle.std.proofs.lemmas.Int.{to_z-of_z}
use Rattle.std.proofs.lemmas.List.{take_all}
use Rattle.std.proofs.lemmas.List.Folds.{list_all_at, list_all_more}
use mir.Syntax.{w128}
use Rattle.space.specs.Vectors.{at}
use Rattle.ray_boxes.specs.Boxes.{grid_less}
use Rattle.cert_boxes.specs.Sides.{are_all_on, is_row_on}
use Rattle.cert_boxes.proofs.BoxRows.{row_at}
use Rattle.cert_boxes.proofs.test.Columns.are_on.Goals as goal

pub loop-i-preserved : goal.loop-i-preserved
loop-i-preserved c =
    let k = c.args.self.now in let side = c.args.side in let r = c.args.raised.now.c in let f = c.args.limit in let i = c.loop-i.i in
    let range = c.ranges.limit in let same = to_z-of_z w128 f c.ranges.limit in
    let on : c.is_on.result ≡ is_row_on side (at k.first.c i) (at k.middle.c i) (at k.last.c i) (f *ℤ at r i) = simp to_z-of_z at c.is_on.ensures in
    let before = subst (λ (z : ℤ). list_all (are_all_on side) (take i (grid_less r z k.first.c k.middle.c k.last.c)) ≡ true) same c.loop-i.invariant in
    subst (λ (z : ℤ). list_all (are_all_on side) (take (i + 1) (grid_less r z k.first.c k.middle.c k.last.c)) ≡ true) (sym same)
    (list_all_more (are_all_on side) (grid_less r f k.first.c k.middle.c k.last.c) i [] c.loop-i-test.true
    ∙ and_from _ _ before (row_at side r f k.first.c k.middle.c k.last.c i c.loop-i-test.true ∙ sym on ∙ c.if-not-is_on.false))

pub returns-then-not-is_on : goal.returns-then-not-is_on
returns-then-not-is_on c =
    let k = c.args.self.now in let side = c.args.side in let r = c.args.raised.now.c in let f = c.args.limit in let i = c.loop-i.i in
    let range = c.ranges.limit in
    let on : c.is_on.result ≡ is_row_on side (at k.first.c i) (at k.middle.c i) (at k.last.c i) (f *ℤ at r i) = simp to_z-of_z at c.is_on.ensures in
    sym (list_all_at (are_all_on side) (grid_less r f k.first.c k.middle.c k.last.c) i [] c.loop-i-test.true
    (row_at side r f k.first.c k.middle.c k.last.c i c.loop-i-test.true ∙ sym on ∙ c.if-not-is_on.true))

pub returns : goal.returns
returns c =
    let k = c.args.self.now in let side = c.args.side in let r = c.args.raised.now.c in let f = c.args.limit in let i = c.loop-i.i in
    let same = to_z-of_z w128 f c.ranges.limit in
    let all = subst (λ (z : ℤ). list_all (are_all_on side) (take i (grid_less r z k.first.c k.middle.c k.last.c)) ≡ true) same c.loop-i.invariant in
    sym (ap (list_all (are_all_on side)) (sym (take_all i (grid_less r f k.first.c k.middle.c k.last.c) (omega (arith, c.loop-i-test.false)))) ∙ all)
