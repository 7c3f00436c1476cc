use Rattle.std.proofs.Common.{◌≡◌, true, false, ◌∙◌, sym}
use Rattle.std.proofs.lemmas.Int.{to_z-of_z}
use Rattle.space.specs.Reach.{is_in_reach}
use Rattle.bern_form.proofs.Exclusion.{left_nowhere}
use Rattle.axis_cells.proofs.Marks.{far_not_possible, mark_clear, mark_possible, out_not_possible}
use Rattle.axis_cells.proofs.plain.plain_mark.Goals as goal

pub returns-then-not-in_reach-clause-mark : goal.returns-then-not-in_reach-clause-mark
returns-then-not-in_reach-clause-mark c =
    let r = c.ranges.reach in let S = c.cells_of-scale.result in let m = c.args.sweep.now in
    let far : is_in_reach c.args.reach m.from m.to c.args.point ≡ false = sym (simp to_z-of_z at c.in_reach.ensures) ∙ c.if-not-in_reach.true in
    mark_clear c.args.inner.now c.args.outer.now c.args.reach m c.args.point S _ c.cells_of-scale.ensures.cells (sym c.is_held_out_of_reach.ensures ∙ c.if-is_held_out_of_reach.false)
    (far_not_possible c.args.outer.now c.args.reach m c.args.point S far)

pub returns-then-is_unexcluded_on_cell-clause-mark : goal.returns-then-is_unexcluded_on_cell-clause-mark
returns-then-is_unexcluded_on_cell-clause-mark c =
    let r = c.ranges.reach in let S = c.cells_of-scale.result in let m = c.args.sweep.now in
    let near : is_in_reach c.args.reach m.from m.to c.args.point ≡ true = sym (simp to_z-of_z at c.in_reach.ensures) ∙ c.if-not-in_reach.false in
    mark_possible c.args.inner.now c.args.outer.now c.args.reach m c.args.point S _ c.cells_of-scale.ensures.cells (sym c.is_held_at_sample.ensures ∙ c.if-is_held_at_sample.false)
    near (sym c.is_unexcluded_on_cell.ensures ∙ c.if-is_unexcluded_on_cell.true)

pub returns-clause-mark : goal.returns-clause-mark
returns-clause-mark c =
    let r = c.ranges.reach in let S = c.cells_of-scale.result in let m = c.args.sweep.now in
    let near : is_in_reach c.args.reach m.from m.to c.args.point ≡ true = sym (simp to_z-of_z at c.in_reach.ensures) ∙ c.if-not-in_reach.false in
    mark_clear c.args.inner.now c.args.outer.now c.args.reach m c.args.point S _ c.cells_of-scale.ensures.cells (sym c.is_held_at_sample.ensures ∙ c.if-is_held_at_sample.false)
    (out_not_possible c.args.outer.now c.args.reach m c.args.point S near (sym c.is_unexcluded_on_cell.ensures ∙ c.if-is_unexcluded_on_cell.false))

pub returns-clause-clear : goal.returns-clause-clear
returns-clause-clear c = λ _ near.
    left_nowhere c.args.outer.now c.args.sweep.now c.args.point c.cells_of-scale.result c.cells_of-scale.ensures.some (sym c.is_unexcluded_on_cell.ensures ∙ c.if-is_unexcluded_on_cell.false)
