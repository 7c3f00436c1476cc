use Rattle.std.proofs.Common.{◌≡◌, pos, false, arith, sym, ◌∙◌}
use borrow.Author.Count.{below_more}
use Rattle.bern_form.specs.Marks.{is_unexcluded_on}
use Rattle.bern_form.proofs.Decided.{found_below, none_below}
use Rattle.axis_cells.proofs.Comparisons.{left_at}
use Rattle.axis_cells.proofs.plain.is_unexcluded_on_cell.Goals as goal

pub returns-then-leaves_some : goal.returns-then-leaves_some
returns-then-leaves_some c =
    let cell = c.of_point.result in let m = c.args.sweep.now in let p = c.args.point.now in let S = c.args.scale in
    let here = left_at (pos cell.scale) cell.is_behind cell.n.c cell.height.c cell.width.c m p c.loop-k.k S c.args.slabs.now c.of_point.ensures in
    sym (found_below (λ k. is_unexcluded_on c.args.slabs.now m p k S) S c.loop-k.k c.loop-k-test.true (sym here ∙ sym c.leaves_some.ensures ∙ c.if-leaves_some.true))

pub loop-k-preserved : goal.loop-k-preserved
loop-k-preserved c =
    let cell = c.of_point.result in let m = c.args.sweep.now in let p = c.args.point.now in let S = c.args.scale in
    let here = left_at (pos cell.scale) cell.is_behind cell.n.c cell.height.c cell.width.c m p c.loop-k.k S c.args.slabs.now c.of_point.ensures in
    below_more (λ k. is_unexcluded_on c.args.slabs.now m p k S ≡ false) c.loop-k.k c.loop-k.invariant (sym here ∙ sym c.leaves_some.ensures ∙ c.if-leaves_some.false)

pub returns : goal.returns
returns c = sym (none_below (λ k. is_unexcluded_on c.args.slabs.now c.args.sweep.now c.args.point.now k c.args.scale) c.args.scale (λ k l. c.loop-k.invariant k (omega (arith, c.loop-k-test.false))))
