use Rattle.std.proofs.Common.{◌≡◌, ℕ, ◌+◌, ◌-◌, ◌*◌, ◌^◌, ◌≤◌, length, set, arith, rules, subst, sym, ◌∙◌}
use Rattle.ray_grid.specs.Lattice.{point_of, points_of}
use Rattle.axis_cells.specs.declared.mark.Mark.{Mark}
use Rattle.box_bisect.specs.RayBoxes.{IsBox, along, is_undecided, middle, weight}
use Rattle.box_bisect.specs.RayMarks.{AreRaised}
use Rattle.box_bisect.proofs.RayCounting.{cost_halves, cost_in_time, cost_on_cell, cost_undecided}
use Rattle.box_bisect.proofs.RayHalves.{early_box, late_box, lower_box, upper_box}
use Rattle.ray_boxes.proofs.Lines.{ray_line}
use Rattle.box_bisect.proofs.RayRaising.{raised_after, raised_beside, raised_cell, raised_none}
use Rattle.box_bisect.proofs.Searching.{halved, some_cells}
use Rattle.box_bisect.proofs.ray.search.+boxes.Goals as goal

pub mark_along-mark_box-requires : goal.mark_along-mark_box-requires
mark_along-mark_box-requires g t c κs within =
    let is = c.requires in
    (omega arith, (within, (is.ray, (is.scale, (is.cell_box, (is.marks, (is.as_many, (is.inner, is.enclosed))))))))

pub mark_along-mark_box-requires-2 : goal.mark_along-mark_box-requires-2
mark_along-mark_box-requires-2 g t c κs within =
    let is = c.requires in let cell_box = c.args.cell_box in
    let box = lower_box cell_box.levels cell_box.first cell_box.from cell_box.to c.args.scale (points_of c.args.grid.now c.args.ray.now.family) c.if-cell_box-lt2.false is.cell_box in
    (omega (arith, c.if-cell_box-lt2.false), (within, (is.ray, (is.scale, (box, (is.marks, (is.as_many, (is.inner, is.enclosed))))))))

pub mark_along-mark_box-requires-3 : goal.mark_along-mark_box-requires-3
mark_along-mark_box-requires-3 g t c κs within =
    let is = c.requires in let cell_box = c.args.cell_box in
    let box = upper_box cell_box.levels cell_box.first cell_box.from cell_box.to c.args.scale (points_of c.args.grid.now c.args.ray.now.family) c.if-cell_box-lt2.false is.cell_box in
    (omega (arith, c.if-cell_box-lt2.false), (within, (is.ray, (is.scale, (box, (c.mark_box-2.auto.marks ∙ is.marks, (is.as_many, (is.inner, is.enclosed))))))))

pub mark_along-returns-clause-raised : goal.mark_along-returns-clause-raised
mark_along-returns-clause-raised g t c =
    let inner = c.args.inner.now in let outer = c.args.outer.now in let m = c.args.sweep.now in let point = point_of c.args.grid.now c.args.ray.now in let S = c.args.scale in let cell_box = c.args.cell_box in
    raised_beside inner outer m point S cell_box.first (cell_box.first + 2 ^ cell_box.levels) cell_box.from (middle cell_box.from cell_box.to) cell_box.to c.args.marks.now c.mark_box-2.new.marks c.mark_box-3.new.marks
    (omega arith) (omega arith) c.mark_box-2.ensures.raised c.mark_box-3.ensures.raised

pub mark_along-returns-clause-cost : goal.mark_along-returns-clause-cost
mark_along-returns-clause-cost g t c = λ halvings few.
    let outer = c.args.outer.now in let m = c.args.sweep.now in let point = point_of c.args.grid.now c.args.ray.now in let S = c.args.scale in let cell_box = c.args.cell_box in
    let many : 2 ≤ cell_box.to - cell_box.from = omega (arith, c.if-cell_box-lt2.false) in
    cost_halves (weight (is_undecided outer m point S) halvings cell_box.levels cell_box.first) cell_box.from cell_box.to c.args.steps.now c.mark_box-2.new.steps c.mark_box-3.new.steps (length outer) many
    (c.mark_box-2.ensures.cost halvings (omega (arith, few, many))) (c.mark_box-3.ensures.cost halvings (omega (arith, few, many)))

pub mark_box-returns-then-not-is_undecided-clause-raised : goal.mark_box-returns-then-not-is_undecided-clause-raised
mark_box-returns-then-not-is_undecided-clause-raised g t c =
    let inner = c.args.inner.now in let outer = c.args.outer.now in let m = c.args.sweep.now in let point = point_of c.args.grid.now c.args.ray.now in let S = c.args.scale in let cell_box = c.args.cell_box in
    let cells = c.requires.cell_box.cells in let one = some_cells cell_box.levels in
    raised_none inner outer m point S cell_box.levels cell_box.first cell_box.from cell_box.to c.args.marks.now (ray_line c.args.grid.now c.args.ray.now) (omega (arith, cells, one)) c.requires.enclosed
    (sym c.is_undecided.ensures.left ∙ c.if-not-is_undecided.true)

pub mark_box-mark_children-requires : goal.mark_box-mark_children-requires
mark_box-mark_children-requires g t c κs within =
    let is = c.requires in let left = sym c.is_undecided.ensures.left ∙ c.if-not-is_undecided.false in
    (omega arith, (within, (is.ray, (is.scale, (is.cell_box, (left, (is.marks, (is.as_many, (is.inner, is.enclosed)))))))))

pub mark_box-returns-clause-cost : goal.mark_box-returns-clause-cost
mark_box-returns-clause-cost g t c = λ halvings few.
    let outer = c.args.outer.now in let m = c.args.sweep.now in let point = point_of c.args.grid.now c.args.ray.now in let S = c.args.scale in let cell_box = c.args.cell_box in
    let one = c.requires.cell_box.some in
    cost_undecided (is_undecided outer m point S) halvings cell_box.levels cell_box.first cell_box.from cell_box.to c.args.steps.now c.is_undecided.new.steps c.mark_children.new.steps (length outer) (omega (arith, one, few))
    (sym c.is_undecided.ensures.left ∙ c.if-not-is_undecided.false) c.is_undecided.ensures.cost (c.mark_children.ensures.cost (halvings - 1) (omega (arith, one, few)))

pub mark_children-returns-then-cell_box-lt2-clause-raised : goal.mark_children-returns-then-cell_box-lt2-clause-raised
mark_children-returns-then-cell_box-lt2-clause-raised g t c =
    let inner = c.args.inner.now in let outer = c.args.outer.now in let m = c.args.sweep.now in let point = point_of c.args.grid.now c.args.ray.now in let S = c.args.scale in let cell_box = c.args.cell_box in
    let marks = c.args.marks.now in let k = cell_box.first + 2 ^ cell_box.levels in
    let one = c.requires.cell_box.some in let within = c.requires.cell_box.within in let size = c.requires.marks in
    subst (λ (x : Mark). AreRaised inner outer m point S cell_box.first k cell_box.from cell_box.to marks (set marks cell_box.from x)) (sym c.greater.ensures)
    (raised_cell inner outer m point S cell_box.levels cell_box.first cell_box.from cell_box.to marks c.mark_on_cell-mark.result c.if-cell_box-eq0.true (omega (arith, one, c.if-cell_box-lt2.true)) (omega (arith, one, within, size))
    c.requires.left c.mark_on_cell-mark.ensures.mark)

pub mark_children-mark_box-requires : goal.mark_children-mark_box-requires
mark_children-mark_box-requires g t c κs within =
    let is = c.requires in let cell_box = c.args.cell_box in let points = points_of c.args.grid.now c.args.ray.now.family in
    let box = lower_box 0 cell_box.first cell_box.from cell_box.to c.args.scale points c.if-cell_box-lt2.false
    (subst (λ (n : ℕ). IsBox n cell_box.first cell_box.from cell_box.to c.args.scale points) c.if-cell_box-eq0.true is.cell_box) in
    (omega (arith, c.if-cell_box-lt2.false), (within, (is.ray, (is.scale, (box, (is.marks, (is.as_many, (is.inner, is.enclosed))))))))

pub mark_children-mark_box-requires-then-cell_box-eq0 : goal.mark_children-mark_box-requires-then-cell_box-eq0
mark_children-mark_box-requires-then-cell_box-eq0 g t c κs within =
    let is = c.requires in let cell_box = c.args.cell_box in let points = points_of c.args.grid.now c.args.ray.now.family in
    let box = upper_box 0 cell_box.first cell_box.from cell_box.to c.args.scale points c.if-cell_box-lt2.false
    (subst (λ (n : ℕ). IsBox n cell_box.first cell_box.from cell_box.to c.args.scale points) c.if-cell_box-eq0.true is.cell_box) in
    (omega (arith, c.if-cell_box-lt2.false), (within, (is.ray, (is.scale, (box, (c.mark_box.auto.marks ∙ is.marks, (is.as_many, (is.inner, is.enclosed))))))))

pub mark_children-returns-then-cell_box-eq0-clause-raised : goal.mark_children-returns-then-cell_box-eq0-clause-raised
mark_children-returns-then-cell_box-eq0-clause-raised g t c =
    let inner = c.args.inner.now in let outer = c.args.outer.now in let m = c.args.sweep.now in let point = point_of c.args.grid.now c.args.ray.now in let S = c.args.scale in let cell_box = c.args.cell_box in
    let one = c.requires.cell_box.some in
    subst (λ (n : ℕ). AreRaised inner outer m point S cell_box.first (cell_box.first + 2 ^ n) cell_box.from cell_box.to c.args.marks.now c.mark_box-then-cell_box-eq0.new.marks) (sym c.if-cell_box-eq0.true)
    (raised_beside inner outer m point S cell_box.first (cell_box.first + 2 ^ 0) cell_box.from (middle cell_box.from cell_box.to) cell_box.to c.args.marks.now c.mark_box.new.marks c.mark_box-then-cell_box-eq0.new.marks
    (omega arith) (omega (arith, one)) c.mark_box.ensures.raised c.mark_box-then-cell_box-eq0.ensures.raised)

pub mark_children-returns-then-cell_box-eq0-clause-cost : goal.mark_children-returns-then-cell_box-eq0-clause-cost
mark_children-returns-then-cell_box-eq0-clause-cost g t c = λ halvings few.
    let outer = c.args.outer.now in let m = c.args.sweep.now in let point = point_of c.args.grid.now c.args.ray.now in let S = c.args.scale in let cell_box = c.args.cell_box in
    let many : 2 ≤ cell_box.to - cell_box.from = omega (arith, c.if-cell_box-lt2.false) in
    cost_on_cell (weight (is_undecided outer m point S) halvings) cell_box.levels cell_box.first cell_box.from cell_box.to c.args.steps.now c.mark_box.new.steps c.mark_box-then-cell_box-eq0.new.steps (length outer) c.if-cell_box-eq0.true many
    (c.mark_box.ensures.cost halvings (omega (arith, few, many))) (c.mark_box-then-cell_box-eq0.ensures.cost halvings (omega (arith, few, many)))

pub mark_children-mark_along-requires : goal.mark_children-mark_along-requires
mark_children-mark_along-requires g t c =
    let cell_box = c.args.cell_box in let more = c.if-cell_box-eq0.false in
    let box : IsBox (cell_box.levels - 1) cell_box.first cell_box.from cell_box.to c.args.scale (points_of c.args.grid.now c.args.ray.now.family) =
    early_box cell_box.levels (cell_box.levels - 1) cell_box.first cell_box.from cell_box.to c.args.scale _ (omega (arith, more)) c.requires.cell_box in
    search rules

pub mark_children-mark_along-requires-2 : goal.mark_children-mark_along-requires-2
mark_children-mark_along-requires-2 g t c =
    let cell_box = c.args.cell_box in let more = c.if-cell_box-eq0.false in
    let box : IsBox (cell_box.levels - 1) (cell_box.first + c.cells_of.result) cell_box.from cell_box.to c.args.scale (points_of c.args.grid.now c.args.ray.now.family) =
    late_box cell_box.levels (cell_box.levels - 1) cell_box.first c.cells_of.result cell_box.from cell_box.to c.args.scale _ (omega (arith, more)) c.cells_of.ensures.cells c.requires.cell_box in
    search rules

pub mark_children-returns-clause-raised : goal.mark_children-returns-clause-raised
mark_children-returns-clause-raised g t c =
    let inner = c.args.inner.now in let outer = c.args.outer.now in let m = c.args.sweep.now in let point = point_of c.args.grid.now c.args.ray.now in let S = c.args.scale in let cell_box = c.args.cell_box in
    let k = cell_box.levels - 1 in let j = cell_box.first in
    let e : cell_box.levels ≡ k + 1 = omega (arith, c.if-cell_box-eq0.false) in
    let end = (halved cell_box.levels k j e).end in
    let late = subst (λ (i : ℕ). AreRaised inner outer m point S (j + i) ((j + i) + 2 ^ k) cell_box.from cell_box.to c.mark_along.new.marks c.mark_along-2.new.marks) c.cells_of.ensures.cells c.mark_along-2.ensures.raised in
    raised_after inner outer m point S j (j + 2 ^ k) (j + 2 ^ cell_box.levels) cell_box.from cell_box.to c.args.marks.now c.mark_along.new.marks c.mark_along-2.new.marks (omega arith) (omega (arith, end))
    c.mark_along.ensures.raised
    (subst (λ (i : ℕ). AreRaised inner outer m point S (j + 2 ^ k) i cell_box.from cell_box.to c.mark_along.new.marks c.mark_along-2.new.marks) end late)

pub mark_children-returns-clause-cost : goal.mark_children-returns-clause-cost
mark_children-returns-clause-cost g t c = λ halvings few.
    let outer = c.args.outer.now in let m = c.args.sweep.now in let point = point_of c.args.grid.now c.args.ray.now in let S = c.args.scale in let cell_box = c.args.cell_box in
    let k = cell_box.levels - 1 in let w = weight (is_undecided outer m point S) halvings in
    let e : cell_box.levels ≡ k + 1 = omega (arith, c.if-cell_box-eq0.false) in
    let late = subst (λ (i : ℕ). c.mark_along-2.new.steps ≤ c.mark_along.new.steps + length outer * (2 + 4 * along (w k (cell_box.first + i)) cell_box.from cell_box.to)) c.cells_of.ensures.cells
    (c.mark_along-2.ensures.cost halvings (omega (arith, few, e))) in
    cost_in_time w cell_box.levels k cell_box.first cell_box.from cell_box.to c.args.steps.now c.mark_along.new.steps c.mark_along-2.new.steps (length outer) e
    (c.mark_along.ensures.cost halvings (omega (arith, few, e))) late
