use Rattle.std.proofs.Common.{◌≡◌, true, ℕ, ◌+◌, ◌^◌, ◌≤◌, List, [], length, ℤ, pos, FitsSigned, arith, refl, subst, sym, ap, ◌∙◌}
use Rattle.std.proofs.lemmas.Int.{to_z-of_z}
use mir.Syntax.{w32}
use Rattle.space.specs.Sweeps.{IsSweep, SweepOf}
use Rattle.bern_form.specs.Marks.{held_at_sample, some_holds}
use Rattle.bern_form.specs.Slab.{SlabSize}
use Rattle.ray_grid.specs.Lattice.{point_of, points_of}
use Rattle.cutter_slabs.specs.Stacks.{inner_stack, outer_stack, reach_of}
use Rattle.axis_cells.specs.declared.mark.Mark.{Mark}
use Rattle.axis_cells.specs.declared.mark.Mark.TheVariants.{Clear}
use Rattle.std.proofs.lemmas.List.{length-replicate}
use Rattle.box_bisect.specs.RayBoxes.{undecided_along}
use Rattle.box_bisect.specs.RayMarks.{AreInReach}
use Rattle.box_bisect.proofs.RayHalves.{whole_box}
use Rattle.box_bisect.proofs.RayRaising.{raised_none}
use Rattle.ray_boxes.proofs.Lines.{ray_line}
use Rattle.box_bisect.proofs.RayWhole.{clear_all, first_cost, marks_of, no_cost, possible_flags, raised_as, raised_nowhere, ray_cost, sure_flags}
use Rattle.box_bisect.proofs.Searching.{some_cells}
use Rattle.box_bisect.proofs.ray.ray_marks.marks_by_halving.Goals as goal

pub returns-then-from-to-clause-sure : goal.returns-then-from-to-clause-sure
returns-then-from-to-clause-sure g c =
    let cutter = c.args.stacks.now.cutter in let k = c.args.stacks.now.slabs in let m = c.args.sweep.now in let depth = c.args.depth in let S = 2 ^ depth in
    let point = point_of c.args.grid.now c.args.ray.now in let n = points_of c.args.grid.now c.args.ray.now.family in let s = c.sweep.inside in
    let a = c.window-from.result.0 in let b = c.window-from.result.1 in
    let fits : FitsSigned w32 c.reach.result = record { sfits = c.reach.type_inv } in
    let near : AreInReach (pos (reach_of cutter)) m point n a b =
    subst (λ (x : SweepOf). AreInReach (pos (reach_of cutter)) x point n a b) c.sweep.view_is
    (subst (λ (r : ℤ). AreInReach r record { from = s.from; to = s.to; axis_from = s.axis_from; axis_to = s.axis_to } point n a b) (to_z-of_z w32 c.reach.result fits ∙ c.reach.ensures.value) c.window-from.ensures.exact) in
    let sweep = subst IsSweep c.sweep.view_is c.sweep.invariant in
    let both = λ (p : List ℤ) (h : held_at_sample (inner_stack cutter k) m p S ≡ true). c.inner-inner.ensures.possible m p S (some_cells depth) sweep (subst (λ (l : List SlabSize). held_at_sample l m p S ≡ true) (sym c.inner-inner.ensures.stack) h) in
    let raised = raised_nowhere (inner_stack cutter k) (outer_stack cutter k) m point S 0 S a b [] c.if-from-to.true in
    let marks = marks_of (inner_stack cutter k) (outer_stack cutter k) (pos (reach_of cutter)) m point S n a b [] [] near both (λ l. refl) raised in
    sure_flags cutter k m point S n [] c.none.result.sure (c.none.ensures.sure_bound ∙ c.points-bound.ensures) c.none.ensures.sure marks

pub returns-then-from-to-clause-possible : goal.returns-then-from-to-clause-possible
returns-then-from-to-clause-possible g c =
    let cutter = c.args.stacks.now.cutter in let k = c.args.stacks.now.slabs in let m = c.args.sweep.now in let depth = c.args.depth in let S = 2 ^ depth in
    let point = point_of c.args.grid.now c.args.ray.now in let n = points_of c.args.grid.now c.args.ray.now.family in let s = c.sweep.inside in
    let a = c.window-from.result.0 in let b = c.window-from.result.1 in
    let fits : FitsSigned w32 c.reach.result = record { sfits = c.reach.type_inv } in
    let near : AreInReach (pos (reach_of cutter)) m point n a b =
    subst (λ (x : SweepOf). AreInReach (pos (reach_of cutter)) x point n a b) c.sweep.view_is
    (subst (λ (r : ℤ). AreInReach r record { from = s.from; to = s.to; axis_from = s.axis_from; axis_to = s.axis_to } point n a b) (to_z-of_z w32 c.reach.result fits ∙ c.reach.ensures.value) c.window-from.ensures.exact) in
    let sweep = subst IsSweep c.sweep.view_is c.sweep.invariant in
    let both = λ (p : List ℤ) (h : held_at_sample (inner_stack cutter k) m p S ≡ true). c.inner-inner.ensures.possible m p S (some_cells depth) sweep (subst (λ (l : List SlabSize). held_at_sample l m p S ≡ true) (sym c.inner-inner.ensures.stack) h) in
    let raised = raised_nowhere (inner_stack cutter k) (outer_stack cutter k) m point S 0 S a b [] c.if-from-to.true in
    let marks = marks_of (inner_stack cutter k) (outer_stack cutter k) (pos (reach_of cutter)) m point S n a b [] [] near both (λ l. refl) raised in
    possible_flags cutter k m point S n [] c.none.result.possible (c.none.ensures.possible_bound ∙ c.points-bound.ensures) c.none.ensures.possible both marks

pub returns-then-not-is_undecided-clause-sure : goal.returns-then-not-is_undecided-clause-sure
returns-then-not-is_undecided-clause-sure g c =
    let cutter = c.args.stacks.now.cutter in let k = c.args.stacks.now.slabs in let m = c.args.sweep.now in let depth = c.args.depth in let S = 2 ^ depth in
    let point = point_of c.args.grid.now c.args.ray.now in let n = points_of c.args.grid.now c.args.ray.now.family in let s = c.sweep.inside in
    let a = c.window-from.result.0 in let b = c.window-from.result.1 in
    let fits : FitsSigned w32 c.reach.result = record { sfits = c.reach.type_inv } in
    let near : AreInReach (pos (reach_of cutter)) m point n a b =
    subst (λ (x : SweepOf). AreInReach (pos (reach_of cutter)) x point n a b) c.sweep.view_is
    (subst (λ (r : ℤ). AreInReach r record { from = s.from; to = s.to; axis_from = s.axis_from; axis_to = s.axis_to } point n a b) (to_z-of_z w32 c.reach.result fits ∙ c.reach.ensures.value) c.window-from.ensures.exact) in
    let sweep = subst IsSweep c.sweep.view_is c.sweep.invariant in
    let both = λ (p : List ℤ) (h : held_at_sample (inner_stack cutter k) m p S ≡ true). c.inner-inner.ensures.possible m p S (some_cells depth) sweep (subst (λ (l : List SlabSize). held_at_sample l m p S ≡ true) (sym c.inner-inner.ensures.stack) h) in
    let inner = c.inner-inner.result.now in let outer = c.outer-outer.result.now in let scale = c.cells_of-scale.result in
    let cells = c.cells_of-scale.ensures.cells in let one = some_cells depth in
    let enclosed = λ (p : List ℤ) (i : ℕ) (held : some_holds inner m p i scale ≡ true). subst (λ (l : List SlabSize). some_holds l m p i scale ≡ true) (sym c.outer-outer.ensures.stack) (c.inner-inner.ensures.enclosed m p i scale held) in
    let raised = raised_as inner outer (inner_stack cutter k) (outer_stack cutter k) m point scale S (0 + S) a b [] [] c.inner-inner.ensures.stack c.outer-outer.ensures.stack cells (omega arith)
    (raised_none inner outer m point scale depth 0 a b [] (ray_line c.args.grid.now c.args.ray.now) (omega (arith, cells, one)) enclosed (sym c.is_undecided.ensures.left ∙ c.if-not-is_undecided.true)) in
    let marks = marks_of (inner_stack cutter k) (outer_stack cutter k) (pos (reach_of cutter)) m point S n a b [] [] near both (λ l. refl) raised in
    sure_flags cutter k m point S n [] c.none-then-not-is_undecided.result.sure (c.none-then-not-is_undecided.ensures.sure_bound ∙ c.points-bound.ensures) c.none-then-not-is_undecided.ensures.sure marks

pub returns-then-not-is_undecided-clause-possible : goal.returns-then-not-is_undecided-clause-possible
returns-then-not-is_undecided-clause-possible g c =
    let cutter = c.args.stacks.now.cutter in let k = c.args.stacks.now.slabs in let m = c.args.sweep.now in let depth = c.args.depth in let S = 2 ^ depth in
    let point = point_of c.args.grid.now c.args.ray.now in let n = points_of c.args.grid.now c.args.ray.now.family in let s = c.sweep.inside in
    let a = c.window-from.result.0 in let b = c.window-from.result.1 in
    let fits : FitsSigned w32 c.reach.result = record { sfits = c.reach.type_inv } in
    let near : AreInReach (pos (reach_of cutter)) m point n a b =
    subst (λ (x : SweepOf). AreInReach (pos (reach_of cutter)) x point n a b) c.sweep.view_is
    (subst (λ (r : ℤ). AreInReach r record { from = s.from; to = s.to; axis_from = s.axis_from; axis_to = s.axis_to } point n a b) (to_z-of_z w32 c.reach.result fits ∙ c.reach.ensures.value) c.window-from.ensures.exact) in
    let sweep = subst IsSweep c.sweep.view_is c.sweep.invariant in
    let both = λ (p : List ℤ) (h : held_at_sample (inner_stack cutter k) m p S ≡ true). c.inner-inner.ensures.possible m p S (some_cells depth) sweep (subst (λ (l : List SlabSize). held_at_sample l m p S ≡ true) (sym c.inner-inner.ensures.stack) h) in
    let inner = c.inner-inner.result.now in let outer = c.outer-outer.result.now in let scale = c.cells_of-scale.result in
    let cells = c.cells_of-scale.ensures.cells in let one = some_cells depth in
    let enclosed = λ (p : List ℤ) (i : ℕ) (held : some_holds inner m p i scale ≡ true). subst (λ (l : List SlabSize). some_holds l m p i scale ≡ true) (sym c.outer-outer.ensures.stack) (c.inner-inner.ensures.enclosed m p i scale held) in
    let raised = raised_as inner outer (inner_stack cutter k) (outer_stack cutter k) m point scale S (0 + S) a b [] [] c.inner-inner.ensures.stack c.outer-outer.ensures.stack cells (omega arith)
    (raised_none inner outer m point scale depth 0 a b [] (ray_line c.args.grid.now c.args.ray.now) (omega (arith, cells, one)) enclosed (sym c.is_undecided.ensures.left ∙ c.if-not-is_undecided.true)) in
    let marks = marks_of (inner_stack cutter k) (outer_stack cutter k) (pos (reach_of cutter)) m point S n a b [] [] near both (λ l. refl) raised in
    possible_flags cutter k m point S n [] c.none-then-not-is_undecided.result.possible (c.none-then-not-is_undecided.ensures.possible_bound ∙ c.points-bound.ensures) c.none-then-not-is_undecided.ensures.possible both marks

pub is_undecided-requires-clause-cell_box : goal.is_undecided-requires-clause-cell_box
is_undecided-requires-clause-cell_box g c =
    whole_box c.args.depth c.window-from.result.0 c.window-from.result.1 c.cells_of-scale.result (points_of c.args.grid.now c.args.ray.now.family) c.requires.depth
    c.cells_of-scale.ensures.cells c.window-from.ensures.order c.if-from-to.false c.window-from.ensures.within

pub mark_children-requires-clause-cell_box : goal.mark_children-requires-clause-cell_box
mark_children-requires-clause-cell_box g c =
    whole_box c.args.depth c.window-from.result.0 c.window-from.result.1 c.cells_of-scale.result (points_of c.args.grid.now c.args.ray.now.family) c.requires.depth
    c.cells_of-scale.ensures.cells c.window-from.ensures.order c.if-from-to.false c.window-from.ensures.within

pub mark_children-requires-clause-left : goal.mark_children-requires-clause-left
mark_children-requires-clause-left g c = sym c.is_undecided.ensures.left ∙ c.if-not-is_undecided.false

pub mark_children-requires-clause-marks : goal.mark_children-requires-clause-marks
mark_children-requires-clause-marks g c =
    let items = c.in_ok-marks.ensures.items_if_clones_equal (λ y h. h) in
    ap (λ (l : List Mark). length l) (c.as_mut_slice-row.ensures.value ∙ items) ∙ length-replicate c.points-bound.result Clear ∙ c.points-bound.ensures

pub returns-then-from-to-clause-cost : goal.returns-then-from-to-clause-cost
returns-then-from-to-clause-cost g c = λ low high reached.
    let outer = outer_stack c.args.stacks.now.cutter c.args.stacks.now.slabs in
    no_cost c.args.steps.now (length outer) (undecided_along outer c.args.sweep.now (point_of c.args.grid.now c.args.ray.now) c.args.depth low high)

pub returns-then-not-is_undecided-clause-cost : goal.returns-then-not-is_undecided-clause-cost
returns-then-not-is_undecided-clause-cost g c = λ low high reached.
    let outer = outer_stack c.args.stacks.now.cutter c.args.stacks.now.slabs in
    first_cost c.outer-outer.result.now outer c.args.steps.now c.is_undecided.new.steps
    (undecided_along outer c.args.sweep.now (point_of c.args.grid.now c.args.ray.now) c.args.depth low high) c.outer-outer.ensures.stack c.is_undecided.ensures.cost

pub returns-in_err-marks-clause-cost : goal.returns-in_err-marks-clause-cost
returns-in_err-marks-clause-cost g c = λ low high reached.
    let outer = outer_stack c.args.stacks.now.cutter c.args.stacks.now.slabs in
    first_cost c.outer-outer.result.now outer c.args.steps.now c.is_undecided.new.steps
    (undecided_along outer c.args.sweep.now (point_of c.args.grid.now c.args.ray.now) c.args.depth low high) c.outer-outer.ensures.stack c.is_undecided.ensures.cost

pub mark_children-requires-clause-as_many : goal.mark_children-requires-clause-as_many
mark_children-requires-clause-as_many g c =
    subst (λ (l : List SlabSize). length l ≤ length c.outer-outer.result.now) (sym c.inner-inner.ensures.stack) (omega (arith, c.outer-outer.ensures.as_many))

pub mark_children-requires-clause-inner : goal.mark_children-requires-clause-inner
mark_children-requires-clause-inner g c = c.inner-inner.ensures.rising

pub mark_children-requires-clause-scale : goal.mark_children-requires-clause-scale
mark_children-requires-clause-scale g c = c.cells_of-scale.ensures.few

pub is_undecided-requires-clause-scale : goal.is_undecided-requires-clause-scale
is_undecided-requires-clause-scale g c = c.cells_of-scale.ensures.few

pub mark_children-requires-clause-ray : goal.mark_children-requires-clause-ray
mark_children-requires-clause-ray g c = c.requires.ray

pub is_undecided-requires-clause-ray : goal.is_undecided-requires-clause-ray
is_undecided-requires-clause-ray g c = c.requires.ray

pub mark_children-requires-clause-enclosed : goal.mark_children-requires-clause-enclosed
mark_children-requires-clause-enclosed g c = λ p i held.
    let m = c.args.sweep.now in let scale = c.cells_of-scale.result in
    subst (λ (l : List SlabSize). some_holds l m p i scale ≡ true) (sym c.outer-outer.ensures.stack) (c.inner-inner.ensures.enclosed m p i scale held)

pub returns-clause-sure : goal.returns-clause-sure
returns-clause-sure g c =
    let cutter = c.args.stacks.now.cutter in let k = c.args.stacks.now.slabs in let m = c.args.sweep.now in let depth = c.args.depth in let S = 2 ^ depth in
    let point = point_of c.args.grid.now c.args.ray.now in let n = points_of c.args.grid.now c.args.ray.now.family in let s = c.sweep.inside in
    let a = c.window-from.result.0 in let b = c.window-from.result.1 in
    let fits : FitsSigned w32 c.reach.result = record { sfits = c.reach.type_inv } in
    let near : AreInReach (pos (reach_of cutter)) m point n a b =
    subst (λ (x : SweepOf). AreInReach (pos (reach_of cutter)) x point n a b) c.sweep.view_is
    (subst (λ (r : ℤ). AreInReach r record { from = s.from; to = s.to; axis_from = s.axis_from; axis_to = s.axis_to } point n a b) (to_z-of_z w32 c.reach.result fits ∙ c.reach.ensures.value) c.window-from.ensures.exact) in
    let sweep = subst IsSweep c.sweep.view_is c.sweep.invariant in
    let both = λ (p : List ℤ) (h : held_at_sample (inner_stack cutter k) m p S ≡ true). c.inner-inner.ensures.possible m p S (some_cells depth) sweep (subst (λ (l : List SlabSize). held_at_sample l m p S ≡ true) (sym c.inner-inner.ensures.stack) h) in
    let inner = c.inner-inner.result.now in let outer = c.outer-outer.result.now in let scale = c.cells_of-scale.result in
    let old = c.as_mut_slice-row.result.now in let new = c.mark_children.new.marks in
    let raised = raised_as inner outer (inner_stack cutter k) (outer_stack cutter k) m point scale S (0 + S) a b old new c.inner-inner.ensures.stack c.outer-outer.ensures.stack c.cells_of-scale.ensures.cells (omega arith)
    c.mark_children.ensures.raised in
    let marks = marks_of (inner_stack cutter k) (outer_stack cutter k) (pos (reach_of cutter)) m point S n a b old new near both (clear_all c.points-bound.result old (c.as_mut_slice-row.ensures.value ∙ (c.in_ok-marks.ensures.items_if_clones_equal (λ y h. h)))) raised in
    let items = c.in_ok-marks.ensures.items_if_clones_equal (λ y h. h) in
    let size : length new ≡ n = c.mark_children.auto.marks ∙ ap (λ (l : List Mark). length l) (c.as_mut_slice-row.ensures.value ∙ items) ∙ length-replicate c.points-bound.result Clear ∙ c.points-bound.ensures in
    sure_flags cutter k m point S n new c.in_ok-sure_of.field-0 (c.in_ok-sure_of.ensures.bound ∙ size)
    c.in_ok-sure_of.ensures.flags marks

pub returns-clause-possible : goal.returns-clause-possible
returns-clause-possible g c =
    let cutter = c.args.stacks.now.cutter in let k = c.args.stacks.now.slabs in let m = c.args.sweep.now in let depth = c.args.depth in let S = 2 ^ depth in
    let point = point_of c.args.grid.now c.args.ray.now in let n = points_of c.args.grid.now c.args.ray.now.family in let s = c.sweep.inside in
    let a = c.window-from.result.0 in let b = c.window-from.result.1 in
    let fits : FitsSigned w32 c.reach.result = record { sfits = c.reach.type_inv } in
    let near : AreInReach (pos (reach_of cutter)) m point n a b =
    subst (λ (x : SweepOf). AreInReach (pos (reach_of cutter)) x point n a b) c.sweep.view_is
    (subst (λ (r : ℤ). AreInReach r record { from = s.from; to = s.to; axis_from = s.axis_from; axis_to = s.axis_to } point n a b) (to_z-of_z w32 c.reach.result fits ∙ c.reach.ensures.value) c.window-from.ensures.exact) in
    let sweep = subst IsSweep c.sweep.view_is c.sweep.invariant in
    let both = λ (p : List ℤ) (h : held_at_sample (inner_stack cutter k) m p S ≡ true). c.inner-inner.ensures.possible m p S (some_cells depth) sweep (subst (λ (l : List SlabSize). held_at_sample l m p S ≡ true) (sym c.inner-inner.ensures.stack) h) in
    let inner = c.inner-inner.result.now in let outer = c.outer-outer.result.now in let scale = c.cells_of-scale.result in
    let old = c.as_mut_slice-row.result.now in let new = c.mark_children.new.marks in
    let raised = raised_as inner outer (inner_stack cutter k) (outer_stack cutter k) m point scale S (0 + S) a b old new c.inner-inner.ensures.stack c.outer-outer.ensures.stack c.cells_of-scale.ensures.cells (omega arith)
    c.mark_children.ensures.raised in
    let marks = marks_of (inner_stack cutter k) (outer_stack cutter k) (pos (reach_of cutter)) m point S n a b old new near both (clear_all c.points-bound.result old (c.as_mut_slice-row.ensures.value ∙ (c.in_ok-marks.ensures.items_if_clones_equal (λ y h. h)))) raised in
    let items = c.in_ok-marks.ensures.items_if_clones_equal (λ y h. h) in
    let size : length new ≡ n = c.mark_children.auto.marks ∙ ap (λ (l : List Mark). length l) (c.as_mut_slice-row.ensures.value ∙ items) ∙ length-replicate c.points-bound.result Clear ∙ c.points-bound.ensures in
    possible_flags cutter k m point S n new c.in_ok-possible_of.field-0 (c.in_ok-possible_of.ensures.bound ∙ size)
    c.in_ok-possible_of.ensures.flags both marks

pub returns-in_err-sure_of-clause-cost : goal.returns-in_err-sure_of-clause-cost
returns-in_err-sure_of-clause-cost g c = λ low high reached.
    let cutter = c.args.stacks.now.cutter in let k = c.args.stacks.now.slabs in let m = c.args.sweep.now in let depth = c.args.depth in let S = 2 ^ depth in
    let point = point_of c.args.grid.now c.args.ray.now in let n = points_of c.args.grid.now c.args.ray.now.family in let s = c.sweep.inside in
    let a = c.window-from.result.0 in let b = c.window-from.result.1 in
    let fits : FitsSigned w32 c.reach.result = record { sfits = c.reach.type_inv } in
    let near : AreInReach (pos (reach_of cutter)) m point n a b =
    subst (λ (x : SweepOf). AreInReach (pos (reach_of cutter)) x point n a b) c.sweep.view_is
    (subst (λ (r : ℤ). AreInReach r record { from = s.from; to = s.to; axis_from = s.axis_from; axis_to = s.axis_to } point n a b) (to_z-of_z w32 c.reach.result fits ∙ c.reach.ensures.value) c.window-from.ensures.exact) in
    let outer = c.outer-outer.result.now in let scale = c.cells_of-scale.result in
    ray_cost outer (outer_stack cutter k) (pos (reach_of cutter)) m point n scale depth a b low high c.args.steps.now c.is_undecided.new.steps c.mark_children.new.steps near reached c.window-from.ensures.order c.if-from-to.false
    c.outer-outer.ensures.stack c.cells_of-scale.ensures.cells (sym c.is_undecided.ensures.left ∙ c.if-not-is_undecided.false) c.is_undecided.ensures.cost c.mark_children.ensures.cost

pub returns-in_err-possible_of-clause-cost : goal.returns-in_err-possible_of-clause-cost
returns-in_err-possible_of-clause-cost g c = λ low high reached.
    let cutter = c.args.stacks.now.cutter in let k = c.args.stacks.now.slabs in let m = c.args.sweep.now in let depth = c.args.depth in let S = 2 ^ depth in
    let point = point_of c.args.grid.now c.args.ray.now in let n = points_of c.args.grid.now c.args.ray.now.family in let s = c.sweep.inside in
    let a = c.window-from.result.0 in let b = c.window-from.result.1 in
    let fits : FitsSigned w32 c.reach.result = record { sfits = c.reach.type_inv } in
    let near : AreInReach (pos (reach_of cutter)) m point n a b =
    subst (λ (x : SweepOf). AreInReach (pos (reach_of cutter)) x point n a b) c.sweep.view_is
    (subst (λ (r : ℤ). AreInReach r record { from = s.from; to = s.to; axis_from = s.axis_from; axis_to = s.axis_to } point n a b) (to_z-of_z w32 c.reach.result fits ∙ c.reach.ensures.value) c.window-from.ensures.exact) in
    let outer = c.outer-outer.result.now in let scale = c.cells_of-scale.result in
    ray_cost outer (outer_stack cutter k) (pos (reach_of cutter)) m point n scale depth a b low high c.args.steps.now c.is_undecided.new.steps c.mark_children.new.steps near reached c.window-from.ensures.order c.if-from-to.false
    c.outer-outer.ensures.stack c.cells_of-scale.ensures.cells (sym c.is_undecided.ensures.left ∙ c.if-not-is_undecided.false) c.is_undecided.ensures.cost c.mark_children.ensures.cost

pub returns-clause-cost : goal.returns-clause-cost
returns-clause-cost g c = λ low high reached.
    let cutter = c.args.stacks.now.cutter in let k = c.args.stacks.now.slabs in let m = c.args.sweep.now in let depth = c.args.depth in let S = 2 ^ depth in
    let point = point_of c.args.grid.now c.args.ray.now in let n = points_of c.args.grid.now c.args.ray.now.family in let s = c.sweep.inside in
    let a = c.window-from.result.0 in let b = c.window-from.result.1 in
    let fits : FitsSigned w32 c.reach.result = record { sfits = c.reach.type_inv } in
    let near : AreInReach (pos (reach_of cutter)) m point n a b =
    subst (λ (x : SweepOf). AreInReach (pos (reach_of cutter)) x point n a b) c.sweep.view_is
    (subst (λ (r : ℤ). AreInReach r record { from = s.from; to = s.to; axis_from = s.axis_from; axis_to = s.axis_to } point n a b) (to_z-of_z w32 c.reach.result fits ∙ c.reach.ensures.value) c.window-from.ensures.exact) in
    let outer = c.outer-outer.result.now in let scale = c.cells_of-scale.result in
    ray_cost outer (outer_stack cutter k) (pos (reach_of cutter)) m point n scale depth a b low high c.args.steps.now c.is_undecided.new.steps c.mark_children.new.steps near reached c.window-from.ensures.order c.if-from-to.false
    c.outer-outer.ensures.stack c.cells_of-scale.ensures.cells (sym c.is_undecided.ensures.left ∙ c.if-not-is_undecided.false) c.is_undecided.ensures.cost c.mark_children.ensures.cost
