use Rattle.std.proofs.Common.{◌≡◌, FitsSigned, ap, subst, sym, true, ℕ, pos, length, List, ◌+◌, ◌*◌, ◌≤◌, ◌^◌, ◌∙◌}
use Rattle.std.proofs.lemmas.Int.{to_z-of_z}
use mir.Syntax.{w32}
use Rattle.space.specs.Reach.{is_in_reach}
use Rattle.space.specs.Sweeps.{IsSweep}
use Rattle.bern_form.specs.Marks.{held_at_sample, is_possible_with, some_holds}
use Rattle.bern_form.specs.Slab.{SlabSize}
use Rattle.axis_cells.specs.Marked.{mark_from}
use Rattle.cutter_slabs.specs.Stacks.{inner_stack, reach_of}
use Rattle.cutter_marks.specs.MarkBy.{is_possible_by, mark_by}
use Rattle.cutter_marks.proofs.Decided.{clear_out, removed_held}
use Rattle.box_bisect.specs.Boxes.{undecided_from}
use Rattle.box_bisect.proofs.Marking.{far_mark, mark_is}
use Rattle.box_bisect.proofs.Searching.{some_cells}
use Rattle.box_bisect.proofs.point.mark_point.Goals as goal

pub returns-then-not-in_reach-clause-value : goal.returns-then-not-in_reach-clause-value
unfolding mark_by
returns-then-not-in_reach-clause-value g c =
    let cutter = c.args.stacks.now.cutter in let n = c.args.stacks.now.slabs in
    let m = c.args.sweep.now in let p = c.args.point in let S = 2 ^ c.args.depth in
    let inner = c.inner-inner.result.now in let outer = c.outer-outer.result.now in
    let fits : FitsSigned w32 c.reach-reach.result = record { sfits = c.reach-reach.type_inv } in
    let reach = to_z-of_z w32 c.reach-reach.result fits ∙ c.reach-reach.ensures.value in
    let found = (simp to_z-of_z at c.in_reach.ensures) ∙ ap (λ z. is_in_reach z m.from m.to p) c.reach-reach.ensures.value in
    let sweep = subst IsSweep c.sweep.view_is c.sweep.invariant in
    let both = λ (h : held_at_sample inner m p S ≡ true). subst (λ (l : List SlabSize). is_possible_with l (pos (reach_of cutter)) m p S ≡ true) (sym c.outer-outer.ensures.stack) (c.inner-inner.ensures.possible m p S (some_cells c.args.depth) sweep h) in
    far_mark inner outer (pos (reach_of cutter)) m p S (sym found ∙ c.if-not-in_reach.true) both
    ∙ ap (λ l. mark_from l outer (pos (reach_of cutter)) m p S) c.inner-inner.ensures.stack ∙ ap (λ l. mark_from (inner_stack cutter n) l (pos (reach_of cutter)) m p S) c.outer-outer.ensures.stack

pub returns-then-not-in_reach-clause-clear : goal.returns-then-not-in_reach-clause-clear
returns-then-not-in_reach-clause-clear g c = λ clear.
    let cutter = c.args.stacks.now.cutter in let n = c.args.stacks.now.slabs in
    let m = c.args.sweep.now in let p = c.args.point in let S = 2 ^ c.args.depth in
    let inner = c.inner-inner.result.now in let outer = c.outer-outer.result.now in
    let fits : FitsSigned w32 c.reach-reach.result = record { sfits = c.reach-reach.type_inv } in
    let reach = to_z-of_z w32 c.reach-reach.result fits ∙ c.reach-reach.ensures.value in
    let found = (simp to_z-of_z at c.in_reach.ensures) ∙ ap (λ z. is_in_reach z m.from m.to p) c.reach-reach.ensures.value in
    let sweep = subst IsSweep c.sweep.view_is c.sweep.invariant in
    let both = λ (h : held_at_sample inner m p S ≡ true). subst (λ (l : List SlabSize). is_possible_with l (pos (reach_of cutter)) m p S ≡ true) (sym c.outer-outer.ensures.stack) (c.inner-inner.ensures.possible m p S (some_cells c.args.depth) sweep h) in
    let value = far_mark inner outer (pos (reach_of cutter)) m p S (sym found ∙ c.if-not-in_reach.true) both in
    c.outer-outer.ensures.clear m p S (some_cells c.args.depth) sweep (clear_out inner outer (pos (reach_of cutter)) m p S (sym value))

pub returns-clause-value : goal.returns-clause-value
unfolding mark_by
returns-clause-value g c =
    let cutter = c.args.stacks.now.cutter in let n = c.args.stacks.now.slabs in
    let m = c.args.sweep.now in let p = c.args.point in let S = 2 ^ c.args.depth in
    let inner = c.inner-inner.result.now in let outer = c.outer-outer.result.now in
    let fits : FitsSigned w32 c.reach-reach.result = record { sfits = c.reach-reach.type_inv } in
    let reach = to_z-of_z w32 c.reach-reach.result fits ∙ c.reach-reach.ensures.value in
    let found = (simp to_z-of_z at c.in_reach.ensures) ∙ ap (λ z. is_in_reach z m.from m.to p) c.reach-reach.ensures.value in
    let cells = c.cells_of-scale.ensures.cells in let scale = c.cells_of-scale.result in
    let enclosed = λ (i : ℕ) (h : some_holds inner m p i scale ≡ true). subst (λ (l : List SlabSize). some_holds l m p i scale ≡ true) (sym c.outer-outer.ensures.stack) (c.inner-inner.ensures.enclosed m p i scale h) in
    let marked = c.mark_of_whole.ensures.mark m p c.whole-whole.ensures enclosed in
    let value = mark_is c.mark_of_whole.result inner outer (pos (reach_of cutter)) m p scale (sym found ∙ c.if-not-in_reach.false) marked ∙ ap (mark_from inner outer (pos (reach_of cutter)) m p) cells in
    value
    ∙ ap (λ l. mark_from l outer (pos (reach_of cutter)) m p S) c.inner-inner.ensures.stack ∙ ap (λ l. mark_from (inner_stack cutter n) l (pos (reach_of cutter)) m p S) c.outer-outer.ensures.stack

pub returns-clause-removed : goal.returns-clause-removed
returns-clause-removed g c = λ removed.
    let cutter = c.args.stacks.now.cutter in let n = c.args.stacks.now.slabs in
    let m = c.args.sweep.now in let p = c.args.point in let S = 2 ^ c.args.depth in
    let inner = c.inner-inner.result.now in let outer = c.outer-outer.result.now in
    let fits : FitsSigned w32 c.reach-reach.result = record { sfits = c.reach-reach.type_inv } in
    let reach = to_z-of_z w32 c.reach-reach.result fits ∙ c.reach-reach.ensures.value in
    let found = (simp to_z-of_z at c.in_reach.ensures) ∙ ap (λ z. is_in_reach z m.from m.to p) c.reach-reach.ensures.value in
    let cells = c.cells_of-scale.ensures.cells in let scale = c.cells_of-scale.result in
    let enclosed = λ (i : ℕ) (h : some_holds inner m p i scale ≡ true). subst (λ (l : List SlabSize). some_holds l m p i scale ≡ true) (sym c.outer-outer.ensures.stack) (c.inner-inner.ensures.enclosed m p i scale h) in
    let marked = c.mark_of_whole.ensures.mark m p c.whole-whole.ensures enclosed in
    let value = mark_is c.mark_of_whole.result inner outer (pos (reach_of cutter)) m p scale (sym found ∙ c.if-not-in_reach.false) marked ∙ ap (mark_from inner outer (pos (reach_of cutter)) m p) cells in
    c.inner-inner.ensures.met m p S (some_cells c.args.depth) (removed_held inner outer (pos (reach_of cutter)) m p S (sym value ∙ removed))

pub returns-clause-possible : goal.returns-clause-possible
unfolding is_possible_by
returns-clause-possible g c = λ removed.
    let cutter = c.args.stacks.now.cutter in let n = c.args.stacks.now.slabs in
    let m = c.args.sweep.now in let p = c.args.point in let S = 2 ^ c.args.depth in
    let inner = c.inner-inner.result.now in let outer = c.outer-outer.result.now in
    let fits : FitsSigned w32 c.reach-reach.result = record { sfits = c.reach-reach.type_inv } in
    let reach = to_z-of_z w32 c.reach-reach.result fits ∙ c.reach-reach.ensures.value in
    let found = (simp to_z-of_z at c.in_reach.ensures) ∙ ap (λ z. is_in_reach z m.from m.to p) c.reach-reach.ensures.value in
    let cells = c.cells_of-scale.ensures.cells in let scale = c.cells_of-scale.result in
    let enclosed = λ (i : ℕ) (h : some_holds inner m p i scale ≡ true). subst (λ (l : List SlabSize). some_holds l m p i scale ≡ true) (sym c.outer-outer.ensures.stack) (c.inner-inner.ensures.enclosed m p i scale h) in
    let marked = c.mark_of_whole.ensures.mark m p c.whole-whole.ensures enclosed in
    let value = mark_is c.mark_of_whole.result inner outer (pos (reach_of cutter)) m p scale (sym found ∙ c.if-not-in_reach.false) marked ∙ ap (mark_from inner outer (pos (reach_of cutter)) m p) cells in
    c.inner-inner.ensures.possible m p S (some_cells c.args.depth) (subst IsSweep c.sweep.view_is c.sweep.invariant) (removed_held inner outer (pos (reach_of cutter)) m p S (sym value ∙ removed))

pub returns-clause-clear : goal.returns-clause-clear
returns-clause-clear g c = λ clear.
    let cutter = c.args.stacks.now.cutter in let n = c.args.stacks.now.slabs in
    let m = c.args.sweep.now in let p = c.args.point in let S = 2 ^ c.args.depth in
    let inner = c.inner-inner.result.now in let outer = c.outer-outer.result.now in
    let fits : FitsSigned w32 c.reach-reach.result = record { sfits = c.reach-reach.type_inv } in
    let reach = to_z-of_z w32 c.reach-reach.result fits ∙ c.reach-reach.ensures.value in
    let found = (simp to_z-of_z at c.in_reach.ensures) ∙ ap (λ z. is_in_reach z m.from m.to p) c.reach-reach.ensures.value in
    let cells = c.cells_of-scale.ensures.cells in let scale = c.cells_of-scale.result in
    let enclosed = λ (i : ℕ) (h : some_holds inner m p i scale ≡ true). subst (λ (l : List SlabSize). some_holds l m p i scale ≡ true) (sym c.outer-outer.ensures.stack) (c.inner-inner.ensures.enclosed m p i scale h) in
    let marked = c.mark_of_whole.ensures.mark m p c.whole-whole.ensures enclosed in
    let value = mark_is c.mark_of_whole.result inner outer (pos (reach_of cutter)) m p scale (sym found ∙ c.if-not-in_reach.false) marked ∙ ap (mark_from inner outer (pos (reach_of cutter)) m p) cells in
    c.outer-outer.ensures.clear m p S (some_cells c.args.depth) (subst IsSweep c.sweep.view_is c.sweep.invariant) (clear_out inner outer (pos (reach_of cutter)) m p S (sym value ∙ clear))

pub returns-clause-cost : goal.returns-clause-cost
returns-clause-cost g c =
    let cutter = c.args.stacks.now.cutter in let n = c.args.stacks.now.slabs in
    let m = c.args.sweep.now in let p = c.args.point in let S = 2 ^ c.args.depth in
    let inner = c.inner-inner.result.now in let outer = c.outer-outer.result.now in
    let fits : FitsSigned w32 c.reach-reach.result = record { sfits = c.reach-reach.type_inv } in
    let reach = to_z-of_z w32 c.reach-reach.result fits ∙ c.reach-reach.ensures.value in
    let cells = c.cells_of-scale.ensures.cells in let scale = c.cells_of-scale.result in
    let enclosed = λ (i : ℕ) (h : some_holds inner m p i scale ≡ true). subst (λ (l : List SlabSize). some_holds l m p i scale ≡ true) (sym c.outer-outer.ensures.stack) (c.inner-inner.ensures.enclosed m p i scale h) in
    let cost = c.mark_of_whole.ensures.cost m p c.whole-whole.ensures enclosed in
    subst (λ (l : List SlabSize). c.mark_of_whole.new.steps ≤ c.args.steps.now + length l * (3 + 4 * undecided_from l m p S c.args.depth 0)) c.outer-outer.ensures.stack
    (subst (λ (k : ℕ). c.mark_of_whole.new.steps ≤ c.args.steps.now + length outer * (3 + 4 * undecided_from outer m p k c.args.depth 0)) cells cost)
