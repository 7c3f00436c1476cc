use Rattle.std.proofs.Common.{◌≡◌, ◌^◌, ◌<◌, ◌≤◌, ℕ, ℤ, List, true, false, pos, subst, sym}
use Rattle.space.specs.Sweeps.{IsSweep}
use Rattle.bern_form.specs.Marks.{held_at_sample, is_possible_with}
use Rattle.bern_form.specs.Slab.{SlabSize}
use Rattle.vf_spans.specs.Members.{has}
use Rattle.ray_grid.specs.Lattice.{point_of, points_of}
use Rattle.cutter_slabs.specs.Meets.{MeetsLower, MeetsUpper}
use Rattle.cutter_slabs.specs.Stacks.{inner_stack, outer_stack, reach_of}
use Rattle.cutter_marks.specs.MarkBy.{is_possible_by, is_sure_by}
use Rattle.box_bisect.specs.RayMarks.{flags_along}
use Rattle.box_bisect.proofs.RayMet.{ok_as, out_not_met, sure_met}
use Rattle.box_bisect.proofs.Searching.{some_cells}
use Rattle.box_bisect.proofs.ray.ray_marks.mark_ray.Goals as goal

pub returns-clause-met : goal.returns-clause-met
returns-clause-met g c =
    let cutter = c.args.stacks.now.cutter in let k = c.args.stacks.now.slabs in let m = c.args.sweep.now in let S = 2 ^ c.args.depth in
    let point = point_of c.args.grid.now c.args.ray.now in let n = points_of c.args.grid.now c.args.ray.now.family in
    let met = λ (p : List ℤ) (h : held_at_sample (inner_stack cutter k) m p S ≡ true).
    c.inner-inner.ensures.met m p S (some_cells c.args.depth) (subst (λ (l : List SlabSize). held_at_sample l m p S ≡ true) (sym c.inner-inner.ensures.stack) h) in
    ok_as c.marks_by_halving.result (λ marks. marks.sure ≡ flags_along (λ p. is_sure_by cutter k m p S) point n)
    (λ marks. (l : ℕ) → has marks.sure l ≡ true → MeetsLower cutter m (point l))
    (λ marks same. sure_met cutter k m point S n marks.sure met same) c.marks_by_halving.ensures.sure

pub returns-clause-clear : goal.returns-clause-clear
returns-clause-clear g c =
    let cutter = c.args.stacks.now.cutter in let k = c.args.stacks.now.slabs in let m = c.args.sweep.now in let S = 2 ^ c.args.depth in
    let point = point_of c.args.grid.now c.args.ray.now in let n = points_of c.args.grid.now c.args.ray.now.family in
    let sweep = subst IsSweep c.sweep.view_is c.sweep.invariant in
    let clear = λ (p : List ℤ) (h : is_possible_with (outer_stack cutter k) (pos (reach_of cutter)) m p S ≡ false).
    c.outer-outer.ensures.clear m p S (some_cells c.args.depth) sweep (subst (λ (l : List SlabSize). is_possible_with l (pos (reach_of cutter)) m p S ≡ false) (sym c.outer-outer.ensures.stack) h) in
    ok_as c.marks_by_halving.result (λ marks. marks.possible ≡ flags_along (λ p. is_possible_by cutter k m p S) point n)
    (λ marks. (l : ℕ) → l < n → has marks.possible l ≡ false → ¬ MeetsUpper cutter m (point l))
    (λ marks same. out_not_met cutter k m point S n marks.possible clear same) c.marks_by_halving.ensures.possible
