use Rattle.std.proofs.Common.{◌≡◌, ℕ, ◌^◌, ◌<◌, false, length, IsTrue, subst}
use Rattle.space.specs.Sweeps.{IsSweep}
use Rattle.bern_form.specs.Slab.{IsSlab}
use Rattle.vf_spans.specs.Members.{has}
use Rattle.ray_grid.specs.Lattice.{point_of, points_of}
use Rattle.holder_check.specs.Holder.{HolderMeets, is_holder_possible, is_holder_sure}
use Rattle.holder_check.proofs.Rays.{clear_flags_not_met, ok_as, ok_as_of_three, ok_as_of_two, sure_flags_met, sure_flags_possible}
use Rattle.holder_check.proofs.Slabs.{some_cells}
use Rattle.holder_check.proofs.marks.holder_marks.Goals as goal

pub returns-clause-included : goal.returns-clause-included
returns-clause-included c =
    let s = c.args.holder.now in let m = c.args.sweep.now in let S = 2 ^ c.args.depth in
    let point = point_of c.args.grid.now c.args.ray.now in let n = points_of c.args.grid.now c.args.ray.now.family in
    ok_as_of_three c.marks_by_points.result (λ marks. length marks.sure ≡ n) (λ marks. (l : ℕ) → l < n → has marks.sure l ≡ is_holder_sure s m (point l) S)
    (λ marks. (l : ℕ) → l < n → has marks.possible l ≡ is_holder_possible s m (point l) S) (λ marks. (l : ℕ) → IsTrue (has marks.sure l) → IsTrue (has marks.possible l))
    (λ marks size are may. sure_flags_possible s m point S n marks.sure marks.possible (subst IsSlab c.holder.view_is c.holder.invariant)
    (subst IsSweep c.sweep.view_is c.sweep.invariant) (some_cells c.args.depth) size are may)
    c.marks_by_points.ensures.bound_sure c.marks_by_points.ensures.sure c.marks_by_points.ensures.possible

pub returns-clause-met : goal.returns-clause-met
returns-clause-met c =
    let s = c.args.holder.now in let m = c.args.sweep.now in let S = 2 ^ c.args.depth in
    let point = point_of c.args.grid.now c.args.ray.now in let n = points_of c.args.grid.now c.args.ray.now.family in
    ok_as_of_two c.marks_by_points.result (λ marks. length marks.sure ≡ n) (λ marks. (l : ℕ) → l < n → has marks.sure l ≡ is_holder_sure s m (point l) S)
    (λ marks. (l : ℕ) → IsTrue (has marks.sure l) → HolderMeets s m (point l))
    (λ marks size are. sure_flags_met s m point S n marks.sure (some_cells c.args.depth) size are)
    c.marks_by_points.ensures.bound_sure c.marks_by_points.ensures.sure

pub returns-clause-clear : goal.returns-clause-clear
returns-clause-clear c =
    let s = c.args.holder.now in let m = c.args.sweep.now in let S = 2 ^ c.args.depth in
    let point = point_of c.args.grid.now c.args.ray.now in let n = points_of c.args.grid.now c.args.ray.now.family in
    ok_as c.marks_by_points.result (λ marks. (l : ℕ) → l < n → has marks.possible l ≡ is_holder_possible s m (point l) S)
    (λ marks. (l : ℕ) → l < n → has marks.possible l ≡ false → ¬ HolderMeets s m (point l))
    (λ marks may. clear_flags_not_met s m point S n marks.possible (subst IsSlab c.holder.view_is c.holder.invariant)
    (subst IsSweep c.sweep.view_is c.sweep.invariant) (some_cells c.args.depth) may)
    c.marks_by_points.ensures.possible
