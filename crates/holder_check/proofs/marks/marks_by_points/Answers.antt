use Rattle.std.proofs.Common.{◌^◌, ◌≤◌, ℤ, FitsSigned, rules, arith, ap, subst, ◌∙◌}
use Rattle.std.proofs.lemmas.Int.{to_z-of_z}
use mir.Syntax.{w32}
use Rattle.space.specs.Sweeps.{IsSweep, SweepOf}
use Rattle.bern_form.specs.Slab.{IsSlab}
use Rattle.ray_grid.specs.Lattice.{point_of, points_of}
use Rattle.holder_check.specs.Holder.{is_holder_possible, is_holder_sure}
use Rattle.holder_check.proofs.Flagged.{all_flagged, flags_above, more_flagged, none_flagged}
use Rattle.holder_check.proofs.Rays.{IsWindow, IsWindowBy, out_after, out_before}
use Rattle.holder_check.proofs.Slabs.{out_is_not_sure, some_cells}
use Rattle.holder_check.proofs.marks.marks_by_points.Goals as goal

pub loop-l-init : goal.loop-l-init
loop-l-init c =
    let s = c.args.holder.now in let m = c.args.sweep.now in let S = 2 ^ c.args.depth in
    let point = point_of c.args.grid.now c.args.ray.now in let n = points_of c.args.grid.now c.args.ray.now.family in
    let a = c.window-from.result.0 in let b = c.window-from.result.1 in
    let i = c.sweep.inside in
    let slab = subst IsSlab c.holder.view_is c.holder.invariant in let sweep = subst IsSweep c.sweep.view_is c.sweep.invariant in
    let fits : FitsSigned w32 c.holder_reach.result = search rules in
    let window : IsWindow s m point n a b =
    subst (λ (x : SweepOf). IsWindow s x point n a b) c.sweep.view_is
    (subst (λ (r : ℤ). IsWindowBy r i.from i.to point n a b) (to_z-of_z w32 c.holder_reach.result fits ∙ c.holder_reach.ensures) c.window-from.ensures.exact) in
    let out = out_before s m point S n a b window c.window-from.ensures.order c.window-from.ensures.within in
    record {
      sure = none_flagged (λ k. is_holder_sure s m (point k) S) n c.new-sure.result a (c.new-sure.ensures.bound ∙ c.points-bound.ensures) c.new-sure.ensures.empty
          (λ k l. out_is_not_sure s m (point k) S slab sweep (some_cells c.args.depth) (out k l));
      possible = none_flagged (λ k. is_holder_possible s m (point k) S) n c.new-possible.result a (c.new-possible.ensures.bound ∙ c.points-bound.ensures) c.new-possible.ensures.empty out;
    }

pub push_if-requires-clause-above : goal.push_if-requires-clause-above
push_if-requires-clause-above c =
    let s = c.args.holder.now in let m = c.args.sweep.now in let S = 2 ^ c.args.depth in
    let point = point_of c.args.grid.now c.args.ray.now in let n = points_of c.args.grid.now c.args.ray.now.family in
    flags_above (λ k. is_holder_sure s m (point k) S) n c.loop-l.sure c.loop-l.l c.loop-l.invariant.sure

pub push_if-requires-in-loop-l-clause-above : goal.push_if-requires-in-loop-l-clause-above
push_if-requires-in-loop-l-clause-above c =
    let s = c.args.holder.now in let m = c.args.sweep.now in let S = 2 ^ c.args.depth in
    let point = point_of c.args.grid.now c.args.ray.now in let n = points_of c.args.grid.now c.args.ray.now.family in
    flags_above (λ k. is_holder_possible s m (point k) S) n c.loop-l.possible c.loop-l.l c.loop-l.invariant.possible

pub loop-l-preserved : goal.loop-l-preserved
loop-l-preserved c =
    let s = c.args.holder.now in let m = c.args.sweep.now in let S = 2 ^ c.args.depth in
    let point = point_of c.args.grid.now c.args.ray.now in let n = points_of c.args.grid.now c.args.ray.now.family in
    let mark = c.mark_of_point-mark in record {
      sure = more_flagged (λ k. is_holder_sure s m (point k) S) n c.loop-l.sure c.push_if.new.set c.loop-l.l mark.result.sure
          (mark.ensures.sure ∙ ap (λ p. is_holder_sure s m p S) c.point.ensures.position) c.loop-l.invariant.sure c.in_ok-push_if.ensures.bound c.in_ok-push_if.ensures.added;
      possible = more_flagged (λ k. is_holder_possible s m (point k) S) n c.loop-l.possible c.push_if-in-loop-l.new.set c.loop-l.l mark.result.possible
          (mark.ensures.possible ∙ ap (λ p. is_holder_possible s m p S) c.point.ensures.position) c.loop-l.invariant.possible c.in_ok-push_if-2.ensures.bound c.in_ok-push_if-2.ensures.added;
    }

pub returns-clause-sure : goal.returns-clause-sure
returns-clause-sure c =
    let s = c.args.holder.now in let m = c.args.sweep.now in let S = 2 ^ c.args.depth in
    let point = point_of c.args.grid.now c.args.ray.now in let n = points_of c.args.grid.now c.args.ray.now.family in
    let a = c.window-from.result.0 in let b = c.window-from.result.1 in
    let i = c.sweep.inside in
    let slab = subst IsSlab c.holder.view_is c.holder.invariant in let sweep = subst IsSweep c.sweep.view_is c.sweep.invariant in
    let fits : FitsSigned w32 c.holder_reach.result = search rules in
    let window : IsWindow s m point n a b =
    subst (λ (x : SweepOf). IsWindow s x point n a b) c.sweep.view_is
    (subst (λ (r : ℤ). IsWindowBy r i.from i.to point n a b) (to_z-of_z w32 c.holder_reach.result fits ∙ c.holder_reach.ensures) c.window-from.ensures.exact) in
    let last : b ≤ c.loop-l.l = search rules in
    all_flagged (λ k. is_holder_sure s m (point k) S) n c.loop-l.sure c.loop-l.l c.loop-l.invariant.sure
    (λ k l lt. out_is_not_sure s m (point k) S slab sweep (some_cells c.args.depth) (out_after s m point S n a b window k (omega (arith, l, last)) lt))

pub returns-clause-possible : goal.returns-clause-possible
returns-clause-possible c =
    let s = c.args.holder.now in let m = c.args.sweep.now in let S = 2 ^ c.args.depth in
    let point = point_of c.args.grid.now c.args.ray.now in let n = points_of c.args.grid.now c.args.ray.now.family in
    let a = c.window-from.result.0 in let b = c.window-from.result.1 in
    let i = c.sweep.inside in
    let fits : FitsSigned w32 c.holder_reach.result = search rules in
    let window : IsWindow s m point n a b =
    subst (λ (x : SweepOf). IsWindow s x point n a b) c.sweep.view_is
    (subst (λ (r : ℤ). IsWindowBy r i.from i.to point n a b) (to_z-of_z w32 c.holder_reach.result fits ∙ c.holder_reach.ensures) c.window-from.ensures.exact) in
    let last : b ≤ c.loop-l.l = search rules in
    all_flagged (λ k. is_holder_possible s m (point k) S) n c.loop-l.possible c.loop-l.l c.loop-l.invariant.possible
    (λ k l lt. out_after s m point S n a b window k (omega (arith, l, last)) lt)
