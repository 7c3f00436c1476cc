use Rattle.std.proofs.Common.{FitsSigned, rules, arith, ap, subst, sym, ℕ, pos, ◌≤◌, ◌<◌, ◌^◌, ◌∙◌}
use Rattle.std.proofs.lemmas.Int.{to_z-of_z}
use Rattle.std.proofs.Math.Pow.{pow_mono}
use mir.Syntax.{w32}
use Rattle.space.specs.Sweeps.{IsSweep}
use Rattle.axis_cells.specs.Marked.{mark_from}
use Rattle.cutter_slabs.specs.Stacks.{inner_stack, reach_of}
use Rattle.cutter_marks.specs.MarkBy.{is_possible_by, mark_by}
use Rattle.cutter_marks.proofs.Decided.{clear_out, removed_held}
use Rattle.cutter_marks.proofs.cutter_mark.mark_of.Goals as goal

some_cells : (depth : ℕ) → 0 < 2 ^ depth
some_cells depth = let some : 2 ^ 0 ≤ 2 ^ depth = pow_mono {i = 0} {j = depth} (omega arith) in some

pub returns-clause-value : goal.returns-clause-value
unfolding mark_by
returns-clause-value c =
    let cutter = c.args.stacks.now.cutter in let n = c.args.stacks.now.slabs in
    let m = c.args.sweep.now in let p = c.args.point in let S = 2 ^ c.args.depth in
    let fits : FitsSigned w32 c.reach-reach.result = search rules in
    let reach = to_z-of_z w32 c.reach-reach.result fits ∙ c.reach-reach.ensures.value in
    c.plain_mark.ensures.mark ∙ ap (λ r. mark_from c.inner-inner.result.now c.outer-outer.result.now r m p S) reach
    ∙ ap (λ l. mark_from l c.outer-outer.result.now (pos (reach_of cutter)) m p S) c.inner-inner.ensures.stack
    ∙ ap (λ l. mark_from (inner_stack cutter n) l (pos (reach_of cutter)) m p S) c.outer-outer.ensures.stack

pub returns-clause-removed : goal.returns-clause-removed
returns-clause-removed c = λ removed.
    c.inner-inner.ensures.met c.args.sweep.now c.args.point (2 ^ c.args.depth) (some_cells c.args.depth)
    (removed_held c.inner-inner.result.now c.outer-outer.result.now _ c.args.sweep.now c.args.point (2 ^ c.args.depth) (sym c.plain_mark.ensures.mark ∙ removed))

pub returns-clause-possible : goal.returns-clause-possible
unfolding is_possible_by
returns-clause-possible c = λ removed.
    c.inner-inner.ensures.possible c.args.sweep.now c.args.point (2 ^ c.args.depth) (some_cells c.args.depth) (subst IsSweep c.sweep.view_is c.sweep.invariant)
    (removed_held c.inner-inner.result.now c.outer-outer.result.now _ c.args.sweep.now c.args.point (2 ^ c.args.depth) (sym c.plain_mark.ensures.mark ∙ removed))

pub returns-clause-clear : goal.returns-clause-clear
returns-clause-clear c = λ clear.
    let fits : FitsSigned w32 c.reach-reach.result = search rules in
    let reach = to_z-of_z w32 c.reach-reach.result fits ∙ c.reach-reach.ensures.value in
    c.outer-outer.ensures.clear c.args.sweep.now c.args.point (2 ^ c.args.depth) (some_cells c.args.depth) (subst IsSweep c.sweep.view_is c.sweep.invariant)
    (clear_out c.inner-inner.result.now c.outer-outer.result.now (pos (reach_of c.args.stacks.now.cutter)) c.args.sweep.now c.args.point (2 ^ c.args.depth)
    (ap (λ r. mark_from c.inner-inner.result.now c.outer-outer.result.now r c.args.sweep.now c.args.point (2 ^ c.args.depth)) (sym reach) ∙ sym c.plain_mark.ensures.mark ∙ clear))
