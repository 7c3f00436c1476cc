use Rattle.std.proofs.Common.{◌^◌, FitsSigned, rules, ap, subst, sym, ◌∙◌}
use Rattle.std.proofs.lemmas.Int.{to_z-of_z}
use mir.Syntax.{w32}
use Rattle.space.specs.Sweeps.{IsSweep}
use Rattle.bern_form.specs.Slab.{IsSlab}
use Rattle.holder_check.proofs.Slabs.{is_possible_mark, is_sure_mark, mark_says_possible, mark_says_sure, some_cells}
use Rattle.holder_check.proofs.point.mark_of_point.Goals as goal

pub returns-in-Removed-clause-sure : goal.returns-in-Removed-clause-sure
returns-in-Removed-clause-sure c =
    let fits : FitsSigned w32 c.holder_reach.result = search rules in
    ap is_sure_mark (sym c.in-Removed.is)
    ∙ mark_says_sure _ c.args.holder.now c.args.sweep.now c.args.point (2 ^ c.args.depth) _ c.plain_mark.result c.holder.view_is
    (to_z-of_z w32 c.holder_reach.result fits ∙ c.holder_reach.ensures) c.plain_mark.ensures.mark

pub returns-in-Removed-clause-possible : goal.returns-in-Removed-clause-possible
returns-in-Removed-clause-possible c =
    let fits : FitsSigned w32 c.holder_reach.result = search rules in
    ap is_possible_mark (sym c.in-Removed.is)
    ∙ mark_says_possible _ c.args.holder.now c.args.sweep.now c.args.point (2 ^ c.args.depth) _ c.plain_mark.result c.holder.view_is
    (to_z-of_z w32 c.holder_reach.result fits ∙ c.holder_reach.ensures) (subst IsSlab c.holder.view_is c.holder.invariant)
    (subst IsSweep c.sweep.view_is c.sweep.invariant) (some_cells c.args.depth) c.plain_mark.ensures.mark

pub returns-in-Possible-clause-sure : goal.returns-in-Possible-clause-sure
returns-in-Possible-clause-sure c =
    let fits : FitsSigned w32 c.holder_reach.result = search rules in
    ap is_sure_mark (sym c.in-Possible.is)
    ∙ mark_says_sure _ c.args.holder.now c.args.sweep.now c.args.point (2 ^ c.args.depth) _ c.plain_mark.result c.holder.view_is
    (to_z-of_z w32 c.holder_reach.result fits ∙ c.holder_reach.ensures) c.plain_mark.ensures.mark

pub returns-in-Possible-clause-possible : goal.returns-in-Possible-clause-possible
returns-in-Possible-clause-possible c =
    let fits : FitsSigned w32 c.holder_reach.result = search rules in
    ap is_possible_mark (sym c.in-Possible.is)
    ∙ mark_says_possible _ c.args.holder.now c.args.sweep.now c.args.point (2 ^ c.args.depth) _ c.plain_mark.result c.holder.view_is
    (to_z-of_z w32 c.holder_reach.result fits ∙ c.holder_reach.ensures) (subst IsSlab c.holder.view_is c.holder.invariant)
    (subst IsSweep c.sweep.view_is c.sweep.invariant) (some_cells c.args.depth) c.plain_mark.ensures.mark

pub returns-in-Clear-clause-sure : goal.returns-in-Clear-clause-sure
returns-in-Clear-clause-sure c =
    let fits : FitsSigned w32 c.holder_reach.result = search rules in
    ap is_sure_mark (sym c.in-Clear.is)
    ∙ mark_says_sure _ c.args.holder.now c.args.sweep.now c.args.point (2 ^ c.args.depth) _ c.plain_mark.result c.holder.view_is
    (to_z-of_z w32 c.holder_reach.result fits ∙ c.holder_reach.ensures) c.plain_mark.ensures.mark

pub returns-in-Clear-clause-possible : goal.returns-in-Clear-clause-possible
returns-in-Clear-clause-possible c =
    let fits : FitsSigned w32 c.holder_reach.result = search rules in
    ap is_possible_mark (sym c.in-Clear.is)
    ∙ mark_says_possible _ c.args.holder.now c.args.sweep.now c.args.point (2 ^ c.args.depth) _ c.plain_mark.result c.holder.view_is
    (to_z-of_z w32 c.holder_reach.result fits ∙ c.holder_reach.ensures) (subst IsSlab c.holder.view_is c.holder.invariant)
    (subst IsSweep c.sweep.view_is c.sweep.invariant) (some_cells c.args.depth) c.plain_mark.ensures.mark
