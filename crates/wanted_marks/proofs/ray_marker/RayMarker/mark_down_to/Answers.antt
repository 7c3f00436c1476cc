use Rattle.std.proofs.Common.{◌≡◌, ◌+◌, Option, arith, subst, sym, ◌∙◌}
use Rattle.std.specs.Option.{IfSome}
use Rattle.std.proofs.lemmas.Bool.{and_parts}
use Rattle.vf_spans.proofs.HighestBit.{at_most}
use Rattle.wanted_marks.specs.declared.held.Held.{Held}
use Rattle.wanted_marks.proofs.ray_marker.RayMarker.mark_down_to.Goals as goal

pub returns-then-is_run-clause-progress : goal.returns-then-is_run-clause-progress
returns-then-is_run-clause-progress c = λ wanted before.
    let first = c.args.first in let l = c.loop-progress in let b = c.highest_bit-b in
    c.with_rest_removed.ensures.progress c.args.self.now first c.args.sure_only
    (λ k below set.
    let was = (and_parts _ _ (sym (c.mark_one.ensures.rest k below) ∙ set)).0 in
    let at = subst (λ (o : Option Held). IfSome o (λ x. x.index ≡ first + b.result)) c.in-Some.is c.mark_one.ensures.index in let top = at_most l.progress.rest b.result k b.ensures.highest was in
    c.is_run.ensures c.if-is_run.true (first + k) (c.requires.above k below (l.invariant.fewer k below was)) (omega (arith, at, top)))
    wanted (c.mark_one.ensures.progress wanted (l.invariant.progress wanted before))
