use Rattle.std.proofs.Common.{◌+◌, ◌-◌, arith, refl, ap, subst, sym, ltb, ◌∙◌}
use Rattle.std.proofs.lemmas.Bool.{and_parts, ltb-true}
use Rattle.vf_spans.specs.Words.{has_bit}
use Rattle.wanted_marks.specs.ReadyRay.{IsReadyRay}
use Rattle.wanted_marks.proofs.OnRuns.{held_first_on}
use Rattle.wanted_marks.proofs.BitLemmas.{none_set}
use Rattle.wanted_marks.proofs.ray_marker.RayMarker.first_run_bits.Goals as goal

pub held_first-requires : goal.held_first-requires
held_first-requires c =
    let r = c.args.self.now in let top = c.highest_bit in
    let ready = subst (IsReadyRay c.self.inside.line) c.self.view_is c.self.invariant in
    let is = ready.line_of in
    let low = c.requires.above top.result top.ensures.within top.ensures.set in let high = c.requires.on_ray top.result top.ensures.within top.ensures.set in
    is.fits (c.args.first + c.args.b) (omega (arith, low, high))

pub last_of_run-last-requires-clause-low : goal.last_of_run-last-requires-clause-low
last_of_run-last-requires-clause-low c =
    let r = c.args.self.now in let top = c.highest_bit in let held = c.in-Some in
    let ready = subst (IsReadyRay c.self.inside.line) c.self.view_is c.self.invariant in
    let is = ready.line_of in
    let low = c.requires.above top.result top.ensures.within top.ensures.set in let high = c.requires.on_ray top.result top.ensures.within top.ensures.set in
    held_first_on c.self.inside.line r c.self.inside.mover.now held.low (c.args.first + c.args.b) (ap (λ x. x.sweep) c.self.view_is) is (omega (arith, low, high)) held.ensures.index held.ensures.held

pub returns-in_default-clause-among : goal.returns-in_default-clause-among
returns-in_default-clause-among c = λ k below set. none_set 0 k refl set

pub returns-in_default-clause-sure : goal.returns-in_default-clause-sure
returns-in_default-clause-sure c = λ k below set. none_set 0 k refl set

pub returns-clause-among : goal.returns-clause-among
returns-clause-among c = λ k below set.
    let n = c.last_of_run-last.result - c.args.first + 1 in (and_parts (has_bit c.args.rest k) (ltb k n) (sym (c.bits_below.ensures k below) ∙ set)).0

pub returns-clause-sure : goal.returns-clause-sure
returns-clause-sure c = λ k below set.
    let run = c.last_of_run-last in let n = run.result - c.args.first + 1 in
    let both = and_parts (has_bit c.args.rest k) (ltb k n) (sym (c.bits_below.ensures k below) ∙ set) in
    let from = c.requires.above k below both.0 in let to = ltb-true k n both.1 in let index = c.in-Some.ensures.index in
    run.ensures.run (c.args.first + k) (omega (arith, index, from)) (omega (arith, index, to, run.ensures.from))
