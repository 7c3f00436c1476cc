-- Each body adds its part to the set: nothing where that is empty or lies before the end, else what lies beyond it.
use Rattle.std.proofs.Common.{◌≡◌, ◌<◌, ◌≤◌, ◌||◌, ◌&&◌, ◌∙◌, max, leb, ltb, ℕ, List, arith, ap, sym, subst}
use Rattle.std.proofs.lemmas.List.{take_all}
use Rattle.vf_spans.specs.Members.{has}
use Rattle.ray_shapes.specs.Lines.{position}
use Rattle.ray_shapes.specs.Planes.{in_bodies}
use Rattle.ray_shapes.proofs.Covering.{empty_part, nothing_new, beyond_end, below_push, full_push}
use Rattle.ray_shapes.proofs.MoreBodies.{body_more}
use Rattle.ray_shapes.proofs.fill.set_in_turn.Goals.{then-end-lo, else-end-lo}
use Rattle.ray_shapes.proofs.fill.set_in_turn.Goals as goal

pub loop-body-preserved-then-part : goal.loop-body-preserved-then-part
loop-body-preserved-then-part c =
    let line = c.args.line.now in let part = c.body_part-part.result in let inv = c.loop-body.invariant in
    record {
      bound = inv.bound;
      below = inv.below;
      held = λ i.
          body_more c.args.bodies.now c.loop-body.body-index line.points i c.body-item.result part (position line.family line.first line.step i) _ _
          c.loop-body-test.true c.body-item.is (c.body_part-part.ensures.exact i) (inv.held i) (empty_part i part (has c.loop-body.set i) c.if-part.true);
      full = inv.full;
    }

pub loop-body-preserved-then-lo-part : goal.loop-body-preserved-then-lo-part
loop-body-preserved-then-lo-part c =
    let line = c.args.line.now in let part = c.body_part-part.result in let inv = c.loop-body.invariant in let end = c.loop-body.end in
    let beyond : part.hi ≤ max part.lo end = subst (λ (n : ℕ). part.hi ≤ n) c.max-lo.ensures c.if-lo-part.true in
    record {
      bound = inv.bound;
      below = inv.below;
      held = λ i.
          body_more c.args.bodies.now c.loop-body.body-index line.points i c.body-item.result part (position line.family line.first line.step i) _ _
          c.loop-body-test.true c.body-item.is (c.body_part-part.ensures.exact i) (inv.held i)
          (nothing_new i c.loop-body.first end part (has c.loop-body.set i) c.if-part-first.false (inv.full i) beyond);
      full = inv.full;
    }

pub loop-body-preserved : goal.loop-body-preserved
loop-body-preserved c =
    let line = c.args.line.now in let part = c.body_part-part.result in let inv = c.loop-body.invariant in let end = c.loop-body.end in
    let lo = c.max-lo.result in let pushed = c.in_ok-push_range.ensures.added in
    let is_max : lo ≡ max part.lo end = c.max-lo.ensures in
    let beyond : lo < part.hi = c.if-lo-part.false in
    record {
      bound = c.in_ok-push_range.ensures.bound ∙ inv.bound;
      below = λ i t. below_push (has c.loop-body.set i) (has c.push_range.new.self i) i lo part.hi end (pushed i) (inv.below i) (omega arith) t;
      held = λ i.
          body_more c.args.bodies.now c.loop-body.body-index line.points i c.body-item.result part (position line.family line.first line.step i) _ _
          c.loop-body-test.true c.body-item.is (c.body_part-part.ensures.exact i) (inv.held i)
          (beyond_end i c.loop-body.first end part (has c.loop-body.set i) (has c.push_range.new.self i) c.if-part-first.false (inv.full i)
          (subst (λ (n : ℕ). has c.push_range.new.self i ≡ (has c.loop-body.set i || (leb n i && ltb i part.hi))) is_max (pushed i)));
      full = λ i from below.
          full_push (has c.loop-body.set i) (has c.push_range.new.self i) i lo part.hi (pushed i)
          (λ before.
          elim c.if-end-lo.branch [
            | then-end-lo w ↦ absurd (omega (arith, w.first-is))
            | else-end-lo w ↦ inv.full i (omega (arith, w.first-is)) (omega (arith, w.if-end-lo.false))
          ])
          below;
    }

pub push_range-requires-clause-within : goal.push_range-requires-clause-within
push_range-requires-clause-within c = subst (λ (n : ℕ). c.body_part-part.result.hi ≤ n) (sym c.loop-body.invariant.bound) c.body_part-part.ensures.within

pub push_range-requires-clause-above : goal.push_range-requires-clause-above
push_range-requires-clause-above c = λ i t. let low = c.loop-body.invariant.below i t in omega (arith, c.max-lo.ensures)

pub returns-clause-exact : goal.returns-clause-exact
returns-clause-exact c =
    let line = c.args.line.now in
    λ i. c.loop-body.invariant.held i
    ∙ ap (λ (bodies : List _). ltb i line.points && in_bodies bodies (position line.family line.first line.step i))
    (take_all c.loop-body.body-index c.args.bodies.now c.loop-body-test.false)
