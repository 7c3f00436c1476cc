-- Each body adds its part to the list, unless that is empty.
use Rattle.std.proofs.Common.{◌≡◌, ◌≤◌, ◌&&◌, ◌||◌, ◌∙◌, ℕ, Bool, ltb, List, Vec, Global, ap, subst, sym, All, [], ◌∷◌, ◌++◌}
use Rattle.std.proofs.lemmas.List.{take_all}
use Rattle.std.proofs.lemmas.List.Elements.{All-push}
use Rattle.ray_shapes.specs.declared.half_line.IndexRange.{IndexRange}
use Rattle.ray_shapes.specs.Lines.{position}
use Rattle.ray_shapes.specs.Parts.{is_in, covers_some}
use Rattle.ray_shapes.specs.Planes.{in_bodies}
use Rattle.ray_shapes.proofs.Covering.{empty_part}
use Rattle.ray_shapes.proofs.MoreBodies.{body_more, part_pushed}
use Rattle.ray_shapes.proofs.fill.parts_in.Goals.{then-part+in_ok-push, else-part}
use Rattle.ray_shapes.proofs.fill.parts_in.Goals as goal

pub loop-body-preserved : goal.loop-body-preserved
loop-body-preserved c =
    let line = c.args.line.now in let part = c.body_part-part.result in let inv = c.loop-body.invariant in let parts = c.loop-body.parts.items in
    let more = λ (i : ℕ) (next : Bool) (added : next ≡ (covers_some parts i || is_in i part)).
    body_more c.args.bodies.now c.loop-body.body-index line.points i c.body-item.result part (position line.family line.first line.step i) _ next
    c.loop-body-test.true c.body-item.is (c.body_part-part.ensures.exact i) (inv.exact i) added in
    elim c.if-part.branch [
      | then-part+in_ok-push w ↦
          let pushed : c.if-part.parts.items ≡ parts ++ part ∷ [] = ap (λ (v : Vec IndexRange Global). v.items) w.parts-is ∙ w.in_ok-push.ensures.items in
          record {
            within = subst (All (λ (p : IndexRange). p.hi ≤ line.points)) (sym pushed) (All-push (λ (p : IndexRange). p.hi ≤ line.points) parts part inv.within c.body_part-part.ensures.within);
            exact = λ i. more i _ (ap (λ (ps : List IndexRange). covers_some ps i) pushed ∙ part_pushed parts part i);
          }
      | else-part w ↦
          let same : c.if-part.parts.items ≡ parts = ap (λ (v : Vec IndexRange Global). v.items) w.parts-is in
          record {
            within = subst (All (λ (p : IndexRange). p.hi ≤ line.points)) (sym same) inv.within;
            exact = λ i. more i _ (ap (λ (ps : List IndexRange). covers_some ps i) same ∙ empty_part i part _ w.if-part.false);
          }
    ]

pub returns-clause-within : goal.returns-clause-within
returns-clause-within c = c.loop-body.invariant.within

pub returns-clause-exact : goal.returns-clause-exact
returns-clause-exact c =
    let line = c.args.line.now in
    λ i. c.loop-body.invariant.exact i
    ∙ ap (λ (bodies : List _). ltb i line.points && in_bodies bodies (position line.family line.first line.step i))
    (take_all c.loop-body.body-index c.args.bodies.now c.loop-body-test.false)
