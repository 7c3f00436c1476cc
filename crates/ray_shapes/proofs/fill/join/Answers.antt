use Rattle.std.proofs.Common.{◌≡◌, ◌<◌, ◌≤◌, ◌||◌, ◌&&◌, ◌∙◌, max, leb, ltb, ℕ, get_or, List, length, arith, ap, subst, sym}
use Rattle.std.proofs.lemmas.List.{take_all}
use Rattle.vf_spans.specs.Members.{has}
use Rattle.ray_shapes.specs.declared.half_line.IndexRange.{IndexRange}
use Rattle.ray_shapes.specs.Parts.{covers_some}
use Rattle.ray_shapes.proofs.Covering.{part_more, nothing_new, beyond_end, below_push, full_push, read_itself, later}
use Rattle.ray_shapes.proofs.fill.join.Goals as goal

pub loop-part-preserved-then-lo-part : goal.loop-part-preserved-then-lo-part
loop-part-preserved-then-lo-part c =
    let parts = c.args.parts.now in
    let k = c.loop-part.part-index in
    let zero : IndexRange = record { lo = 0; hi = 0 } in
    let part : IndexRange = get_or parts k zero in
    let inv = c.loop-part.invariant in
    let end = c.loop-part.end in
    let lt : k < length parts = c.loop-part-test.true in
    let beyond : part.hi ≤ max part.lo end = subst (λ (n : ℕ). part.hi ≤ n) c.max-lo.ensures c.if-lo-part.true in
    let low : inv.full.0 ≤ part.lo = inv.full.1 k zero (omega arith) lt in
    record {
      bound = inv.bound;
      below = inv.below;
      held = λ i.
          part_more parts k i part (has c.loop-part.set i) (has c.loop-part.set i) lt (read_itself parts k zero lt) (inv.held i)
          (nothing_new i inv.full.0 end part (has c.loop-part.set i) low (inv.full.2 i) beyond);
      full = (inv.full.0, λ m d le mt. inv.full.1 m d (omega arith) mt, inv.full.2);
    }

pub push_range-requires-clause-within : goal.push_range-requires-clause-within
push_range-requires-clause-within c =
    subst (λ (n : ℕ). (get_or c.args.parts.now c.loop-part.part-index (record { lo = 0; hi = 0 })).hi ≤ n) (sym c.loop-part.invariant.bound)
    (c.requires.within c.loop-part.part-index (record { lo = 0; hi = 0 }) c.loop-part-test.true)

pub push_range-requires-clause-above : goal.push_range-requires-clause-above
push_range-requires-clause-above c = λ i t. let low = c.loop-part.invariant.below i t in omega (arith, c.max-lo.ensures)

pub returns-clause-covered : goal.returns-clause-covered
returns-clause-covered c =
    λ i. c.loop-part.invariant.held i
    ∙ ap (λ (parts : List IndexRange). covers_some parts i) (take_all c.loop-part.part-index c.args.parts.now c.loop-part-test.false)

pub loop-part-preserved : goal.loop-part-preserved
loop-part-preserved c =
    let parts = c.args.parts.now in
    let k = c.loop-part.part-index in
    let zero : IndexRange = record { lo = 0; hi = 0 } in
    let part : IndexRange = get_or parts k zero in
    let inv = c.loop-part.invariant in
    let end = c.loop-part.end in
    let lt : k < length parts = c.loop-part-test.true in
    let lo : c.max-lo.result ≡ max part.lo end = c.max-lo.ensures in
    let beyond : c.max-lo.result < part.hi = c.if-lo-part.false in
    let pushed : (i : ℕ) → has c.push_range.new.self i ≡ (has c.loop-part.set i || (leb c.max-lo.result i && ltb i part.hi)) = c.in_ok-push_range.ensures.added in
    let low : inv.full.0 ≤ part.lo = inv.full.1 k zero (omega arith) lt in
    record {
      bound = c.in_ok-push_range.ensures.bound ∙ inv.bound;
      below = λ i t. below_push (has c.loop-part.set i) (has c.push_range.new.self i) i c.max-lo.result part.hi end (pushed i) (inv.below i) (omega arith) t;
      held = λ i.
          part_more parts k i part (has c.loop-part.set i) (has c.push_range.new.self i) lt (read_itself parts k zero lt) (inv.held i)
          (beyond_end i inv.full.0 end part (has c.loop-part.set i) (has c.push_range.new.self i) low (inv.full.2 i)
          (subst (λ (n : ℕ). has c.push_range.new.self i ≡ (has c.loop-part.set i || (leb n i && ltb i part.hi))) lo (pushed i)));
      full = (
        part.lo,
        λ m d le mt. later parts k m zero d c.requires.order (omega arith) mt,
        λ i ge il. full_push (has c.loop-part.set i) (has c.push_range.new.self i) i c.max-lo.result part.hi (pushed i) (λ il'. inv.full.2 i (omega arith) (omega arith)) il,
      );
    }
