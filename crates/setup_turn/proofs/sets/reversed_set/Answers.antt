use Rattle.std.proofs.Common.{◌≡◌, ◌+◌, ◌-◌, ◌≤◌, arith, ◌∙◌, subst}
use Rattle.setup_turn.proofs.Moving.{IsReversedPart, range_within, reversed_below, reversed_more, reversed_none, reversed_whole}
use Rattle.setup_turn.proofs.RangeOrder.{range_is}
use Rattle.setup_turn.proofs.sets.reversed_set.Goals as goal

pub loop-n-init : goal.loop-n-init
loop-n-init c = record {
  bound = c.new-moved.ensures.bound;
  part = reversed_none c.args.set.now (c.ranges-count.result - 0) c.args.first c.args.to c.new-moved.result
      (let many = c.ranges-count.ensures.count in omega (arith, many)) c.new-moved.ensures.empty;
}

-- where the range lies
ends : (c : goal.After-moved-1) → (c.args.first ≤ c.range-lo.result.0) × (c.range-lo.result.1 ≤ c.args.first + (c.args.to + 1))
ends c =
    range_within c.args.set.now (c.ranges-count.result - 1 - c.loop-n.n) c.args.first (c.args.first + (c.args.to + 1)) c.range-lo.result
    (range_is c.args.set.now (c.ranges-count.result - 1 - c.loop-n.n) c.range-lo.result c.range-lo.ensures.range) c.requires.within c.range-lo.ensures.not_empty

-- the ranges after it are those that are moved
after_it : (c : goal.After-moved-1) → IsReversedPart c.args.set.now (c.ranges-count.result - 1 - c.loop-n.n + 1) c.args.first c.args.to c.loop-n.moved
after_it c =
    subst (λ n. IsReversedPart c.args.set.now n c.args.first c.args.to c.loop-n.moved)
    (let low = c.loop-n-test.true in let q : c.ranges-count.result - c.loop-n.n ≡ c.ranges-count.result - 1 - c.loop-n.n + 1 = omega (arith, low) in q)
    c.loop-n.invariant.part

pub overflow_sub-hi : goal.overflow_sub-hi
overflow_sub-hi c = let e = ends c in let some = c.range-lo.ensures.not_empty in omega (arith, e.0)

pub overflow_sub-to : goal.overflow_sub-to
overflow_sub-to c = let e = ends c in omega (arith, e.0, e.1)

pub overflow_sub-lo : goal.overflow_sub-lo
overflow_sub-lo c = (ends c).0

pub overflow_sub-to-in-loop-n : goal.overflow_sub-to-in-loop-n
overflow_sub-to-in-loop-n c = let e = ends c in let some = c.range-lo.ensures.not_empty in omega (arith, e.0, e.1)

pub push_range-requires-clause-not_empty : goal.push_range-requires-clause-not_empty
push_range-requires-clause-not_empty c = let e = ends c in let some = c.range-lo.ensures.not_empty in omega (arith, e.0, e.1)

pub push_range-requires-clause-within : goal.push_range-requires-clause-within
push_range-requires-clause-within c =
    let size = c.loop-n.invariant.bound in let low = c.requires.place in omega (arith, size, low)

pub push_range-requires-clause-above : goal.push_range-requires-clause-above
push_range-requires-clause-above c =
    let e = ends c in
    reversed_below c.args.set.now (c.ranges-count.result - 1 - c.loop-n.n) c.args.first c.args.to c.loop-n.moved c.range-lo.result
    (range_is c.args.set.now (c.ranges-count.result - 1 - c.loop-n.n) c.range-lo.result c.range-lo.ensures.range) e.0 c.range-lo.ensures.not_empty e.1 (after_it c)

pub loop-n-preserved : goal.loop-n-preserved
loop-n-preserved c =
    let n = c.ranges-count.result - 1 - c.loop-n.n in
    let here = range_is c.args.set.now n c.range-lo.result c.range-lo.ensures.range in
    let some = c.range-lo.ensures.not_empty in
    let low = c.loop-n-test.true in
    let e = range_within c.args.set.now n c.args.first (c.args.first + (c.args.to + 1)) c.range-lo.result here c.requires.within some in
    let part : IsReversedPart c.args.set.now (n + 1) c.args.first c.args.to c.loop-n.moved =
    subst (λ k. IsReversedPart c.args.set.now k c.args.first c.args.to c.loop-n.moved)
    (let q : c.ranges-count.result - c.loop-n.n ≡ c.ranges-count.result - 1 - c.loop-n.n + 1 = omega (arith, low) in q) c.loop-n.invariant.part in
    record {
      bound = c.push_range.ensures.bound ∙ c.loop-n.invariant.bound;
      part = subst (λ k. IsReversedPart c.args.set.now k c.args.first c.args.to c.push_range.new.self)
          (let q : c.ranges-count.result - 1 - c.loop-n.n ≡ c.ranges-count.result - (c.loop-n.n + 1) = omega arith in q)
          (reversed_more c.args.set.now n c.args.first c.args.to c.loop-n.moved c.push_range.new.self c.range-lo.result here e.0 some e.1 part
          c.in_ok-push_range.ensures.added);
    }

pub returns-clause-bound : goal.returns-clause-bound
returns-clause-bound c = c.loop-n.invariant.bound

pub returns-clause-reversed : goal.returns-clause-reversed
returns-clause-reversed c =
    reversed_whole c.args.set.now c.args.first c.args.to c.loop-n.moved
    (subst (λ n. IsReversedPart c.args.set.now n c.args.first c.args.to c.loop-n.moved)
    (let all = c.loop-n-test.false in let q : c.ranges-count.result - c.loop-n.n ≡ 0 = omega (arith, all) in q) c.loop-n.invariant.part)
