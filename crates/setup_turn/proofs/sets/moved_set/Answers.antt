use Rattle.std.proofs.Common.{◌+◌, ◌-◌, ◌≤◌, arith, ◌∙◌}
use Rattle.setup_turn.proofs.Moving.{moved_above, moved_more, moved_none, moved_whole, range_within}
use Rattle.setup_turn.proofs.RangeOrder.{range_is}
use Rattle.setup_turn.proofs.sets.moved_set.Goals as goal

pub loop-n-init : goal.loop-n-init
loop-n-init c = record { bound = c.new-moved.ensures.bound; part = moved_none c.args.set.now c.args.first c.args.to c.new-moved.result c.new-moved.ensures.empty }

-- where the range lies
ends : (c : goal.After-moved-1) → (c.args.first ≤ c.range-lo.result.0) × (c.range-lo.result.1 ≤ c.args.first + (c.args.bound - c.args.to))
ends c =
    range_within c.args.set.now c.loop-n.n c.args.first (c.args.first + (c.args.bound - c.args.to)) c.range-lo.result
    (range_is c.args.set.now c.loop-n.n c.range-lo.result c.range-lo.ensures.range) c.requires.within c.range-lo.ensures.not_empty

pub overflow_sub-lo : goal.overflow_sub-lo
overflow_sub-lo c = (ends c).0

pub overflow_add-to : goal.overflow_add-to
overflow_add-to c = let e = ends c in let some = c.range-lo.ensures.not_empty in omega (arith, e.0, e.1)

pub overflow_sub-hi : goal.overflow_sub-hi
overflow_sub-hi c = let e = ends c in let some = c.range-lo.ensures.not_empty in omega (arith, e.0)

pub overflow_add-to-in-loop-n : goal.overflow_add-to-in-loop-n
overflow_add-to-in-loop-n c = let e = ends c in omega (arith, e.0, e.1)

pub push_range-requires-clause-not_empty : goal.push_range-requires-clause-not_empty
push_range-requires-clause-not_empty c = let e = ends c in let some = c.range-lo.ensures.not_empty in omega (arith, e.0)

pub push_range-requires-clause-within : goal.push_range-requires-clause-within
push_range-requires-clause-within c = let e = ends c in let size = c.loop-n.invariant.bound in omega (arith, e.0, e.1)

pub push_range-requires-clause-above : goal.push_range-requires-clause-above
push_range-requires-clause-above c =
    moved_above c.args.set.now c.loop-n.n c.args.first c.args.to c.loop-n.moved c.range-lo.result
    (range_is c.args.set.now c.loop-n.n c.range-lo.result c.range-lo.ensures.range) (ends c).0 c.loop-n.invariant.part

pub loop-n-preserved : goal.loop-n-preserved
loop-n-preserved c =
    let here = range_is c.args.set.now c.loop-n.n c.range-lo.result c.range-lo.ensures.range in
    let some = c.range-lo.ensures.not_empty in
    let e = range_within c.args.set.now c.loop-n.n c.args.first (c.args.first + (c.args.bound - c.args.to)) c.range-lo.result here c.requires.within some in
    record {
      bound = c.push_range.ensures.bound ∙ c.loop-n.invariant.bound;
      part = moved_more c.args.set.now c.loop-n.n c.args.first c.args.to c.loop-n.moved c.push_range.new.self c.range-lo.result here e.0 some c.loop-n.invariant.part
          c.in_ok-push_range.ensures.added;
    }

pub returns-clause-bound : goal.returns-clause-bound
returns-clause-bound c = c.loop-n.invariant.bound

pub returns-clause-moved : goal.returns-clause-moved
returns-clause-moved c =
    moved_whole c.args.set.now c.loop-n.n c.args.first c.args.to c.loop-n.moved
    (let all = c.loop-n-test.false in let many = c.ranges-n-end.ensures.count in omega (arith, all, many)) c.loop-n.invariant.part
