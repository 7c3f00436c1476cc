use Rattle.std.proofs.Common.{arith, refl}
use Rattle.setup_turn.proofs.Moving.{first_is, none_at_all, none_yet_more}
use Rattle.setup_turn.proofs.RangeOrder.{range_is}
use Rattle.setup_turn.proofs.sets.first_from.Goals as goal

pub loop-n-init : goal.loop-n-init
loop-n-init c i from = refl

pub returns-then-hi-from : goal.returns-then-hi-from
returns-then-hi-from c =
    first_is c.args.set.now c.loop-n.n c.args.from c.max.result c.range-lo.result
    (range_is c.args.set.now c.loop-n.n c.range-lo.result c.range-lo.ensures.range) c.loop-n.invariant c.if-hi-from.true c.range-lo.ensures.not_empty c.max.ensures

pub loop-n-preserved : goal.loop-n-preserved
loop-n-preserved c =
    none_yet_more c.args.set.now c.loop-n.n c.args.from c.range-lo.result
    (range_is c.args.set.now c.loop-n.n c.range-lo.result c.range-lo.ensures.range) c.if-hi-from.false c.loop-n.invariant

pub returns : goal.returns
returns c =
    none_at_all c.args.set.now c.loop-n.n c.args.from (let all = c.loop-n-test.false in let many = c.ranges-n-end.ensures.count in omega (arith, all, many))
    c.loop-n.invariant
