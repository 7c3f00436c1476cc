use Rattle.std.proofs.Common.{FitsSigned, rules}
use mir.Syntax.{w64, w128}
use Rattle.space.specs.Vectors.{at}
use Rattle.box_bisect.specs.declared.compare.Side.TheVariants.{Above}
use Rattle.width_bisect.proofs.Sides.{not_all_on, one_more_on, then_all_on}
use Rattle.width_bisect.proofs.compare.all_above.Goals as goal

pub returns-then-not-is_above : goal.returns-then-not-is_above
returns-then-not-is_above c =
    let form = c.args.form.now in let raised = c.args.raised.now in let i = c.loop-i.i in
    let a : FitsSigned w128 (at form i) = search rules in let r : FitsSigned w64 (at raised i) = search rules in
    not_all_on Above form raised c.args.limit i c.is_above.result c.loop-i-test.true a r c.ranges.limit
    c.is_above.ensures c.if-not-is_above.true

pub loop-i-preserved : goal.loop-i-preserved
loop-i-preserved c =
    let form = c.args.form.now in let raised = c.args.raised.now in let i = c.loop-i.i in
    let a : FitsSigned w128 (at form i) = search rules in let r : FitsSigned w64 (at raised i) = search rules in
    one_more_on Above form raised c.args.limit i c.is_above.result a r c.is_above.ensures c.if-not-is_above.false c.loop-i.invariant

pub returns : goal.returns
returns c =
    then_all_on Above c.args.form.now c.args.raised.now c.args.limit c.loop-i.i c.loop-i-test.false c.ranges.limit c.loop-i.invariant
