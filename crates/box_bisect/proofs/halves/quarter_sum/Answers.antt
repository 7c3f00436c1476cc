-- Neither the sum nor its quarter is too great for a word, so both are what is computed.
use Rattle.std.proofs.Common.{arith, refl}
use Rattle.std.proofs.lemmas.Int.{to_z-of_z}
use Rattle.box_bisect.proofs.Halving.{quarter_fits, quarter_sum_small}
use Rattle.box_bisect.proofs.halves.quarter_sum.Goals as goal

pub returns-clause-value : goal.returns-clause-value
returns-clause-value c =
    let f = quarter_fits c.args.a c.args.b c.args.c c.requires.a c.requires.b c.requires.c in
    let a = c.ranges.a in let b = c.ranges.b in let last = c.ranges.c in let two = f.two in let whole = f.whole in let quarter = f.quarter in
    simp to_z-of_z refl

pub returns-clause-small : goal.returns-clause-small
returns-clause-small c m h k l =
    let f = quarter_fits c.args.a c.args.b c.args.c c.requires.a c.requires.b c.requires.c in
    let a = c.ranges.a in let b = c.ranges.b in let last = c.ranges.c in let two = f.two in let whole = f.whole in let quarter = f.quarter in
    simp to_z-of_z (quarter_sum_small c.args.a c.args.b c.args.c m h k l)

pub overflow_add-result-2 : goal.overflow_add-result-2
overflow_add-result-2 c =
    let f = quarter_fits c.args.a c.args.b c.args.c c.requires.a c.requires.b c.requires.c in
    let a = c.ranges.a in let b = c.ranges.b in let last = c.ranges.c in let two = f.two in
    simp to_z-of_z f.whole

pub nonzero_div-result : goal.nonzero_div-result
nonzero_div-result c =
    let f = quarter_fits c.args.a c.args.b c.args.c c.requires.a c.requires.b c.requires.c in
    let a = c.ranges.a in let b = c.ranges.b in let last = c.ranges.c in let two = f.two in let whole = f.whole in
    (omega arith, simp to_z-of_z f.quarter)
