-- The position of three numbers, and of six.
use Rattle.std.proofs.Common.{◌∙◌, arith}
use Rattle.cl_records.proofs.PositionLemmas.{axis_within, no_position, six_are, three_are, tip_within}
use Rattle.cl_records.proofs.statement.position_of.Goals as goal

pub with_axis-requires-clause-tip : goal.with_axis-requires-clause-tip
with_axis-requires-clause-tip c = tip_within c.args.values.now (omega (arith, c.in-len6.len_at_least)) c.requires

pub with_axis-requires-clause-axis : goal.with_axis-requires-clause-axis
with_axis-requires-clause-axis c = axis_within c.args.values.now c.in-len6.len_at_least c.in-len6.len_below c.requires

pub returns-in-len3-clause-position : goal.returns-in-len3-clause-position
returns-in-len3-clause-position c = three_are c.args.values.now c.in-len3.len_at_least c.in-len3.len_below c.requires

pub returns-in-len6-clause-position : goal.returns-in-len6-clause-position
returns-in-len6-clause-position c =
    c.with_axis.ensures.position ∙ six_are c.args.values.now c.in-len6.len_at_least c.in-len6.len_below c.requires

pub returns-in-len6-clause-ranges : goal.returns-in-len6-clause-ranges
returns-in-len6-clause-ranges c = c.with_axis.ensures.ranges

pub returns-in-len3-clause-ranges : goal.returns-in-len3-clause-ranges
returns-in-len3-clause-ranges c = record { tip = tip_within c.args.values.now c.in-len3.len_at_least c.requires; axis = tt }

pub returns-in_default-clause-position : goal.returns-in_default-clause-position
returns-in_default-clause-position c =
    let under = c.in_default.len_below in no_position c.args.values.now (λ is. omega (arith, under, is)) (λ is. omega (arith, under, is))

pub returns-in_default-2-clause-position : goal.returns-in_default-2-clause-position
returns-in_default-2-clause-position c =
    let least = c.in_default.len_at_least in
    let under = c.in_default.len_below in no_position c.args.values.now (λ is. omega (arith, least, is)) (λ is. omega (arith, under, is))

pub returns-in_default-3-clause-position : goal.returns-in_default-3-clause-position
returns-in_default-3-clause-position c =
    let least = c.in_default.len_at_least in no_position c.args.values.now (λ is. omega (arith, least, is)) (λ is. omega (arith, least, is))
