-- The distance of three numbers.
use Rattle.std.proofs.Common.{arith}
use Rattle.cl_records.proofs.PositionLemmas.{delta_is, delta_within, no_delta}
use Rattle.cl_records.proofs.statement.delta_of.Goals as goal

pub returns-in-len3-clause-record : goal.returns-in-len3-clause-record
returns-in-len3-clause-record c = delta_is c.args.values.now c.in-len3.len_at_least c.in-len3.len_below c.requires

pub returns-in-len3-clause-ranges : goal.returns-in-len3-clause-ranges
returns-in-len3-clause-ranges c = delta_within c.args.values.now c.in-len3.len_at_least c.in-len3.len_below c.requires

pub returns-in_default-clause-record : goal.returns-in_default-clause-record
returns-in_default-clause-record c = let under = c.in_default.len_below in no_delta c.args.values.now (λ is. omega (arith, under, is))

pub returns-in_default-2-clause-record : goal.returns-in_default-2-clause-record
returns-in_default-2-clause-record c = let least = c.in_default.len_at_least in no_delta c.args.values.now (λ is. omega (arith, least, is))
