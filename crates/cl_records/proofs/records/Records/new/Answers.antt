use Rattle.std.proofs.Common.{arith}
use Rattle.cl_lines.specs.declared.number.Unit.TheVariants.{Mm}
use Rattle.cl_records.proofs.FewLemmas.{records_of-few}
use Rattle.cl_records.proofs.records.Records.new.Goals as goal

pub returns-clause-few : goal.returns-clause-few
returns-clause-few c = omega (arith, records_of-few Mm c.new.result, c.new.ensures.few)
