use Rattle.cl_records.proofs.FieldLemmas.{Commas}
use Rattle.cl_records.proofs.field.count_fields.Given as goal

abbrev pub invariant-loop-b : goal.invariant-loop-b
invariant-loop-b l = Commas l.text l.b-index l.commas
