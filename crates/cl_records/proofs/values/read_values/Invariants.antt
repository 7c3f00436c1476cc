use Rattle.cl_records.proofs.ValueLemmas.{ReadsOn}
use Rattle.cl_records.proofs.values.read_values.Given as goal

abbrev pub invariant-loop-kind : goal.invariant-loop-kind
invariant-loop-kind l = ReadsOn l.unit l.kinds l.fn.parameters l.kind-index l.values l.in_range l.left
