-- A put that is done wrote all its bytes.
use Rattle.vf_io.proofs.standard_sink.StdSinkSink.put.Goals as goal

pub returns-in-Ok-clause-ok : goal.returns-in-Ok-clause-ok
returns-in-Ok-clause-ok g c = rw c.in-Ok.is at c.write_whole.ensures.ok
