use Rattle.std.proofs.Common.{◌≤◌, length}
use Rattle.vf_io.proofs.WholeLemmas.{PutSoFar}
use Rattle.vf_io.proofs.whole_text.put_lines.Given as goal

abbrev pub invariant-loop-rest : goal.invariant-loop-rest
invariant-loop-rest g l =
    let sink = g.K.Sink in
    record {
      put : PutSoFar (sink.written l.fn.sink) (sink.written l.sink) (sink.pieces l.fn.sink) (sink.pieces l.sink) l.text l.rest;
      later : sink.faults l.fn.sink ≤ sink.faults l.sink;
    }

abbrev pub decreases-loop-rest : goal.decreases-loop-rest
decreases-loop-rest g l = length l.rest
