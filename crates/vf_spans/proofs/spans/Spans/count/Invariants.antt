use Rattle.std.proofs.Common.{◌≡◌, take}
use Rattle.std.specs.List.{sum_by}
use Rattle.vf_spans.proofs.Ranges.{pairs}
use Rattle.vf_spans.proofs.Counts.{span_of}
use Rattle.vf_spans.proofs.spans.Spans.count.Given as goal

abbrev pub invariant-loop-n : goal.invariant-loop-n
invariant-loop-n l = l.total ≡ sum_by span_of (take l.n (pairs l.edges))
