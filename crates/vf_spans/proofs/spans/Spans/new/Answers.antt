use Rattle.std.proofs.Common.{◌∙◌, ap}
use Rattle.vf_spans.specs.Edges.{edges_of, inside}
use Rattle.vf_spans.proofs.Flags.{length-flags, has-flags, no_edges}
use Rattle.vf_spans.proofs.spans.Spans.new.Goals as goal

pub returns-clause-bound : goal.returns-clause-bound
returns-clause-bound c = length-flags c.args.bound (edges_of c.new.result)

pub returns-clause-empty : goal.returns-clause-empty
returns-clause-empty c = λ i. has-flags c.args.bound (edges_of c.new.result) i (no_edges c.args.bound (edges_of c.new.result) c.new.ensures) ∙ ap (λ es. inside es i) c.new.ensures
