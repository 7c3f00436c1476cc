use Rattle.std.proofs.Common.{◌∙◌, sym, ap, length}
use Rattle.vf_spans.specs.Edges.{edges_of}
use Rattle.vf_spans.proofs.Flags.{length-flags}
use Rattle.vf_spans.proofs.spans.Spans.bound.Goals as goal

pub returns : goal.returns
returns c = sym (length-flags c.self.inside.bound (edges_of c.self.inside.edges)) ∙ ap length c.self.view_is
