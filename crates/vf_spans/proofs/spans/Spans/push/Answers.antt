use Rattle.std.proofs.Common.{arith}
use Rattle.vf_spans.specs.Edges.{edges_of}
use Rattle.vf_spans.proofs.Flags.{bound_is}
use Rattle.vf_spans.proofs.spans.Spans.push.Goals as goal

pub overflow_add-index : goal.overflow_add-index
overflow_add-index c = let size = bound_is c.self.inside.bound (edges_of c.self.inside.edges) c.args.self.now c.self.view_is in omega arith
