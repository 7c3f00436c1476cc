use Rattle.std.proofs.Common.{◌/◌, arith, sym, ap, ◌∙◌, length}
use Rattle.vf_spans.specs.Edges.{edges_of}
use Rattle.vf_spans.proofs.Counts.{range_count, few}
use Rattle.vf_spans.proofs.InRanges.{members}
use Rattle.vf_spans.proofs.spans.Spans.ranges.Goals as goal

pub overflow_cast-result : goal.overflow_cast-result
overflow_cast-result c = let q = few c.self.inside.bound (edges_of c.self.inside.edges) c.self.invariant in let size = ap length c.as_slice.ensures.value in omega arith

pub returns-clause-count : goal.returns-clause-count
returns-clause-count c =
    ap (λ es. length es / 2) c.as_slice.ensures.value ∙ sym (range_count c.self.inside.bound (edges_of c.self.inside.edges) c.args.self.now c.self.invariant c.self.view_is)

pub returns-clause-members : goal.returns-clause-members
returns-clause-members c = members c.args.self.now
