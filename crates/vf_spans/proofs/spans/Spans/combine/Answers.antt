use Rattle.std.proofs.Common.{ℕ, List, sym, ap, ◌∙◌, subst}
use Rattle.vf_spans.specs.Edges.{edges_of, AreEdges, flags_of}
use Rattle.vf_spans.specs.Members.{has}
use Rattle.vf_spans.proofs.Flags.{ascends_here, bound_is, combined_edges, combined_has, length-flags}
use Rattle.vf_spans.proofs.spans.Spans.combine.Goals as goal

pub combine_edges-requires-clause-first : goal.combine_edges-requires-clause-first
combine_edges-requires-clause-first c = ascends_here c.self.inside.bound (edges_of c.self.inside.edges) c.as_slice.result.now c.as_slice.ensures.value c.self.invariant

pub combine_edges-requires-clause-second : goal.combine_edges-requires-clause-second
combine_edges-requires-clause-second c = ascends_here c.other.inside.bound (edges_of c.other.inside.edges) c.as_slice-2.result.now c.as_slice-2.ensures.value c.other.invariant

pub from_list-requires : goal.from_list-requires
from_list-requires c = (
  c.self.inside.bound,
  combined_edges c.args.operation c.self.inside.bound c.other.inside.bound (edges_of c.self.inside.edges) (edges_of c.other.inside.edges) c.as_slice.result.now c.as_slice-2.result.now c.in_ok-list.list.items
      c.args.self.now c.args.other.now c.self.view_is c.other.view_is c.requires c.self.invariant c.other.invariant c.as_slice.ensures.value c.as_slice-2.ensures.value c.in_ok-list.ensures.edges,
)

pub invariant_of-result : goal.invariant_of-result
invariant_of-result c =
    subst (λ (z : List ℕ). AreEdges c.self.inside.bound z) (sym c.in_ok-edges.ensures.edges)
    (combined_edges c.args.operation c.self.inside.bound c.other.inside.bound (edges_of c.self.inside.edges) (edges_of c.other.inside.edges) c.as_slice.result.now c.as_slice-2.result.now c.in_ok-list.list.items
    c.args.self.now c.args.other.now c.self.view_is c.other.view_is c.requires c.self.invariant c.other.invariant c.as_slice.ensures.value c.as_slice-2.ensures.value c.in_ok-list.ensures.edges)

pub returns-clause-bound : goal.returns-clause-bound
returns-clause-bound c =
    length-flags c.self.inside.bound (edges_of c.in_ok-edges.edges) ∙ bound_is c.self.inside.bound (edges_of c.self.inside.edges) c.args.self.now c.self.view_is

pub returns-clause-combined : goal.returns-clause-combined
returns-clause-combined c =
    let edges : AreEdges c.self.inside.bound c.in_ok-list.list.items =
    combined_edges c.args.operation c.self.inside.bound c.other.inside.bound (edges_of c.self.inside.edges) (edges_of c.other.inside.edges) c.as_slice.result.now c.as_slice-2.result.now c.in_ok-list.list.items
    c.args.self.now c.args.other.now c.self.view_is c.other.view_is c.requires c.self.invariant c.other.invariant c.as_slice.ensures.value c.as_slice-2.ensures.value c.in_ok-list.ensures.edges in
    λ x. ap (λ z. has (flags_of c.self.inside.bound z) x) c.in_ok-edges.ensures.edges
    ∙ combined_has c.args.operation c.self.inside.bound c.other.inside.bound (edges_of c.self.inside.edges) (edges_of c.other.inside.edges) c.as_slice.result.now c.as_slice-2.result.now c.in_ok-list.list.items
    c.args.self.now c.args.other.now c.self.view_is c.other.view_is c.self.invariant c.other.invariant edges c.as_slice.ensures.value c.as_slice-2.ensures.value c.in_ok-list.ensures.set x
