use Rattle.std.proofs.Common.{ap₂, ◌∙◌, ◌&&◌, refl, not, length}
use Rattle.vf_spans.specs.Edges.{edges_of, inside, AreEdges}
use Rattle.vf_spans.proofs.Flags.{ascends_here, bound_is}
use Rattle.vf_spans.proofs.Below.{counted, edges_here, flag_is, and_same}
use Rattle.vf_spans.proofs.spans.Spans.count_minus.Goals as goal

pub count_numbers-requires-clause-first : goal.count_numbers-requires-clause-first
count_numbers-requires-clause-first c = ascends_here c.self.inside.bound (edges_of c.self.inside.edges) c.as_slice-edges.result.now c.as_slice-edges.ensures.value c.self.invariant

pub count_numbers-requires-clause-second : goal.count_numbers-requires-clause-second
count_numbers-requires-clause-second c = ascends_here c.self.inside.bound (edges_of c.self.inside.edges) c.as_slice-edges.result.now c.as_slice-edges.ensures.value c.self.invariant

pub count_numbers-requires-clause-third : goal.count_numbers-requires-clause-third
count_numbers-requires-clause-third c = ascends_here c.other.inside.bound (edges_of c.other.inside.edges) c.as_slice.result.now c.as_slice.ensures.value c.other.invariant

pub returns : goal.returns
returns c =
    let b = c.self.inside.bound in
    let edges : AreEdges b c.as_slice-edges.result.now =
    edges_here b b (edges_of c.self.inside.edges) (edges_of c.self.inside.edges) c.as_slice-edges.result.now c.args.self.now c.args.self.now c.self.view_is c.self.view_is refl c.self.invariant c.as_slice-edges.ensures.value in
    counted c.count_numbers.result b (length c.args.self.now) _ _
    (c.count_numbers.ensures b edges edges
    (edges_here b c.other.inside.bound (edges_of c.self.inside.edges) (edges_of c.other.inside.edges) c.as_slice.result.now c.args.self.now c.args.other.now c.self.view_is c.other.view_is c.requires c.other.invariant c.as_slice.ensures.value))
    (bound_is b (edges_of c.self.inside.edges) c.args.self.now c.self.view_is)
    (λ x. and_same (inside c.as_slice-edges.result.now x) (not (inside c.as_slice.result.now x)) ∙ ap₂ (λ p q. p && not q)
    (flag_is b (edges_of c.self.inside.edges) c.as_slice-edges.result.now c.args.self.now c.self.invariant c.self.view_is c.as_slice-edges.ensures.value x)
    (flag_is c.other.inside.bound (edges_of c.other.inside.edges) c.as_slice.result.now c.args.other.now c.other.invariant c.other.view_is c.as_slice.ensures.value x))
