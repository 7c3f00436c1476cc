use Rattle.std.proofs.Common.{ap₂, ◌∙◌, ◌&&◌, refl, length}
use Rattle.vf_spans.specs.Edges.{edges_of}
use Rattle.vf_spans.proofs.Flags.{ascends_here, bound_is, no_edges}
use Rattle.vf_spans.proofs.Below.{counted, edges_here, flag_is, and_true}
use Rattle.vf_spans.proofs.spans.Spans.count_meet.Goals as goal

pub count_numbers-requires-clause-first : goal.count_numbers-requires-clause-first
count_numbers-requires-clause-first c = ascends_here c.self.inside.bound (edges_of c.self.inside.edges) c.as_slice.result.now c.as_slice.ensures.value c.self.invariant

pub count_numbers-requires-clause-second : goal.count_numbers-requires-clause-second
count_numbers-requires-clause-second c = ascends_here c.other.inside.bound (edges_of c.other.inside.edges) c.as_slice-2.result.now c.as_slice-2.ensures.value c.other.invariant

pub returns : goal.returns
returns c =
    let b = c.self.inside.bound in
    counted c.count_numbers.result b (length c.args.self.now) _ _
    (c.count_numbers.ensures b
    (edges_here b b (edges_of c.self.inside.edges) (edges_of c.self.inside.edges) c.as_slice.result.now c.args.self.now c.args.self.now c.self.view_is c.self.view_is refl c.self.invariant c.as_slice.ensures.value)
    (edges_here b c.other.inside.bound (edges_of c.self.inside.edges) (edges_of c.other.inside.edges) c.as_slice-2.result.now c.args.self.now c.args.other.now c.self.view_is c.other.view_is c.requires c.other.invariant c.as_slice-2.ensures.value)
    (no_edges b _ refl))
    (bound_is b (edges_of c.self.inside.edges) c.args.self.now c.self.view_is)
    (λ x. and_true _ _ ∙ ap₂ (λ p q. p && q)
    (flag_is b (edges_of c.self.inside.edges) c.as_slice.result.now c.args.self.now c.self.invariant c.self.view_is c.as_slice.ensures.value x)
    (flag_is c.other.inside.bound (edges_of c.other.inside.edges) c.as_slice-2.result.now c.args.other.now c.other.invariant c.other.view_is c.as_slice-2.ensures.value x))
