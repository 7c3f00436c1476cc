use Rattle.std.proofs.Common.{ap₂, ◌&&◌, refl, not, length}
use Rattle.vf_spans.specs.Edges.{edges_of}
use Rattle.vf_spans.proofs.Flags.{ascends_here, bound_is}
use Rattle.vf_spans.proofs.Below.{counted, edges_here, flag_is}
use Rattle.vf_spans.proofs.spans.Spans.count_meet_minus.Goals as goal

pub count_numbers-requires-clause-first : goal.count_numbers-requires-clause-first
count_numbers-requires-clause-first c = ascends_here c.self.inside.bound (edges_of c.self.inside.edges) c.as_slice.result.now c.as_slice.ensures.value c.self.invariant

pub count_numbers-requires-clause-second : goal.count_numbers-requires-clause-second
count_numbers-requires-clause-second c = ascends_here c.second.inside.bound (edges_of c.second.inside.edges) c.as_slice-2.result.now c.as_slice-2.ensures.value c.second.invariant

pub count_numbers-requires-clause-third : goal.count_numbers-requires-clause-third
count_numbers-requires-clause-third c = ascends_here c.third.inside.bound (edges_of c.third.inside.edges) c.as_slice-3.result.now c.as_slice-3.ensures.value c.third.invariant

pub returns : goal.returns
returns c =
    let b = c.self.inside.bound in
    counted c.count_numbers.result b (length c.args.self.now) _ _
    (c.count_numbers.ensures b
    (edges_here b b (edges_of c.self.inside.edges) (edges_of c.self.inside.edges) c.as_slice.result.now c.args.self.now c.args.self.now c.self.view_is c.self.view_is refl c.self.invariant c.as_slice.ensures.value)
    (edges_here b c.second.inside.bound (edges_of c.self.inside.edges) (edges_of c.second.inside.edges) c.as_slice-2.result.now c.args.self.now c.args.second.now c.self.view_is c.second.view_is c.requires.second c.second.invariant c.as_slice-2.ensures.value)
    (edges_here b c.third.inside.bound (edges_of c.self.inside.edges) (edges_of c.third.inside.edges) c.as_slice-3.result.now c.args.self.now c.args.third.now c.self.view_is c.third.view_is c.requires.third c.third.invariant c.as_slice-3.ensures.value))
    (bound_is b (edges_of c.self.inside.edges) c.args.self.now c.self.view_is)
    (λ x. ap₂ (λ p q. p && q)
    (flag_is b (edges_of c.self.inside.edges) c.as_slice.result.now c.args.self.now c.self.invariant c.self.view_is c.as_slice.ensures.value x)
    (ap₂ (λ p q. p && not q)
    (flag_is c.second.inside.bound (edges_of c.second.inside.edges) c.as_slice-2.result.now c.args.second.now c.second.invariant c.second.view_is c.as_slice-2.ensures.value x)
    (flag_is c.third.inside.bound (edges_of c.third.inside.edges) c.as_slice-3.result.now c.args.third.now c.third.invariant c.third.view_is c.as_slice-3.ensures.value x)))
