use Rattle.std.proofs.Common.{◌∙◌, sym}
use Rattle.vf_spans.specs.Edges.{edges_of}
use Rattle.vf_spans.proofs.Same.{same_sets, same_indices, same_edges, same_value, told, unequal}
use Rattle.vf_spans.proofs.spans.Spans.is_same.Goals as goal

pub returns-then-self-other-clause-value : goal.returns-then-self-other-clause-value
returns-then-self-other-clause-value c =
    let test = told c.eq.result c.as_slice.result.now c.as_slice-then-self-other.result.now c.eq.ensures in (
      λ t. same_value c.self.inside.bound c.other.inside.bound (edges_of c.self.inside.edges) (edges_of c.other.inside.edges) c.args.self.now c.args.other.now c.self.view_is c.other.view_is c.if-self-other.true
          (sym c.as_slice.ensures.value ∙ test.0 t ∙ c.as_slice-then-self-other.ensures.value),
      λ e. test.1 (c.as_slice.ensures.value ∙ (same_edges c.self.inside.bound c.other.inside.bound (edges_of c.self.inside.edges) (edges_of c.other.inside.edges) c.args.self.now c.args.other.now c.self.invariant c.other.invariant c.self.view_is c.other.view_is e).1 ∙ sym c.as_slice-then-self-other.ensures.value),
    )

pub returns-then-self-other-clause-indices : goal.returns-then-self-other-clause-indices
returns-then-self-other-clause-indices c =
    let value = returns-then-self-other-clause-value c in
    (λ t. same_indices c.args.self.now c.args.other.now (value.0 t), λ h. value.1 (same_sets c.args.self.now c.args.other.now h))

pub returns-else-self-other-clause-value : goal.returns-else-self-other-clause-value
returns-else-self-other-clause-value c = (
  λ t. absurd (unequal c.self.inside.bound c.other.inside.bound c.if-self-other.false t),
  λ e. absurd (c.if-self-other.false (same_edges c.self.inside.bound c.other.inside.bound (edges_of c.self.inside.edges) (edges_of c.other.inside.edges) c.args.self.now c.args.other.now c.self.invariant c.other.invariant c.self.view_is c.other.view_is e).0),
)

pub returns-else-self-other-clause-indices : goal.returns-else-self-other-clause-indices
returns-else-self-other-clause-indices c =
    let value = returns-else-self-other-clause-value c in
    (λ t. same_indices c.args.self.now c.args.other.now (value.0 t), λ h. value.1 (same_sets c.args.self.now c.args.other.now h))
