use Rattle.std.proofs.Common.{◌≡◌, sym, ap, ◌∙◌, refl, length, eqb}
use Rattle.vf_spans.specs.Edges.{edges_of, inside}
use Rattle.vf_spans.proofs.Below.{flag_is}
use Rattle.vf_spans.proofs.Tally.{none_inside, no_edge, edge_none}
use Rattle.vf_spans.proofs.spans.Spans.is_empty.Goals as goal

pub returns : goal.returns
returns c =
    let b = c.self.inside.bound in
    let es = edges_of c.self.inside.edges in
    let test : c.is_empty.result ≡ eqb (length es) 0 = c.is_empty.ensures ∙ ap (λ xs. eqb (length xs) 0) c.as_slice.ensures.value in (
      λ t i. sym (flag_is b es es c.args.self.now c.self.invariant c.self.view_is refl i) ∙ ap (λ z. inside z i) (no_edge es c.is_empty.result test t),
      λ none. edge_none es c.is_empty.result test (none_inside b es c.self.invariant (λ x. flag_is b es es c.args.self.now c.self.invariant c.self.view_is refl x ∙ none x)),
    )
