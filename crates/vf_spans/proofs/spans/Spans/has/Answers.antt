use Rattle.std.proofs.Common.{◌≡◌, ◌∙◌, sym, ap, rules, leb, subst, List, ℕ}
use Rattle.std.proofs.lemmas.List.Sorted.{IsPartitionPoint-from_clause}
use Rattle.vf_spans.specs.Edges.{edges_of, Ascends, inside}
use Rattle.vf_spans.specs.Members.{has}
use Rattle.vf_spans.proofs.Flags.{has-flags, inside_split, parted}
use Rattle.vf_spans.proofs.spans.Spans.has.Goals as goal

pub returns : goal.returns
returns c =
    let es = c.as_slice.result.now in
    let same : es ≡ (edges_of c.self.inside.edges) = c.as_slice.ensures.value in
    let ascends : Ascends es = subst (λ (z : List ℕ). Ascends z) (sym same) c.self.invariant.ascends in
    let point = IsPartitionPoint-from_clause (λ edge. leb edge c.args.i) _ _ c.partition_point.ensures.partitioned (parted es c.args.i ascends) (λ a r q k. search rules) in
    sym (inside_split es c.args.i c.partition_point.result c.partition_point.ensures.bound point)
    ∙ ap (λ z. inside z c.args.i) same
    ∙ sym (has-flags c.self.inside.bound (edges_of c.self.inside.edges) c.args.i c.self.invariant)
    ∙ ap (λ v. has v c.args.i) c.self.view_is
