use Rattle.std.proofs.Common.{◌≡◌, ◌+◌, ◌*◌, ◌-◌, arith, sym, ap, ◌∙◌, take, get_or, subst, List, ℕ}
use Rattle.std.proofs.lemmas.List.{take_all}
use Rattle.std.specs.List.{sum_by}
use Rattle.vf_spans.specs.Edges.{edges_of, AreEdges}
use Rattle.vf_spans.proofs.Ranges.{pairs}
use Rattle.vf_spans.proofs.Counts.{span_of, total_more, total_part, total_is, length-pairs}
use Rattle.vf_spans.proofs.spans.Spans.count.Goals as goal

pub overflow_add-total-in-loop-n : goal.overflow_add-total-in-loop-n
overflow_add-total-in-loop-n c =
    let xs = c.as_slice-edges.result.now in
    let edges : AreEdges c.self.inside.bound xs = subst (λ (z : List ℕ). AreEdges c.self.inside.bound z) (sym c.as_slice-edges.ensures.value) c.self.invariant in
    let more = total_more xs c.loop-n.n c.loop-n-test.true in
    let part = total_part c.self.inside.bound xs (c.loop-n.n + 1) edges in
    let so_far : c.loop-n.total ≡ sum_by span_of (take c.loop-n.n (pairs xs)) = c.loop-n.invariant in
    omega arith

pub loop-n-preserved : goal.loop-n-preserved
loop-n-preserved c =
    let xs = c.as_slice-edges.result.now in
    let so_far : c.loop-n.total ≡ sum_by span_of (take c.loop-n.n (pairs xs)) = c.loop-n.invariant in
    ap (λ t. t + (get_or xs (2 * c.loop-n.n + 1) 0 - get_or xs (2 * c.loop-n.n) 0)) so_far ∙ sym (total_more xs c.loop-n.n c.loop-n-test.true)

pub returns : goal.returns
returns c =
    let xs = c.as_slice-edges.result.now in
    let so_far : c.loop-n.total ≡ sum_by span_of (take c.loop-n.n (pairs xs)) = c.loop-n.invariant in
    so_far
    ∙ ap (sum_by span_of) (take_all c.loop-n.n (pairs xs) (let q = length-pairs xs in omega arith))
    ∙ ap (λ z. sum_by span_of (pairs z)) c.as_slice-edges.ensures.value
    ∙ total_is c.self.inside.bound (edges_of c.self.inside.edges) c.args.self.now c.self.invariant c.self.view_is
