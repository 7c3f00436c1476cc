use Rattle.std.proofs.Common.{arith, rules, ◌≡◌, ◌≤◌, ⊎_elim, inl, inr, refl, sym, ◌∙◌, ap, not, ◌+◌, length}
use Rattle.vf_spans.proofs.Walk.{agreed_paired, agreed_set, turn, one_within, odd, equal_flags, other_flag, odd_push}
use Rattle.vf_spans.proofs.merge.combine_edges.Goals as goal

pub past-i-requires-clause-ascends : goal.past-i-requires-clause-ascends
past-i-requires-clause-ascends c = c.requires.first

pub past-i-requires-clause-within : goal.past-i-requires-clause-within
past-i-requires-clause-within c = c.loop-i.invariant.1.i_in

pub past-i-requires-clause-least : goal.past-i-requires-clause-least
past-i-requires-clause-least c = c.next_edge-edge.ensures.first

pub past-j-requires-clause-ascends : goal.past-j-requires-clause-ascends
past-j-requires-clause-ascends c = c.requires.second

pub past-j-requires-clause-within : goal.past-j-requires-clause-within
past-j-requires-clause-within c = c.loop-i.invariant.1.j_in

pub past-j-requires-clause-least : goal.past-j-requires-clause-least
past-j-requires-clause-least c = c.next_edge-edge.ensures.second

pub loop-i-preserved : goal.loop-i-preserved
loop-i-preserved c =
    let inv = c.loop-i.invariant in
    let e = c.next_edge-edge.result in
    let low : inv.0 ≤ e = ⊎_elim (λ t. let q = inv.1.a_from c.loop-i.i (omega arith) t.0 in omega arith) (λ t. let q = inv.1.b_from c.loop-i.j (omega arith) t.0 in omega arith) c.next_edge-edge.ensures.one_of_them in (
      e + 1,
      turn c.args.operation c.args.a.now c.args.b.now c.loop-i.out.items c.loop-i.out.items c.loop-i.i c.loop-i.j c.past-i.result c.past-j.result inv.0 e inv.1 low (one_within c.args.a.now c.args.b.now c.loop-i.i c.loop-i.j e c.next_edge-edge.ensures.one_of_them) c.past-i.ensures c.past-j.ensures (inl refl)
          (sym c.combine.ensures ∙ equal_flags c.combine.result (odd c.len.result) c.if-combine-len.false ∙ ap odd (let l : c.len.result ≡ length c.loop-i.out.items = search rules in l)),
    )

pub loop-i-preserved-in-Continue-branch-2 : goal.loop-i-preserved-in-Continue-branch-2
loop-i-preserved-in-Continue-branch-2 c =
    let inv = c.loop-i.invariant in
    let e = c.next_edge-edge.result in
    let low : inv.0 ≤ e = ⊎_elim (λ t. let q = inv.1.a_from c.loop-i.i (omega arith) t.0 in omega arith) (λ t. let q = inv.1.b_from c.loop-i.j (omega arith) t.0 in omega arith) c.next_edge-edge.ensures.one_of_them in (
      e + 1,
      turn c.args.operation c.args.a.now c.args.b.now c.loop-i.out.items c.push.new.self.items c.loop-i.i c.loop-i.j c.past-i.result c.past-j.result inv.0 e inv.1 low (one_within c.args.a.now c.args.b.now c.loop-i.i c.loop-i.j e c.next_edge-edge.ensures.one_of_them) c.past-i.ensures c.past-j.ensures (inr c.in_ok-push.ensures.items)
          (sym c.combine.ensures ∙ other_flag c.combine.result (odd c.len.result) c.if-combine-len.true ∙ ap (λ n. not (odd n)) (let l : c.len.result ≡ length c.loop-i.out.items = search rules in l) ∙ sym (odd_push c.loop-i.out.items e) ∙ ap (λ l. odd (length l)) (sym c.in_ok-push.ensures.items)),
    )

pub returns-clause-edges : goal.returns-clause-edges
returns-clause-edges c =
    let l = c.loop-i in
    let agrees = l.invariant.1 in
    λ bound first second. record {
      ascends = agrees.out_ascends;
      within = agrees.out_within bound first.within second.within;
      paired = agreed_paired c.args.operation c.args.a.now c.args.b.now l.out.items l.i l.j l.invariant.0 agrees c.if-i-a.false c.if-j-b.false first.paired second.paired;
    }

pub returns-clause-set : goal.returns-clause-set
returns-clause-set c =
    let l = c.loop-i in
    agreed_set c.args.operation c.args.a.now c.args.b.now l.out.items l.i l.j l.invariant.0 l.invariant.1 c.if-i-a.false c.if-j-b.false
