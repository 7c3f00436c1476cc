use Rattle.std.proofs.Common.{arith, inl, inr}
use Rattle.vf_spans.proofs.Tally.{tallied_on, all_counted, small, next_here}
use Rattle.vf_spans.proofs.stretches.count_numbers.Goals as goal

pub overflow_add-total : goal.overflow_add-total
overflow_add-total c =
    let l = c.loop-i in
    let next = next_here c.args.a.now c.args.b.now c.args.c.now l.i l.j l.k l.from l.total c.next_edge.result c.sooner-edge.result l.invariant c.next_edge.ensures.one_of_them c.sooner-edge.ensures.one_of_them in
    let most = small c.args.a.now c.args.b.now c.args.c.now l.i l.j l.k l.from c.sooner-edge.result l.total c.stretch-total.result l.invariant next.0 c.stretch-total.ensures in
    omega arith

pub past-i-requires-clause-ascends : goal.past-i-requires-clause-ascends
past-i-requires-clause-ascends c = c.requires.first

pub past-i-requires-clause-within : goal.past-i-requires-clause-within
past-i-requires-clause-within c = c.loop-i.invariant.first.place

pub past-i-requires-clause-least : goal.past-i-requires-clause-least
past-i-requires-clause-least c = λ lt. let late = c.sooner-edge.ensures.not_later in let least = c.next_edge.ensures.first lt in omega arith

pub past-j-requires-clause-ascends : goal.past-j-requires-clause-ascends
past-j-requires-clause-ascends c = c.requires.second

pub past-j-requires-clause-within : goal.past-j-requires-clause-within
past-j-requires-clause-within c = c.loop-i.invariant.second.place

pub past-j-requires-clause-least : goal.past-j-requires-clause-least
past-j-requires-clause-least c = λ lt. let late = c.sooner-edge.ensures.not_later in let least = c.next_edge.ensures.second lt in omega arith

pub past-k-requires-clause-ascends : goal.past-k-requires-clause-ascends
past-k-requires-clause-ascends c = c.requires.third

pub past-k-requires-clause-within : goal.past-k-requires-clause-within
past-k-requires-clause-within c = c.loop-i.invariant.third.place

pub past-k-requires-clause-least : goal.past-k-requires-clause-least
past-k-requires-clause-least c = c.sooner-edge.ensures.next

pub loop-i-preserved : goal.loop-i-preserved
loop-i-preserved c =
    let l = c.loop-i in
    let next = next_here c.args.a.now c.args.b.now c.args.c.now l.i l.j l.k l.from l.total c.next_edge.result c.sooner-edge.result l.invariant c.next_edge.ensures.one_of_them c.sooner-edge.ensures.one_of_them in
    let late = c.sooner-edge.ensures.not_later in
    tallied_on c.args.a.now c.args.b.now c.args.c.now l.i l.j l.k c.past-i.result c.past-j.result c.past-k.result l.from c.sooner-edge.result l.total c.stretch-total.result l.invariant
    c.requires.first c.requires.second c.requires.third
    (λ lt. let q = c.next_edge.ensures.first lt in omega arith) (λ lt. let q = c.next_edge.ensures.second lt in omega arith) c.sooner-edge.ensures.next
    next.0 next.1 c.past-i.ensures c.past-j.ensures c.past-k.ensures c.stretch-total.ensures

pub returns-else-j-b : goal.returns-else-j-b
returns-else-j-b c =
    let l = c.loop-i in
    λ bound ha hb hc. all_counted c.args.a.now c.args.b.now c.args.c.now l.i l.j l.k l.from l.total bound l.invariant (inr (let q = c.if-j-b.false in omega arith)) ha hb hc

pub returns-after-loop-i : goal.returns-after-loop-i
returns-after-loop-i c =
    let l = c.loop-i in
    λ bound ha hb hc. all_counted c.args.a.now c.args.b.now c.args.c.now l.i l.j l.k l.from l.total bound l.invariant (inl (let q = c.loop-i-test.false in omega arith)) ha hb hc
