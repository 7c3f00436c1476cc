use Rattle.std.proofs.Common.{arith, ap, sym, subst, List, [], ◌∷◌, length, length-append}
use Rattle.std.proofs.lemmas.List.{take_all}
use Rattle.job_counts.specs.declared.totals.Answer.{Answer}
use Rattle.edit_plan.specs.declared.query.Query.{Query}
use Rattle.strip_turns.specs.Passes.{card}
use Rattle.worker_gate.specs.Asking.{AskedAll}
use Rattle.worker_gate.proofs.Answering.{logged_none, asked_none, asked_more, one_more, stopped_logged}
use Rattle.worker_gate.proofs.asker.ask_all.Goals as goal

pub returns-in_default-clause-told : goal.returns-in_default-clause-told
returns-in_default-clause-told g c = logged_none c.args.pass.now.seat.me.0

pub loop-query-init : goal.loop-query-init
loop-query-init g c =
    let e = c.in-Ok.ensures in
    let b = c.args.board.now in
    let v = c.args.pass.now.seat.me.0 in (
      c.requires.pass,
      subst (λ (l : List Answer). AskedAll (card b) [] l v v) (sym e.items) (asked_none (card b) v),
      ap length e.items,
      e.capacity,
    )

pub loop-query-preserved : goal.loop-query-preserved
loop-query-preserved g c =
    let b = c.args.board.now in
    let i = c.loop-query.query-index in
    let inv = c.loop-query.invariant in
    let answers = c.loop-query.answers.items in
    let told = c.in-Ok-ask.ensures.told in
    let more = asked_more (card b) _ _ answers c.in-Ok-ask.answer _ _ _ inv.1 told in
    let e = c.push_reserved.ensures in
    let asked = one_more (card b) c.args.queries.now i _ answers c.push_reserved.new.self.items c.in-Ok-ask.answer
    c.args.pass.now.seat.me.0 c.ask.new.pass.seat.me.0 c.loop-query-test.true e.items more in
    let all = ap length e.items in
    let size = length-append answers (c.in-Ok-ask.answer ∷ []) in
    (c.in-Ok-ask.ensures.pass, asked, omega (arith, all, size, inv.2), omega (arith, inv.3, e.capacity))

pub push_reserved-requires : goal.push_reserved-requires
push_reserved-requires g c =
    let inv = c.loop-query.invariant in let size = c.loop-query.answers.ok.0 in omega (arith, c.loop-query-test.true, inv.2, inv.3, size)

pub returns-in-Err-clause-pass : goal.returns-in-Err-clause-pass
returns-in-Err-clause-pass g c = c.ask.ensures.pass

pub returns-clause-told : goal.returns-clause-told
returns-clause-told g c =
    let inv = c.loop-query.invariant in let v = c.args.pass.now.seat.me.0 in let w = c.loop-query.pass.seat.me.0 in
    subst (λ (qs : List Query). AskedAll (card c.args.board.now) qs c.loop-query.answers.items v w)
    (take_all c.loop-query.query-index c.args.queries.now (omega (arith, c.loop-query-test.false))) inv.1

pub ask-requires-clause-pass : goal.ask-requires-clause-pass
ask-requires-clause-pass g c = c.loop-query.invariant.0

pub ask-requires-clause-query : goal.ask-requires-clause-query
ask-requires-clause-query g c = c.requires.queries c.loop-query.query-index _ c.loop-query-test.true

pub returns-clause-pass : goal.returns-clause-pass
returns-clause-pass g c = c.loop-query.invariant.0

pub returns-in-Err-clause-told : goal.returns-in-Err-clause-told
returns-in-Err-clause-told g c =
    stopped_logged (card c.args.board.now) _ c.loop-query.answers.items _ _ _ _ _ _ c.loop-query.invariant.1 c.in-Err.ensures.told
