use Rattle.std.proofs.Common.{arith, ap, subst, length, ◌≡◌, ◌<◌, ◌∙◌, ◌%◌}
use Rattle.ray_grid.specs.Grids.{GridSize}
use Rattle.ray_grid.specs.Strips.{strips_of}
use Rattle.job_model.specs.Tasks.{PlanOf}
use Rattle.strip_turns.specs.Passes.{card}
use Rattle.worker_gate.specs.Workers.{OneTurn}
use Rattle.worker_gate.proofs.Rounds.{some_strips}
use Rattle.worker_gate.proofs.Working.{done_past, drawn_above, turn_number, turned, working_first, working_more}
use Rattle.worker_gate.proofs.worker.work.Goals as goal

pub loop-ticket-init : goal.loop-ticket-init
loop-ticket-init g c =
    let strips : c.first_of-round.result.strips ≡ length (strips_of (card c.args.board.now).plan.grid) =
    c.first_of-round.ensures ∙ c.strips.ensures ∙ ap (λ (g : GridSize). length (strips_of g)) c.grid.ensures
    ∙ ap (λ (p : PlanOf). length (strips_of p.grid)) c.plan.ensures.card in (
      working_first c.args.board.now c.claim-ticket.result c.args.worker.now c.claim-ticket.new.pass c.requires
          c.claim-ticket.ensures.pass c.claim-ticket.ensures.drew,
      strips,
    )

pub strip_of-strip-requires : goal.strip_of-strip-requires
strip_of-strip-requires g c =
    let strips = c.loop-ticket.invariant.1 in
    let due = c.turns_due-due.ensures.due in
    let turn = c.loop-ticket-test.true in
    let some = some_strips (length (strips_of (card c.args.board.now).plan.grid)) _ c.loop-ticket.ticket (subst (λ n. c.loop-ticket.ticket < n) due turn) in
    omega (arith, strips, some)

pub loop-ticket-smaller : goal.loop-ticket-smaller
loop-ticket-smaller g c =
    let b = c.args.board.now in
    let one = turned b _ _ c.turn-turned.result _ _ c.turn-turned.ensures.told c.is_short.ensures c.if-is_short.false in
    let above = drawn_above b _ c.loop-ticket.ticket _ c.claim-ticket-in-loop-ticket.result c.loop-ticket.worker _ c.loop-ticket.invariant.0 one
    c.claim-ticket-in-loop-ticket.ensures.above in
    omega (arith, above, c.loop-ticket-test.true)

pub loop-ticket-preserved : goal.loop-ticket-preserved
loop-ticket-preserved g c =
    let b = c.args.board.now in
    let t = c.loop-ticket.ticket in
    let next = c.claim-ticket-in-loop-ticket in
    let old = c.loop-ticket.worker.pass.seat.me.0 in
    let new = c.turn-turned.new.pass.seat.me.0 in
    let one = turned b _ _ c.turn-turned.result _ _ c.turn-turned.ensures.told c.is_short.ensures c.if-is_short.false in
    let above = drawn_above b _ t _ next.result c.loop-ticket.worker _ c.loop-ticket.invariant.0 one next.ensures.above in
    let inv = c.loop-ticket.invariant in
    let place = c.strip_of-strip.ensures in
    let strip : c.strip_of-strip.result ≡ t % length (strips_of (card b).plan.grid) = place.strip ∙ ap (λ n. t % n) inv.1 in
    let here : OneTurn (card b) (t % length (strips_of (card b).plan.grid)) old new = subst (λ k. OneTurn (card b) k old new) strip one in (
      working_more b _ t next.result c.loop-ticket.worker new next.new.pass inv.0
          (omega (arith, c.loop-ticket-test.true, c.turns_due-due.ensures.due)) here above next.ensures.pass next.ensures.drew,
      place.strips ∙ inv.1,
    )

pub returns : goal.returns
returns g c = record {
  done = done_past c.args.board.now _ c.loop-ticket.ticket c.loop-ticket.worker c.loop-ticket.invariant.0
      (omega (arith, c.loop-ticket-test.false, c.turns_due-due.ensures.due));
  number = c.loop-ticket.invariant.0.number;
}

pub returns-then-is_short-clause-number : goal.returns-then-is_short-clause-number
returns-then-is_short-clause-number g c =
    turn_number _ _ c.turn-turned.result _ _ c.turn-turned.ensures.told ∙ c.loop-ticket.invariant.0.number
